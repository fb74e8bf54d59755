-- `limits::first_out` meets its contract: the source's row, then the branches, then the loads. Assumes nothing.
use mathlib.Core.Bool.{Bool}
use mathlib.Core.Path.{◌≡◌, sym, ap, ◌∙◌}
use Rattle.feeder.specs.Feeder.{source_in}
use Rattle.feeder.specs.Layout.{Rows}
use Rattle.feeder.specs.Network.{Tabled}
use Rattle.limits.specs.FirstRow.{out-source, out-branch, out-load}
use Rattle.limits.proofs.first_out.Goals as goal
use Rattle.limits.proofs.first_out.Goals.{After-source_in}

-- the source's test, of the file's row
tested : (c : After-source_in) (r : Rows) → Tabled r c.args.tables.now → (b : Bool) → c.source_in.result ≡ b → source_in r.given ≡ b
tested c r t b e = ap source_in (sym t.given) ∙ sym c.source_in.ensures ∙ e

pub returns-then-not-source_in : goal.returns-then-not-source_in
returns-then-not-source_in c = λ r t. out-source r (tested (goal.at.returns-then-not-source_in c).After-source_in r t _ c.if-not-source_in.true)

pub returns-in-Some : goal.returns-in-Some
returns-in-Some c = λ r t. out-branch r _ (tested (goal.at.returns-in-Some c).After-source_in r t _ c.if-not-source_in.false) (sym (c.in-Some.ensures r t.branches t.rows))

pub returns : goal.returns
returns c = λ r t. out-load r _ (tested (goal.at.returns c).After-source_in r t _ c.if-not-source_in.false) (sym (c.in_default.ensures r t.branches t.rows)) (rw t.rows at (c.first_load_out_behind.ensures r.loads t.loads t.count))
