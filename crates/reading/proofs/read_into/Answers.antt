-- `reading::read_into` meets its contract: the length, the layout and 11 in this order, and what follows. Assumes nothing.
use Rattle.std.specs.Prelude.{Err}
use Rattle.std.proofs.lemmas.Result.{err_from_is_err_and}
use mathlib.Core.Path.{◌∙◌, ◌≡◌, ap, refl, sym}
use Rattle.answers.specs.declared.Refusal.{Refusal}
use Rattle.answers.specs.declared.Refusal.TheVariants.{OutOfLimit}
use Rattle.feeder.specs.Feeder.{out_of_limit}
use Rattle.feeder.specs.Layout.{layout}
use Rattle.feeder.proofs.RowFacts.{few-branches, few-loads}
use Rattle.reading.specs.Laid.{read-bad, read-laid, read-long}
use Rattle.reading.specs.Reading.{into-refused, into-same}
use Rattle.feeder.specs.Stages.{from11, from20}
use Rattle.reading.specs.Stages.{goes_on, stopped}
use Rattle.tables.specs.LayoutLaws.{Laid, laid, unlaid}
use borrow.Author.Tests.{le-ltb, lt-ltb}
use native.Mathlib.Omega.{arith}
use Rattle.reading.proofs.read_into.Goals as goal
use Rattle.reading.proofs.read_into.Goals.{After-first_out}

-- the rows of a file whose layout is good, and 11
found : (c : After-first_out) → Laid (layout c.args.file.now) c.read_layout.new.tables
found c = laid c.in_ok-read_layout.ensures.value

out-is : (c : After-first_out) → c.first_out.result ≡ out_of_limit (found c).rows
out-is c = c.first_out.ensures (found c).rows (found c).held.tabled

pub returns-then-long : goal.returns-then-long
returns-then-long c = into-refused (read-long _ (lt-ltb _ _ c.if-long.true)) refl

pub returns-in_err-read_layout : goal.returns-in_err-read_layout
returns-in_err-read_layout c =
    let p = err_from_is_err_and c.from_residual.result c.from_residual.ensures.1 in
    into-refused (read-bad _ _ (le-ltb _ _ c.if-long.false) (unlaid _ c.in_err-read_layout.ensures.value)) (p.1 ∙ ap (λ (r : Refusal). Err r) p.2)

pub returns-in-Some : goal.returns-in-Some
unfolding from11
returns-in-Some c =
    let p = (goal.at.returns-in-Some c).After-first_out in
    let w = found p in
    into-same (read-laid _ w.rows (le-ltb _ _ c.if-long.false) w.whole) (into-refused (stopped OutOfLimit (from20 w.rows) (sym (out-is p) ∙ c.in-Some.is)) refl)

pub read_names-requires-clause-stored : goal.read_names-requires-clause-stored
read_names-requires-clause-stored c =
    let p = (goal.at.read_names-requires-clause-stored c).After-first_out in
    let w = found p in
    let none = sym (out-is p) ∙ c.in_default.is in
    let h = w.held.tabled in
    record { read = w.rows; tabled = h; few-rows = omega (arith, h.rows, few-branches w.rows none); few-loads = omega (arith, h.count, few-loads w.rows none) }

pub returns : goal.returns
unfolding from11
returns c =
    let p = (goal.at.returns c).After-first_out in
    let w = found p in
    into-same (read-laid _ w.rows (le-ltb _ _ c.if-long.false) w.whole)
    (into-same (goes_on OutOfLimit (from20 w.rows) (sym (out-is p) ∙ c.in_default.is)) (c.read_names.ensures w.rows w.held.tabled))
