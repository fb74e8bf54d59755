-- `compare::first_source_differs` meets its contract: the source's line, or else that of the first node with a voltage on an absent phase. Assumes nothing.
use Rattle.std.specs.Prelude.{Some, None}
use mathlib.Core.Bool.{Bool, cond, not}
use borrow.Author.Tests.{not-false, not-true}
use mathlib.Core.Path.{◌∙◌, ◌≡◌, ap, sym}
use lib.ListN.{get_or}
use Rattle.equations.specs.Equations.{zero3}
use Rattle.feeder.specs.Feeder.{or_else}
use Rattle.compare.specs.Compare.{absent_differs, node_scan}
use Rattle.compare.specs.Differences.{same3}
use Rattle.compare.specs.Scans.{equal-three}
use Rattle.compare.specs.Tied.{source-tied}
use Rattle.compare.proofs.first_source_differs.Goals as goal
use Rattle.compare.proofs.first_source_differs.Goals.{After-ne}

-- the answer is whether the source's voltage is not the reported one
tested : (c : After-ne) → let a = c.args in c.ne.result ≡ not (same3 (get_or a.voltages.now 0 zero3) a.network.now.source)
tested c = c.ne.ensures ∙ ap not (equal-three _ _)

pub returns-then-ne : goal.returns-then-ne
unfolding or_else
returns-then-ne c = λ f g x t h w s r b v.
    let a = c.args in
    sym (ap (λ (y : Bool). or_else (cond y None (Some 2)) (node_scan (absent_differs a.network.now.branches a.voltages.now) a.network.now.rows)) (not-true _ (sym (tested (goal.at.returns-then-ne c).After-ne) ∙ c.if-ne.true))) ∙ (λ j. or_else (cond (same3 (get_or a.voltages.now 0 zero3) (s j)) None (Some 2)) (node_scan (absent_differs (b j) a.voltages.now) (r j))) ∙ source-tied f g x t h w a.voltages.now v

pub returns : goal.returns
unfolding or_else
returns c = λ f g x t h w s r b v.
    let a = c.args in
    c.first_absent.ensures ∙ sym (ap (λ (y : Bool). or_else (cond y None (Some 2)) (node_scan (absent_differs a.network.now.branches a.voltages.now) a.network.now.rows)) (not-false _ (sym (tested (goal.at.returns c).After-ne) ∙ c.if-ne.false))) ∙ (λ j. or_else (cond (same3 (get_or a.voltages.now 0 zero3) (s j)) None (Some 2)) (node_scan (absent_differs (b j) a.voltages.now) (r j))) ∙ source-tied f g x t h w a.voltages.now v
