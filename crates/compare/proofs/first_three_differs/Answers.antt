-- `compare::first_three_differs` meets its contract: no row passed has another current. Assumes nothing.
use mathlib.Core.Bool.{not}
use mathlib.Core.Path.{◌∙◌, ◌≡◌, ap, sym}
use Prim.Native.Nat.{◌+◌, suc}
use native.Mathlib.Omega.{arith}
use borrow.Author.Count.{below_more}
use Rattle.feeder.specs.RowLaws.{none_rows}
use Rattle.compare.specs.Compare.{three_differs}
use Rattle.compare.specs.Scans.{equal-three, first-row}
use Rattle.compare.proofs.first_three_differs.Goals as goal
use Rattle.compare.proofs.first_three_differs.Goals.{After-ne}

-- the answer is whether the currents of row k differ
tested : (c : After-ne) → let a = c.args in c.ne.result ≡ three_differs a.reported.now a.worked.now c.loop-k.k
tested c = c.ne.ensures ∙ ap not (equal-three _ _)

pub returns-then-ne : goal.returns-then-ne
returns-then-ne c =
    let l = c.loop-k in
    let a = c.args in
    sym (first-row (three_differs a.reported.now a.worked.now) (a.rows + 4) a.rows l.k (omega arith) (omega arith) (λ j z q. l.invariant j q z) (sym (tested (goal.at.returns-then-ne c).After-ne) ∙ c.if-ne.true))

pub loop-k-preserved : goal.loop-k-preserved
loop-k-preserved c = below_more _ _ c.loop-k.invariant (λ z. sym (tested (goal.at.loop-k-preserved c).After-ne) ∙ c.if-ne.false)

pub returns : goal.returns
returns c =
    let a = c.args in
    sym (none_rows (three_differs a.reported.now a.worked.now) (a.rows + 4) a.rows (λ j q. c.loop-k.invariant (suc j) (omega arith) (omega arith)))
