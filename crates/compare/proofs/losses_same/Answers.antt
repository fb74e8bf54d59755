-- `compare::losses_same` meets its contract: each row passed has its loss. Assumes nothing.
use mathlib.Core.Bool.{not}
use mathlib.Core.Path.{◌∙◌, ◌≡◌, ap, sym}
use borrow.Author.Tests.{not-false, not-true}
use Rattle.integers.specs.Equal.{equal-pair}
use Prim.Native.Nat.{◌+◌}
use native.Mathlib.Omega.{arith}
use borrow.Author.Count.{below_more}
use Rattle.integers.specs.ListLaws.{true-count}
use Rattle.compare.specs.Compare.{losses_same}
use Rattle.compare.specs.Scans.{not-all}
use Rattle.compare.proofs.losses_same.Goals as goal
use Rattle.compare.proofs.losses_same.Goals.{After-ne}

-- the answer is whether the losses of row k differ
tested : (c : After-ne) → let a = c.args in c.ne.result ≡ not (losses_same a.losses.now a.worked.now c.loop-k.k)
tested c = c.ne.ensures ∙ ap not (equal-pair _ _)

pub returns-then-ne : goal.returns-then-ne
returns-then-ne c =
    let l = c.loop-k in
    let a = c.args in
    sym (not-all (losses_same a.losses.now a.worked.now) a.rows l.k (omega arith) (omega arith) (not-true _ (sym (tested (goal.at.returns-then-ne c).After-ne) ∙ c.if-ne.true)))

pub loop-k-preserved : goal.loop-k-preserved
loop-k-preserved c = below_more _ _ c.loop-k.invariant (λ z. not-false _ (sym (tested (goal.at.loop-k-preserved c).After-ne) ∙ c.if-ne.false))

pub returns : goal.returns
returns c =
    let a = c.args in
    sym (true-count (losses_same a.losses.now a.worked.now) 1 a.rows (λ j q. c.loop-k.invariant (1 + j) (omega arith) (omega arith)))
