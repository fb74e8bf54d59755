-- `compare::first_absent` meets its contract: no node passed has a voltage on an absent phase. Assumes nothing.
use mathlib.Core.Bool.{not}
use mathlib.Core.Path.{◌∙◌, ◌≡◌, ap, sym}
use native.Mathlib.Omega.{arith}
use borrow.Author.Count.{below_more}
use Rattle.feeder.specs.RowLaws.{none-nodes}
use Rattle.passes.specs.Nodes.{first-node}
use Rattle.compare.specs.Compare.{absent_differs}
use Rattle.compare.specs.Tied.{absent-at, source-present}
use Rattle.compare.proofs.first_absent.Goals as goal
use Rattle.compare.proofs.first_absent.Goals.{After-absent_zero}

-- what was tested is the voltage of node k
tested : (c : After-absent_zero) → let a = c.args in let k = c.loop-k.k in
    absent_differs a.network.now.branches a.voltages.now k ≡ not c.absent_zero.result
tested c =
    let a = c.args in
    absent-at a.network.now.branches a.voltages.now c.loop-k.k (omega arith) c.absent_zero.ensures

pub loop-k-init : goal.loop-k-init
loop-k-init c = λ j q. let z : j ≡ 0 = omega arith in rw z (source-present c.args.network.now.branches c.args.voltages.now)

pub returns-then-not-absent_zero : goal.returns-then-not-absent_zero
returns-then-not-absent_zero c =
    let l = c.loop-k in
    let a = c.args in
    sym (first-node (absent_differs a.network.now.branches a.voltages.now) a.network.now.rows l.k (omega arith) l.invariant (tested (goal.at.returns-then-not-absent_zero c).After-absent_zero ∙ ap not c.if-not-absent_zero.true))

pub loop-k-preserved : goal.loop-k-preserved
loop-k-preserved c =
    let l = c.loop-k in
    below_more _ _ l.invariant (tested (goal.at.loop-k-preserved c).After-absent_zero ∙ ap not c.if-not-absent_zero.false)

pub returns : goal.returns
returns c =
    let a = c.args in
    sym (none-nodes (absent_differs a.network.now.branches a.voltages.now) 1 a.network.now.rows (λ j q. c.loop-k.invariant j (omega arith)))
