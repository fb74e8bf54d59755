-- `passes::downward_pass` meets its contract: the nodes that are done hold what follows from those above them, within their limit. Assumes nothing.
use Rattle.std.specs.Prelude.{suc, get_or, set}
use Rattle.std.proofs.Common.{◌∙◌, add-one, arith, sym}
use Rattle.equations.specs.Sizes.{beyond3-false}
use Rattle.passes.specs.Along.{turn}
use Rattle.passes.specs.Lower.{Lowered, lowered-all, lowered-beyond, lowered-first, lowered-next, sized-next}
use Rattle.passes.proofs.downward_pass.Goals as goal
use Rattle.passes.proofs.downward_pass.Goals.{After-far_voltage-y}

-- with the voltage that is worked in the turn
lowered : (c : After-far_voltage-y) → let net = c.args.network.now in
    Lowered net.branches net.rows net.order net.source c.args.i.now (set c.loop-next.v (get_or net.order c.loop-next.next 0) c.far_voltage-y.result) (suc c.loop-next.next)
lowered c = lowered-next c.requires.ready _ c.args.i.now c.loop-next.v c.loop-next.next (omega arith) (omega arith) _ c.far_voltage-y.ensures c.loop-next.invariant.0

pub loop-next-init : goal.loop-next-init
loop-next-init c =
    let net = c.args.network.now in (
      lowered-first net.branches net.rows net.order net.source c.args.i.now c.args.v.now c.requires.spare_2,
      sized-next c.args.v.now 0 net.source (omega (arith, c.requires.spare_2.long)) c.requires.within3 c.requires.by_index_2,
    )

pub returns-then-beyond-clause-value : goal.returns-then-beyond-clause-value
returns-then-beyond-clause-value c = λ f a s.
    lowered-beyond c.requires.ready _ c.args.i.now f a s c.loop-next.v c.loop-next.next _ (lowered (goal.at.returns-then-beyond-clause-value c).After-far_voltage-y) (omega arith) (omega arith)
    (omega (arith, c.loop-next.invariant.0.long)) (sym c.beyond.ensures ∙ c.if-beyond.true)

pub loop-next-preserved : goal.loop-next-preserved
loop-next-preserved c =
    let n = turn c.requires.ready c.loop-next.next (omega arith) (omega arith) in (
      rw add-one (lowered (goal.at.loop-next-preserved c).After-far_voltage-y),
      sized-next c.loop-next.v _ _ (omega (arith, n.room, c.loop-next.invariant.0.long)) (beyond3-false (sym c.beyond.ensures ∙ c.if-beyond.false)) c.loop-next.invariant.1,
    )

pub returns-clause-value : goal.returns-clause-value
returns-clause-value c = λ f w s. lowered-all c.requires.ready _ c.args.i.now f w s c.loop-next.v c.loop-next.next c.loop-next.invariant.0 (omega arith) c.loop-next.invariant.1
