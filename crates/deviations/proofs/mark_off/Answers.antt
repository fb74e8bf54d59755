-- `deviations::mark_off` meets its contract: the nodes that are done have the voltages and marks that follow from those above them. Assumes nothing.
use Rattle.std.proofs.Common.{◌≡◌, ap, ◌+◌, get_or, arith, add-one}
use Rattle.std.specs.Prelude.{not}
use Rattle.equations.specs.Limits.{far_within}
use Rattle.equations.specs.Sizes.{within3-more}
use Rattle.passes.specs.Along.{turn}
use Rattle.deviations.proofs.Marks.{marked-below, marked-first, marked-worked, marks-are}
use Rattle.deviations.proofs.mark_off.Goals as goal
use Rattle.deviations.proofs.mark_off.Goals.{then-off-b, else-off-b}

pub loop-place-init : goal.loop-place-init
loop-place-init c =
    let d = c.requires.comparable in
    let net = c.args.network.now in
    marked-first net.branches net.order net.source c.args.i.now c.args.reported.now net.tol (rw d.first at (d.each 0))

pub close-requires-clause-within3 : goal.close-requires-clause-within3
close-requires-clause-within3 c =
    let m = get_or c.args.network.now.order c.loop-place.place 0 in
    let n = turn c.requires.ready c.loop-place.place (omega arith) (omega arith) in
    rw c.far_voltage-y.ensures
    (within3-more {m = 7000000000000} (far_within _ (c.requires.ready.fine m n.below n.known) (c.loop-place.invariant.each _ c.if-off-b.false) (c.requires.by_index m n.below n.known)) tt)

pub loop-place-preserved : goal.loop-place-preserved
loop-place-preserved c =
    let l = c.loop-place in
    rw add-one
    (elim c.if-off-b.branch [
      | then-off-b w ↦
          rw (w.worked-is, w.off-is)
          (marked-below c.requires.ready _ c.args.i.now c.args.reported.now _ l.worked l.off l.place (omega arith) (omega arith) l.invariant w.if-off-b.true)
      | else-off-b w ↦
          rw (w.worked-is, w.off-is)
          (marked-worked c.requires.ready _ c.args.i.now c.args.reported.now _ l.worked l.off l.place (omega arith) (omega arith) l.invariant c.requires.comparable w.if-off-b.false _ _
          w.far_voltage-y.ensures (ap not w.close.ensures))
    ])

pub returns-clause-value : goal.returns-clause-value
returns-clause-value c = λ f w s.
    let k : c.loop-place.place ≡ c.args.network.now.rows + 1 = omega arith in
    marks-are c.requires.ready _ c.args.i.now c.args.reported.now _ f w s c.requires.comparable.first c.loop-place.worked c.loop-place.off (rw k at c.loop-place.invariant)
