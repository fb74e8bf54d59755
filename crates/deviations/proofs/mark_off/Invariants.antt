-- `deviations::mark_off` meets its contract: the nodes that are done have the voltages and marks that follow from those above them. Assumes nothing.
use Rattle.deviations.proofs.Marks.{MarkedTo}
use Rattle.deviations.proofs.mark_off.Given as goal

abbrev pub invariant-loop-place : goal.invariant-loop-place
invariant-loop-place l =
    MarkedTo l.network.branches l.network.order l.network.source l.i l.reported l.network.tol l.worked l.off l.place
