-- `radial::climb` meets its contract: the order stays one. Assumes nothing.
use Rattle.radial.specs.Radial.{Placed}
use Rattle.radial.proofs.climb.Given as goal

abbrev pub invariant-loop-node : goal.invariant-loop-node
invariant-loop-node l = Placed l.network.branches l.network.rows l.to
