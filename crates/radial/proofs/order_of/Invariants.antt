-- `radial::order_of` meets its contract: the climb and each pass go on from an order, and the last leaves none to place. Assumes nothing.
use Prim.Native.Nat.{◌+◌, ◌-◌}
use Rattle.radial.specs.Radial.{Placed}
use Rattle.radial.proofs.order_of.Given as goal

abbrev pub invariant-loop-to : goal.invariant-loop-to
invariant-loop-to l = Placed l.network.branches l.network.rows l.to

abbrev pub decreases-loop-to : goal.decreases-loop-to
decreases-loop-to l = l.network.rows + 1 - l.to.len
