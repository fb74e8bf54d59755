-- `radial::order_of` meets its contract: the climb and each pass go on from an order, and the last leaves none to place. Assumes nothing.
use Rattle.radial.proofs.Placing.{finished, full, start}
use native.Mathlib.Omega.{arith}
use Rattle.radial.proofs.order_of.Goals as goal

pub climb-requires : goal.climb-requires
climb-requires c = start c.requires

pub returns-after-loop-to : goal.returns-after-loop-to
returns-after-loop-to c = let p = c.loop-to.invariant in finished p (full p (omega arith))
