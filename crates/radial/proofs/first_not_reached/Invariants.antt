-- `radial::first_not_reached` meets its contract: every row passed has a rank. Assumes nothing.
use Prim.Native.Nat.{◌<◌, ℕ}
use lib.ListN.{get_or}
use Rattle.radial.proofs.first_not_reached.Given as goal

abbrev pub invariant-loop-i : goal.invariant-loop-i
invariant-loop-i l = (k : ℕ) → k < l.i → 0 < k → 0 < get_or l.order.rank k 0
