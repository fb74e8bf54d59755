-- `compare::first_absent` meets its contract: no node passed has a voltage on an absent phase. Assumes nothing.
use mathlib.Core.Bool.{false}
use mathlib.Core.Path.{◌≡◌}
use Prim.Native.Nat.{◌<◌, ℕ}
use Rattle.compare.specs.Compare.{absent_differs}
use Rattle.compare.proofs.first_absent.Given as goal

abbrev pub invariant-loop-k : goal.invariant-loop-k
invariant-loop-k l = (j : ℕ) → j < l.k → absent_differs l.network.branches l.voltages j ≡ false
