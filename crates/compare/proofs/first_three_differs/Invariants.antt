-- `compare::first_three_differs` meets its contract: no row passed has another current. Assumes nothing.
use mathlib.Core.Bool.{false}
use mathlib.Core.Path.{◌≡◌}
use Prim.Native.Nat.{◌<◌, ℕ}
use Rattle.compare.specs.Compare.{three_differs}
use Rattle.compare.proofs.first_three_differs.Given as goal

abbrev pub invariant-loop-k : goal.invariant-loop-k
invariant-loop-k l = (j : ℕ) → j < l.k → 0 < j → three_differs l.reported l.worked j ≡ false
