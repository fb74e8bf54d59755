-- `compare::losses_same` meets its contract: each row passed has its loss. Assumes nothing.
use mathlib.Core.Bool.{true}
use mathlib.Core.Path.{◌≡◌}
use Prim.Native.Nat.{◌<◌, ℕ}
use Rattle.compare.specs.Compare.{losses_same}
use Rattle.compare.proofs.losses_same.Given as goal

abbrev pub invariant-loop-k : goal.invariant-loop-k
invariant-loop-k l = (j : ℕ) → j < l.k → 0 < j → losses_same l.losses l.worked j ≡ true
