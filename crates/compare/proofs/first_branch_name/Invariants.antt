-- `compare::first_branch_name` meets its contract: no row passed has other names. Assumes nothing.
use mathlib.Core.Bool.{false}
use mathlib.Core.Path.{◌≡◌}
use Prim.Native.Nat.{◌<◌, ℕ}
use Rattle.compare.specs.Compare.{names_differ}
use Rattle.compare.proofs.first_branch_name.Given as goal

abbrev pub invariant-loop-k : goal.invariant-loop-k
invariant-loop-k l = (j : ℕ) → j < l.k → 0 < j → names_differ l.network.nodes l.network.branches l.froms l.tos j ≡ false
