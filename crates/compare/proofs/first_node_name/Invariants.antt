-- `compare::first_node_name` meets its contract: no node passed has another name. Assumes nothing.
use mathlib.Core.Bool.{false}
use mathlib.Core.Path.{◌≡◌}
use Prim.Native.Nat.{◌<◌, ℕ}
use Rattle.compare.specs.Compare.{node_name_differs}
use Rattle.compare.proofs.first_node_name.Given as goal

abbrev pub invariant-loop-k : goal.invariant-loop-k
invariant-loop-k l = (j : ℕ) → j < l.k → node_name_differs l.network.nodes l.names j ≡ false
