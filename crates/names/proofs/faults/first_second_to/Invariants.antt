-- `faults::first_second_to` meets its contract: what the definition gives at the first row it gives at row k. Assumes nothing.
use mathlib.Core.Path.{◌≡◌}
use Prim.Native.Nat.{◌+◌}
use lib.ListN.{length, take}
use Rattle.feeder.specs.Feeder.{first_row, second_to}
use Rattle.feeder.specs.Layout.{Rows}
use Rattle.names.specs.Numbered.{nodes_in, to_second}
use Rattle.names.specs.Rest.{rest}
use Rattle.names.proofs.faults.first_second_to.Given as goal

abbrev pub invariant-loop-k : goal.invariant-loop-k
invariant-loop-k l =
    ((r : Rows) → l.network.nodes ≡ nodes_in r → l.network.rows ≡ length r.branches → first_row (to_second (take (l.network.rows + 1) l.network.nodes)) 4 l.k (rest l.k (l.network.rows + 1) l.network.nodes) ≡ second_to r)
