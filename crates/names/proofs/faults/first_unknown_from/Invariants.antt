-- `faults::first_unknown_from` meets its contract: what the definition gives at the first row it gives at row k. Assumes nothing.
use mathlib.Core.Path.{◌≡◌}
use Prim.Native.Nat.{◌+◌}
use lib.ListN.{length}
use Rattle.feeder.specs.Feeder.{first_row, unknown_from}
use Rattle.feeder.specs.Layout.{Rows}
use Rattle.names.specs.Numbered.{branches_in, from_unknown}
use Rattle.names.specs.Rest.{rest}
use Rattle.names.proofs.faults.first_unknown_from.Given as goal

abbrev pub invariant-loop-k : goal.invariant-loop-k
invariant-loop-k l =
    ((r : Rows) → l.network.branches ≡ branches_in r → l.network.rows ≡ length r.branches → first_row (from_unknown l.network.rows) 4 l.k (rest l.k (l.network.rows + 1) l.network.branches) ≡ unknown_from r)
