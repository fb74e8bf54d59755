-- `faults::first_branch_absent` meets its contract: what the definition gives at the first row it gives at row k. Assumes nothing.
use mathlib.Core.Path.{◌≡◌}
use Prim.Native.Nat.{◌+◌}
use Rattle.feeder.specs.Feeder.{first_row}
use Rattle.names.specs.Numbered.{branch_absent}
use Rattle.names.specs.Rest.{rest}
use Rattle.names.proofs.faults.first_branch_absent.Given as goal

abbrev pub invariant-loop-k : goal.invariant-loop-k
invariant-loop-k l =
    first_row (branch_absent l.network.branches) 4 1 (rest 1 (l.network.rows + 1) l.network.branches) ≡ first_row (branch_absent l.network.branches) 4 l.k (rest l.k (l.network.rows + 1) l.network.branches)
