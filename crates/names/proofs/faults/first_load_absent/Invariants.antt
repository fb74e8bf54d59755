-- `faults::first_load_absent` meets its contract: what the definition gives at the first row it gives at row i + 1. Assumes nothing.
use mathlib.Core.Path.{◌≡◌}
use Prim.Native.Nat.{◌+◌}
use lib.ListN.{take}
use Rattle.feeder.specs.Feeder.{first_row}
use Rattle.names.specs.Numbered.{load_absent}
use Rattle.names.specs.Rest.{rest}
use Rattle.names.proofs.faults.first_load_absent.Given as goal

abbrev pub invariant-loop-i : goal.invariant-loop-i
invariant-loop-i l =
    first_row (load_absent l.network.branches) (l.network.rows + 6) 1 (take l.network.count l.network.loads) ≡ first_row (load_absent l.network.branches) (l.network.rows + 6) (l.i + 1) (rest l.i l.network.count l.network.loads)
