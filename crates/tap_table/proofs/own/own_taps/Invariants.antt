-- `tap_table::own::own_taps` meets its contract: at each turn the rows in front are stored. Assumes nothing.
use Prim.Native.Nat.{◌<◌}
use Rattle.tap_table.specs.OwnRows.{OwnBefore}
use Rattle.tap_table.proofs.own.own_taps.Given as goal

abbrev pub invariant-loop-k : goal.invariant-loop-k
invariant-loop-k l = record { few : l.j < l.k; stored : OwnBefore l.network.nodes l.network.branches l.k l.j l.names l.taps }
