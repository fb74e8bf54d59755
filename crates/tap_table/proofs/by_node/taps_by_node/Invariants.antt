-- `tap_table::by_node::taps_by_node` meets its contract: at each turn the rows in front have their taps, and the rest is to be tested. Assumes nothing.
use mathlib.Core.Path.{◌≡◌}
use Prim.Native.Nat.{◌-◌, ◌<◌}
use lib.ListN.{length}
use Rattle.tap_table.specs.OwnRows.{fits_from, given_taps, regulators_before}
use Rattle.tap_table.proofs.by_node.taps_by_node.Given as goal

abbrev pub invariant-loop-k : goal.invariant-loop-k
invariant-loop-k l = record {
  few : l.j < l.k;
  counted : l.j ≡ length (regulators_before l.network.branches l.k);
  given : l.taps ≡ given_taps l.network.branches l.table (l.k - 1);
  fit : fits_from l.network.branches l.table 1 l.network.rows ≡ fits_from l.network.branches l.table l.k l.network.rows;
}
