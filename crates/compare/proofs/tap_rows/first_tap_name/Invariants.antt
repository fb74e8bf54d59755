-- `compare::tap_rows::first_tap_name` meets its contract: at each turn the search from here on is the whole search. Assumes nothing.
use mathlib.Core.Path.{◌≡◌}
use Prim.Native.Nat.{◌<◌}
use Rattle.compare.specs.Compare.{tap_name_differs, tap_scan}
use Rattle.compare.proofs.tap_rows.first_tap_name.Given as goal

abbrev pub invariant-loop-k : goal.invariant-loop-k
invariant-loop-k l = record { before : l.j < l.k; rest : tap_scan (tap_name_differs l.network.nodes l.tap_names) l.network.branches l.network.rows 1 0 ≡ tap_scan (tap_name_differs l.network.nodes l.tap_names) l.network.branches l.network.rows l.k l.j }
