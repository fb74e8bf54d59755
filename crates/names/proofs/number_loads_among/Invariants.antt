-- `number_loads_among` meets its contract: the loads of the rows that passed stand in the array. Assumes nothing.
use mathlib.Core.List.{[]}
use mathlib.Core.Path.{◌≡◌}
use lib.ListN.{length, replicate, take}
use Rattle.feeder.specs.Feeder.{load_of}
use Rattle.feeder.specs.Layout.{Rows}
use Rattle.feeder.specs.Network.{kept, no_load, no_load_row}
use Rattle.names.specs.Numbering.{filled}
use Rattle.names.proofs.number_loads_among.Given as goal

abbrev pub invariant-loop-i : goal.invariant-loop-i
invariant-loop-i l =
    (r : Rows) → l.tables.loads ≡ kept no_load_row 300 r.loads → l.tables.count ≡ length r.loads → l.initial.loads ≡ replicate 300 no_load → l.loads ≡ kept no_load 300 (filled (load_of (take l.n l.nodes)) [] r.loads l.i)
