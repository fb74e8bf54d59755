-- `tap_table::taps::read_tap_table` meets its contract: at each turn the arrays hold the rows read so far, and the rows that are left are behind them. Assumes nothing.
use Rattle.tap_table.specs.TapTableLaws.{GoingTaps}
use Rattle.tap_table.proofs.taps.read_tap_table.Given as goal

abbrev pub invariant-loop-k : goal.invariant-loop-k
invariant-loop-k l = GoingTaps l.part l.count l.names l.taps l.at l.k
