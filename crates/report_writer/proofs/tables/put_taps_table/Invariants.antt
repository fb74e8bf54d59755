-- `report_writer::tables::put_taps_table` meets its contract: at each turn the lines of the rows that are left are due. Assumes nothing.
use mathlib.Core.List.{[]}
use Rattle.report_writer.specs.Tables.{tap_line_at}
use Rattle.report_writer.specs.Writing.{Writing}
use Rattle.report_writer.proofs.tables.put_taps_table.Given as goal

abbrev pub invariant-loop-k : goal.invariant-loop-k
invariant-loop-k l = Writing (tap_line_at l.network) [] l.network.rows 1 l.initial.out l.initial.at l.out l.at l.k
