-- `report_writer::tables::put_branches` meets its contract: at each turn the lines of the rows that are left, and the empty line, are due. Assumes nothing.
use Rattle.report_writer.specs.Tables.{branch_line_at}
use Rattle.report_writer.specs.Writing.{Writing, empty_line}
use Rattle.report_writer.proofs.tables.put_branches.Given as goal

abbrev pub invariant-loop-row : goal.invariant-loop-row
invariant-loop-row l = Writing (branch_line_at l.network l.i l.losses) empty_line l.network.rows 1 l.initial.out l.initial.at l.out l.at l.row
