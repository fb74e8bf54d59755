-- `report_writer::tables::put_nodes` meets its contract: at each turn the lines of the nodes that are left, and the empty line, are due. Assumes nothing.
use Rattle.report_writer.specs.Tables.{node_line_at}
use Rattle.report_writer.specs.Writing.{Writing, empty_line}
use Rattle.report_writer.proofs.tables.put_nodes.Given as goal

abbrev pub invariant-loop-k : goal.invariant-loop-k
invariant-loop-k l = Writing (node_line_at l.network l.v) empty_line l.network.rows 0 l.initial.out l.initial.at l.out l.at l.k
