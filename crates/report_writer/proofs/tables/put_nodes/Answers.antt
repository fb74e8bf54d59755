-- `report_writer::tables::put_nodes` meets its contract: at each turn the lines of the nodes that are left, and the empty line, are due. Assumes nothing.
use mathlib.Core.List.{[], ◌∷◌}
use Prim.Native.Nat.{◌+◌, ◌≤◌}
use native.Mathlib.Omega.{arith}
use lib.ListN.{length, length-append}
use Rattle.report_writer.specs.TableLaws.{node-table-length}
use Rattle.report_writer.specs.Tables.{lines_from, node_line_at, node_table}
use Rattle.report_writer.specs.Writing.{due_from, empty_line, end-room, end-written, line-room, line-written}
use Rattle.text.specs.Stores.{written_behind}
use Rattle.text.specs.Text.{bytes}
use Rattle.report_writer.proofs.tables.put_nodes.Goals as goal
use Rattle.report_writer.proofs.tables.put_nodes.Goals.{At-loop-k}

-- behind the column names there is room for the lines and the empty line
room : (c : At-loop-k) →
    let a = c.args in
    c.put_bytes-at.result + length (due_from (node_line_at a.network.now a.v.now) empty_line 0 a.network.now.rows) ≤ length c.put_bytes-at.new.out
room c =
    let a = c.args in
    let g = node_line_at a.network.now a.v.now in
    omega (arith, node-table-length g a.network.now.rows, length-append (lines_from g 0 a.network.now.rows) (10 ∷ []), c.requires, c.put_bytes-at.ensures.next, c.put_bytes-at.auto.out)

pub put_node-at-requires : goal.put_node-at-requires
unfolding node_line_at
put_node-at-requires c = line-room c.loop-k.invariant (omega arith) (room (goal.at.put_node-at-requires c).At-loop-k)

pub loop-k-preserved : goal.loop-k-preserved
unfolding node_line_at
loop-k-preserved c = line-written c.loop-k.invariant (omega arith) c.put_node-at.ensures

pub put_byte-requires : goal.put_byte-requires
put_byte-requires c = end-room c.loop-k.invariant (omega arith) (room (goal.at.put_byte-requires c).At-loop-k)

pub returns : goal.returns
unfolding node_table bytes
returns c = written_behind c.put_bytes-at.ensures (end-written c.loop-k.invariant (omega arith) c.put_byte.ensures)
