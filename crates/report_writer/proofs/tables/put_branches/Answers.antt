-- `report_writer::tables::put_branches` meets its contract: at each turn the lines of the rows that are left, and the empty line, are due. Assumes nothing.
use mathlib.Core.List.{[], ◌∷◌}
use Prim.Native.Nat.{◌+◌, ◌≤◌}
use native.Mathlib.Omega.{arith}
use lib.ListN.{length, length-append}
use Rattle.report_writer.specs.TableLaws.{branch-table-length}
use Rattle.report_writer.specs.Tables.{branch_line_at, branch_table, lines_from}
use Rattle.report_writer.specs.Writing.{due_from, empty_line, end-room, end-written, line-room, line-written}
use Rattle.text.specs.Stores.{written_behind}
use Rattle.text.specs.Text.{bytes}
use Rattle.report_writer.proofs.tables.put_branches.Goals as goal
use Rattle.report_writer.proofs.tables.put_branches.Goals.{At-loop-row}

-- behind the column names there is room for the lines and the empty line
room : (c : At-loop-row) →
    let a = c.args in
    c.put_bytes-at.result + length (due_from (branch_line_at a.network.now a.i.now a.losses.now) empty_line 1 a.network.now.rows) ≤ length c.put_bytes-at.new.out
room c =
    let a = c.args in
    let g = branch_line_at a.network.now a.i.now a.losses.now in
    omega (arith, branch-table-length g a.network.now.rows, length-append (lines_from g 1 a.network.now.rows) (10 ∷ []), c.requires.rows_in_bounds, c.put_bytes-at.ensures.next, c.put_bytes-at.auto.out)

pub bounds-network-network : goal.bounds-network-network
bounds-network-network c = c.requires.linked c.loop-row.row c.loop-row.invariant.low (omega arith)

pub put_branch-at-requires : goal.put_branch-at-requires
unfolding branch_line_at
put_branch-at-requires c = line-room c.loop-row.invariant (omega arith) (room (goal.at.put_branch-at-requires c).At-loop-row)

pub loop-row-preserved : goal.loop-row-preserved
unfolding branch_line_at
loop-row-preserved c = line-written c.loop-row.invariant (omega arith) c.put_branch-at.ensures

pub put_byte-requires : goal.put_byte-requires
put_byte-requires c = end-room c.loop-row.invariant (omega arith) (room (goal.at.put_byte-requires c).At-loop-row)

pub returns : goal.returns
unfolding branch_table bytes
returns c = written_behind c.put_bytes-at.ensures (end-written c.loop-row.invariant (omega arith) c.put_byte.ensures)
