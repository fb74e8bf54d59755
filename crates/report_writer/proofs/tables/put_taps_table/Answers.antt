-- `report_writer::tables::put_taps_table` meets its contract: at each turn the lines of the rows that are left are due. Assumes nothing.
use mathlib.Core.List.{[], append-nil}
use Prim.Native.Nat.{◌+◌, ◌≤◌}
use native.Mathlib.Omega.{arith}
use lib.ListN.{length}
use Rattle.report_writer.specs.TableLaws.{tap-table-length}
use Rattle.report_writer.specs.Tables.{lines_from, tap_line_at, tap_table}
use Rattle.report_writer.specs.Writing.{due_from, line-room, line-written, none_written}
use Rattle.text.specs.Stores.{written_behind}
use Rattle.text.specs.Text.{bytes}
use Rattle.report_writer.proofs.tables.put_taps_table.Goals as goal
use Rattle.report_writer.proofs.tables.put_taps_table.Goals.{At-loop-k}

-- behind the column names there is room for the lines
room : (c : At-loop-k) →
    let a = c.args in
    c.put_bytes-at.result + length (due_from (tap_line_at a.network.now) [] 1 a.network.now.rows) ≤ length c.put_bytes-at.new.out
room c =
    let a = c.args in
    let g = tap_line_at a.network.now in
    rw (append-nil (lines_from g 1 a.network.now.rows)) (omega (arith, tap-table-length g a.network.now.rows, c.requires, c.put_bytes-at.ensures.next, c.put_bytes-at.auto.out))

pub put_tap_line-at-requires : goal.put_tap_line-at-requires
put_tap_line-at-requires c = record { k_bound = omega (arith, c.args.network.now.few_rows); k_in_bounds = line-room c.loop-k.invariant (omega arith) (room (goal.at.put_tap_line-at-requires c).At-loop-k) }

pub loop-k-preserved : goal.loop-k-preserved
loop-k-preserved c = line-written c.loop-k.invariant (omega arith) c.put_tap_line-at.ensures

pub returns : goal.returns
unfolding tap_table bytes
returns c = written_behind c.put_bytes-at.ensures (none_written c.loop-k.invariant (omega arith))
