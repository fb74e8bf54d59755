-- `report_writer::widths::branches_width` meets its contract: at each turn the width so far and that of the lines that are left make up the whole. Assumes nothing.
use mathlib.Core.Path.{◌≡◌}
use Prim.Native.Nat.{◌*◌, ◌+◌, ◌≤◌}
use lib.ListN.{length}
use Rattle.report_writer.specs.Tables.{branch_line_at, lines_from}
use Rattle.report_writer.proofs.widths.branches_width.Given as goal

abbrev pub invariant-loop-row : goal.invariant-loop-row
invariant-loop-row l =
    let g = branch_line_at l.network l.i l.losses in
    record { whole : l.width + length (lines_from g l.row l.network.rows) ≡ 59 + length (lines_from g 1 l.network.rows); size : l.width ≤ 59 + 194 * l.row }
