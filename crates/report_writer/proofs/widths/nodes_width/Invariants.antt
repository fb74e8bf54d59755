-- `report_writer::widths::nodes_width` meets its contract: at each turn the width so far and that of the lines that are left make up the whole. Assumes nothing.
use mathlib.Core.Path.{◌≡◌}
use Prim.Native.Nat.{◌*◌, ◌+◌, ◌≤◌}
use lib.ListN.{length}
use Rattle.report_writer.specs.Tables.{lines_from, node_line_at}
use Rattle.report_writer.proofs.widths.nodes_width.Given as goal

abbrev pub invariant-loop-k : goal.invariant-loop-k
invariant-loop-k l =
    let g = node_line_at l.network l.v in
    record { whole : l.width + length (lines_from g l.k l.network.rows) ≡ 42 + length (lines_from g 0 l.network.rows); size : l.width ≤ 42 + 141 * l.k }
