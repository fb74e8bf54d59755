-- `report_writer::widths::taps_width` meets its contract: at each turn the width so far and that of the lines that are left make up the whole. Assumes nothing.
use mathlib.Core.Path.{◌≡◌}
use Prim.Native.Nat.{◌*◌, ◌+◌, ◌≤◌}
use lib.ListN.{length}
use Rattle.report_writer.specs.Tables.{lines_from, tap_line_at}
use Rattle.report_writer.proofs.widths.taps_width.Given as goal

abbrev pub invariant-loop-k : goal.invariant-loop-k
invariant-loop-k l =
    let g = tap_line_at l.network in
    record { whole : l.width + length (lines_from g l.k l.network.rows) ≡ 21 + length (lines_from g 1 l.network.rows); size : l.width ≤ 21 + 75 * l.k }
