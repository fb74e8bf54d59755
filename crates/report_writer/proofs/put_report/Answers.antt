-- `report_writer::put_report` meets its contract: each table stands behind the one before it. Assumes nothing.
use mathlib.Core.List.{List}
use Prim.Native.Nat.{◌+◌, ◌-◌, ◌≤◌, ℕ}
use native.Mathlib.Omega.{arith}
use lib.ListN.{length}
use borrow.Rule.Slice.PartMut.{put_mid}
use Rattle.report_writer.specs.Left.{rest-room, written-front}
use Rattle.report_writer.specs.Tables.{branch_line_at, branch_table, node_line_at, node_table, tap_line_at, tap_table, totals_table, whole_text}
use Rattle.report_writer.specs.ReportIs.{report-is, whole_length}
use Rattle.text.specs.Stores.{written_behind, written-length, written-rest}
use Rattle.text.specs.Promises.{Written}
use Rattle.report_writer.proofs.put_report.Goals as goal
use Rattle.report_writer.proofs.put_report.Goals.{After-put_branches-second, After-put_nodes-first, After-put_taps_table-fourth, After-put_totals-third, Start}

-- the tables that are made of the arrays
abbrev nodesDue : Start → List ℕ
nodesDue c = let a = c.args in node_table (node_line_at a.network.now a.v.now) a.network.now.rows

abbrev branchesDue : Start → List ℕ
branchesDue c = let a = c.args in branch_table (branch_line_at a.network.now a.i.now a.losses.now) a.network.now.rows

abbrev totalsDue : Start → List ℕ
totalsDue c = totals_table c.args.figures

abbrev tapsDue : Start → List ℕ
tapsDue c = let a = c.args in tap_table (tap_line_at a.network.now) a.network.now.rows

-- there is room for all four
room : (c : Start) → length (nodesDue c) + length (branchesDue c) + length (totalsDue c) + length (tapsDue c) ≤ length c.args.out.now
room c = let a = c.args in omega (arith, whole_length a.network.now a.v.now a.i.now a.losses.now a.figures, c.requires.figures_in_bounds)

-- and behind the first for three
room-three : (c : After-put_nodes-first) → c.put_nodes-first.result + length (branchesDue (goal.at.After-put_nodes-first c).Start) + length (totalsDue (goal.at.After-put_nodes-first c).Start) + length (tapsDue (goal.at.After-put_nodes-first c).Start) ≤ length c.put_nodes-first.new.out
room-three c = let w = c.put_nodes-first.ensures in omega (arith, room (goal.at.After-put_nodes-first c).Start, w.next, written-length w)

-- where the second ends, and what stands then
abbrev middle : After-put_branches-second → ℕ
middle c = c.put_nodes-first.result + c.put_branches-second.result

abbrev after : After-put_branches-second → List ℕ
after c = let p = c.put_nodes-first in put_mid p.result (length p.new.out - p.result) p.new.out c.put_branches-second.new.out

second : (c : After-put_branches-second) → let p = c.put_nodes-first in Written p.new.out p.result (branchesDue (goal.at.After-put_branches-second c).Start) (middle c) (after c)
second c = written-rest (omega (arith, room-three (goal.at.After-put_branches-second c).After-put_nodes-first)) c.put_branches-second.ensures

room-two : (c : After-put_branches-second) → middle c + length (totalsDue (goal.at.After-put_branches-second c).Start) + length (tapsDue (goal.at.After-put_branches-second c).Start) ≤ length (after c)
room-two c = let w = second c in omega (arith, room-three (goal.at.After-put_branches-second c).After-put_nodes-first, w.next, written-length w)

-- the same of the third
abbrev behind : After-put_totals-third → ℕ
behind c = middle (goal.at.After-put_totals-third c).After-put_branches-second + c.put_totals-third.result

abbrev then : After-put_totals-third → List ℕ
then c =
    let m = middle (goal.at.After-put_totals-third c).After-put_branches-second in
    let l = after (goal.at.After-put_totals-third c).After-put_branches-second in
    put_mid m (length l - m) l c.put_totals-third.new.out

third : (c : After-put_totals-third) → Written (after (goal.at.After-put_totals-third c).After-put_branches-second) (middle (goal.at.After-put_totals-third c).After-put_branches-second) (totalsDue (goal.at.After-put_totals-third c).Start) (behind c) (then c)
third c = written-rest (omega (arith, room-two (goal.at.After-put_totals-third c).After-put_branches-second)) c.put_totals-third.ensures

room-one : (c : After-put_totals-third) → behind c + length (tapsDue (goal.at.After-put_totals-third c).Start) ≤ length (then c)
room-one c = let w = third c in omega (arith, room-two (goal.at.After-put_totals-third c).After-put_branches-second, w.next, written-length w)

fourth : (c : After-put_taps_table-fourth) →
    let m = behind (goal.at.After-put_taps_table-fourth c).After-put_totals-third in
    let l = then (goal.at.After-put_taps_table-fourth c).After-put_totals-third in
    Written l m (tapsDue (goal.at.After-put_taps_table-fourth c).Start) (m + c.put_taps_table-fourth.result) (put_mid m (length l - m) l c.put_taps_table-fourth.new.out)
fourth c = written-rest (omega (arith, room-one (goal.at.After-put_taps_table-fourth c).After-put_totals-third)) c.put_taps_table-fourth.ensures

pub put_nodes-first-requires : goal.put_nodes-first-requires
put_nodes-first-requires c = omega (arith, room (goal.at.put_nodes-first-requires c).Start)

pub slice_bounds-put_branches-start : goal.slice_bounds-put_branches-start
slice_bounds-put_branches-start c = omega (arith, room-three (goal.at.slice_bounds-put_branches-start c).After-put_nodes-first)

pub slice_bounds-put_branches-count : goal.slice_bounds-put_branches-count
slice_bounds-put_branches-count c = omega (arith, room-three (goal.at.slice_bounds-put_branches-count c).After-put_nodes-first)

pub put_branches-second-requires : goal.put_branches-second-requires
put_branches-second-requires c =
    let p = c.put_nodes-first in
    record { linked = c.requires.linked; rows_in_bounds = rest-room p.new.out p.result _ (omega (arith, room-three (goal.at.put_branches-second-requires c).After-put_nodes-first)) }

pub overflow_add-middle : goal.overflow_add-middle
overflow_add-middle c = omega (arith, room-two (goal.at.overflow_add-middle c).After-put_branches-second)

pub slice_bounds-put_totals-start : goal.slice_bounds-put_totals-start
slice_bounds-put_totals-start c = omega (arith, room-two (goal.at.slice_bounds-put_totals-start c).After-put_branches-second)

pub slice_bounds-put_totals-count : goal.slice_bounds-put_totals-count
slice_bounds-put_totals-count c = omega (arith, room-two (goal.at.slice_bounds-put_totals-count c).After-put_branches-second)

pub put_totals-third-requires : goal.put_totals-third-requires
put_totals-third-requires c = rest-room (after (goal.at.put_totals-third-requires c).After-put_branches-second) (middle (goal.at.put_totals-third-requires c).After-put_branches-second) (length (totalsDue (goal.at.put_totals-third-requires c).Start)) (omega (arith, room-two (goal.at.put_totals-third-requires c).After-put_branches-second))

pub overflow_add-last : goal.overflow_add-last
overflow_add-last c = omega (arith, room-one (goal.at.overflow_add-last c).After-put_totals-third)

pub slice_bounds-put_taps_table-start : goal.slice_bounds-put_taps_table-start
slice_bounds-put_taps_table-start c = omega (arith, room-one (goal.at.slice_bounds-put_taps_table-start c).After-put_totals-third)

pub slice_bounds-put_taps_table-count : goal.slice_bounds-put_taps_table-count
slice_bounds-put_taps_table-count c = omega (arith, room-one (goal.at.slice_bounds-put_taps_table-count c).After-put_totals-third)

pub put_taps_table-fourth-requires : goal.put_taps_table-fourth-requires
put_taps_table-fourth-requires c = rest-room (then (goal.at.put_taps_table-fourth-requires c).After-put_totals-third) (behind (goal.at.put_taps_table-fourth-requires c).After-put_totals-third) (length (tapsDue (goal.at.put_taps_table-fourth-requires c).Start)) (room-one (goal.at.put_taps_table-fourth-requires c).After-put_totals-third)

pub overflow_add-result : goal.overflow_add-result
overflow_add-result c = let w = fourth (goal.at.overflow_add-result c).After-put_taps_table-fourth in omega (arith, w.next, room-one (goal.at.overflow_add-result c).After-put_totals-third)

whole : (c : After-put_taps_table-fourth) →
    let a = c.args in
    let m = behind (goal.at.After-put_taps_table-fourth c).After-put_totals-third in
    let l = then (goal.at.After-put_taps_table-fourth c).After-put_totals-third in
    Written a.out.now 0 (whole_text a.network.now a.v.now a.i.now a.losses.now a.figures) (m + c.put_taps_table-fourth.result) (put_mid m (length l - m) l c.put_taps_table-fourth.new.out)
unfolding whole_text
whole c = written_behind c.put_nodes-first.ensures (written_behind (second (goal.at.After-put_taps_table-fourth c).After-put_branches-second) (written_behind (third (goal.at.After-put_taps_table-fourth c).After-put_totals-third) (fourth c)))

pub returns : goal.returns
returns c = record { value = whole (goal.at.returns c).After-put_taps_table-fourth; report = λ f vs is s. rw (report-is s) (written-front c.requires.figures_in_bounds (whole (goal.at.returns c).After-put_taps_table-fourth)) }
