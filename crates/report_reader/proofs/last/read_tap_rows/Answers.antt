-- `report_reader::last::read_tap_rows` meets its contract: by whether the report goes on. Assumes nothing.
use mathlib.Core.Bool.{true}
use mathlib.Core.List.{List}
use mathlib.Core.Path.{◌∙◌, ◌≡◌, refl, subst, sym}
use Prim.Native.Nat.{◌+◌, ◌≤◌, ℕ}
use native.Mathlib.Omega.{arith}
use lib.ListN.{drop, length}
use borrow.Author.Rules.{rules}
use Rattle.report.specs.Report.{tap_table}
use Rattle.tap_table.specs.AnswerLaws.{stands-refused}
use Rattle.tap_table.specs.TapTable.{TapsAre}
use Rattle.text.specs.LineLaws.{begins-within}
use Rattle.text.specs.Text.{begins, bytes}
use Rattle.text.specs.TextLaws.{part-from}
use Rattle.report_reader.specs.LastLaws.{taps-filed, taps-no-line, taps-own}
use Rattle.report_reader.proofs.last.read_tap_rows.Goals as goal
use Rattle.report_reader.proofs.last.read_tap_rows.Goals.{Else-not-stands_empty}

-- the empty line stands
line : (c : Else-not-stands_empty) → begins (bytes "\n") (drop c.args.at c.args.part.now) ≡ true
line c = sym c.stands_empty.ensures ∙ c.if-not-stands_empty.false

room : (c : Else-not-stands_empty) → c.args.at + 1 ≤ length c.args.part.now
unfolding bytes
room c = begins-within (bytes "\n") c.args.part.now c.args.at (omega arith) (line c)

pub returns-then-at-part : goal.returns-then-at-part
returns-then-at-part c = λ f limit h. taps-own f _ limit h _ _ _ _ _ c.if-at-part.true c.own_taps.ensures.level c.own_taps.ensures.held

pub returns-then-not-stands_empty : goal.returns-then-not-stands_empty
returns-then-not-stands_empty c = λ f limit h. stands-refused (taps-no-line f _ limit h _ _ c.if-at-part.false (sym c.stands_empty.ensures ∙ c.if-not-stands_empty.true)) refl

pub overflow_add-p : goal.overflow_add-p
overflow_add-p c = let h = room (goal.at.overflow_add-p c).Else-not-stands_empty in search rules

pub slice_bounds-read_tap_table-count : goal.slice_bounds-read_tap_table-count
slice_bounds-read_tap_table-count c = room (goal.at.slice_bounds-read_tap_table-count c).Else-not-stands_empty

pub slice_bounds-read_tap_table-start : goal.slice_bounds-read_tap_table-start
slice_bounds-read_tap_table-start c = room (goal.at.slice_bounds-read_tap_table-start c).Else-not-stands_empty

pub returns : goal.returns
returns c = λ f limit h.
    let s = c.args.part.now in
    let at = c.args.at in
    let n = c.regulator_count-count.result in
    let a = c.read_tap_table.new in
    taps-filed f _ limit h s at c.if-at-part.false _ n _ _ (line (goal.at.returns c).Else-not-stands_empty) c.regulator_count-count.ensures.value
    (subst (λ (l : List ℕ). TapsAre (tap_table n l) c.read_tap_table.result n a.names a.taps) (part-from s (at + 1)) c.read_tap_table.ensures)
