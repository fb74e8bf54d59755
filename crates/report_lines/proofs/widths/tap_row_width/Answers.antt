-- `report_lines::widths::tap_row_width` meets its contract. Assumes nothing.
use borrow.Author.Rules.{rules}
use mathlib.Core.Path.{◌≡◌}
use Prim.Native.Nat.{◌+◌, ◌≤◌}
use native.Mathlib.Omega.{arith}
use lib.ListN.{length}
use Rattle.integers.specs.Machine.{read}
use Rattle.report_lines.specs.LineLaws.{decimal-fits, tap-length}
use Rattle.report_lines.specs.Lines.{tap_row}
use Rattle.text.specs.NameText.{letters-8}
use Rattle.text.specs.Text.{decimal, letters}
use Rattle.report_lines.proofs.widths.tap_row_width.Goals as goal
use Rattle.report_lines.proofs.widths.tap_row_width.Goals.{Start}

back_a : (c : Start) → read c.args.taps.a ≡ c.args.taps.a
back_a c = search rules

back-b : (c : Start) → read c.args.taps.b ≡ c.args.taps.b
back-b c = search rules

back-c : (c : Start) → read c.args.taps.c ≡ c.args.taps.c
back-c c = search rules

-- the parts of the width, and how much they are at most
parts : (c : Start) →
    let a = c.args in
    length (tap_row a.name a.taps) ≡ length (letters 8 a.name) + length (decimal (read a.taps.a)) + length (decimal (read a.taps.b)) + length (decimal (read a.taps.c)) + 4
parts c = rw (back_a c, back-b c, back-c c) (tap-length c.args.name c.args.taps)

most : (c : Start) →
    let a = c.args in
    length (letters 8 a.name) + length (decimal (read a.taps.a)) + length (decimal (read a.taps.b)) + length (decimal (read a.taps.c)) + 4 ≤ 75
most c =
    let a = c.args in
    omega (arith, letters-8 a.name, decimal-fits (read a.taps.a), decimal-fits (read a.taps.b), decimal-fits (read a.taps.c))

pub overflow_add-result : goal.overflow_add-result
overflow_add-result c = omega (arith, most (goal.at.overflow_add-result c).Start)

pub overflow_add-result-2 : goal.overflow_add-result-2
overflow_add-result-2 c = omega (arith, most (goal.at.overflow_add-result-2 c).Start)

pub overflow_add-result-3 : goal.overflow_add-result-3
overflow_add-result-3 c = omega (arith, most (goal.at.overflow_add-result-3 c).Start)

pub overflow_add-result-4 : goal.overflow_add-result-4
overflow_add-result-4 c = omega (arith, most (goal.at.overflow_add-result-4 c).Start)

pub returns : goal.returns
returns c = omega (arith, parts (goal.at.returns c).Start)
