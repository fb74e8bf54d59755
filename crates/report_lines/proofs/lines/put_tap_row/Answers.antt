-- `report_lines::lines::put_tap_row` meets its contract. Assumes nothing.
use borrow.Author.Rules.{rules}
use mathlib.Core.Path.{◌≡◌}
use Prim.Native.Nat.{◌+◌, ◌≤◌}
use native.Mathlib.Omega.{arith}
use lib.ListN.{length}
use Rattle.integers.specs.Machine.{read}
use Rattle.report_lines.specs.LineLaws.{tap-length}
use Rattle.report_lines.specs.Lines.{tap_row}
use Rattle.text.specs.Stores.{written_behind}
use Rattle.text.specs.Text.{decimal, letters}
use Rattle.report_lines.proofs.lines.put_tap_row.Goals as goal
use Rattle.report_lines.proofs.lines.put_tap_row.Goals.{Start}

back_a : (c : Start) → read c.args.taps.a ≡ c.args.taps.a
back_a c = search rules

back-b : (c : Start) → read c.args.taps.b ≡ c.args.taps.b
back-b c = search rules

back-c : (c : Start) → read c.args.taps.c ≡ c.args.taps.c
back-c c = search rules

-- room for the name, the taps and the line's end
room : (c : Start) →
    let a = c.args in
    a.at + length (letters 8 a.name) + length (decimal (read a.taps.a)) + length (decimal (read a.taps.b)) + length (decimal (read a.taps.c)) + 4 ≤ length a.out.now
room c = rw (back_a c, back-b c, back-c c) (omega (arith, tap-length c.args.name c.args.taps, c.requires))

pub put_name-p-requires : goal.put_name-p-requires
put_name-p-requires c = omega (arith, room (goal.at.put_name-p-requires c).Start)

pub put_field-q-requires : goal.put_field-q-requires
put_field-q-requires c = omega (arith, room (goal.at.put_field-q-requires c).Start)

pub put_field-r-requires : goal.put_field-r-requires
put_field-r-requires c = omega (arith, room (goal.at.put_field-r-requires c).Start)

pub put_field-s-requires : goal.put_field-s-requires
put_field-s-requires c = omega (arith, room (goal.at.put_field-s-requires c).Start)

pub put_byte-requires : goal.put_byte-requires
put_byte-requires c = omega (arith, room (goal.at.put_byte-requires c).Start)

pub returns : goal.returns
unfolding tap_row
returns c = rw (back_a (goal.at.returns c).Start, back-b (goal.at.returns c).Start, back-c (goal.at.returns c).Start) at (written_behind c.put_name-p.ensures (written_behind c.put_field-q.ensures (written_behind c.put_field-r.ensures (written_behind c.put_field-s.ensures c.put_byte.ensures))))
