-- `report_lines::lines::put_pair` meets its contract. Assumes nothing.
use borrow.Author.Rules.{rules}
use mathlib.Core.Path.{◌≡◌}
use Prim.Native.Nat.{◌+◌, ◌≤◌}
use native.Mathlib.Omega.{arith}
use lib.ListN.{length}
use Rattle.integers.specs.Machine.{read}
use Rattle.report_lines.specs.LineLaws.{pair-length}
use Rattle.report_lines.specs.Lines.{pair_fields}
use Rattle.text.specs.Stores.{written_behind}
use Rattle.text.specs.Text.{decimal}
use Rattle.report_lines.proofs.lines.put_pair.Goals as goal
use Rattle.report_lines.proofs.lines.put_pair.Goals.{Start}

back-re : (c : Start) → read c.args.x.re ≡ c.args.x.re
back-re c = search rules

back-im : (c : Start) → read c.args.x.im ≡ c.args.x.im
back-im c = search rules

-- room for both
room : (c : Start) →
    let x = c.args.x in
    c.args.at + length (decimal (read x.re)) + length (decimal (read x.im)) + 2 ≤ length c.args.out.now
room c = rw (back-re c, back-im c) (omega (arith, pair-length c.args.x, c.requires))

pub put_field-p-requires : goal.put_field-p-requires
put_field-p-requires c = omega (arith, room (goal.at.put_field-p-requires c).Start)

pub put_field-requires : goal.put_field-requires
put_field-requires c = omega (arith, room (goal.at.put_field-requires c).Start)

pub returns : goal.returns
unfolding pair_fields
returns c = rw (back-re (goal.at.returns c).Start, back-im (goal.at.returns c).Start) at (written_behind c.put_field-p.ensures c.put_field.ensures)
