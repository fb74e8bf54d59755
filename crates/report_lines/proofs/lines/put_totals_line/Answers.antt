-- `report_lines::lines::put_totals_line` meets its contract. Assumes nothing.
use mathlib.Core.Path.{◌≡◌, ap}
use native.Mathlib.Omega.{arith}
use lib.ListN.{length}
use lib.IntN.{pos}
use mir.Syntax.{w64}
use mir.Val.{to_z}
use mir.ValLaws.{to_z_pos}
use Rattle.report_lines.specs.LineLaws.{totals-length}
use Rattle.report_lines.specs.Lines.{totals_row}
use Rattle.text.specs.Stores.{written_behind}
use Rattle.text.specs.Text.{decimal}
use Rattle.report_lines.proofs.lines.put_totals_line.Goals as goal
use Rattle.report_lines.proofs.lines.put_totals_line.Goals.{Start}

-- the sweeps as a signed number
swept : (c : Start) → to_z w64 c.args.figures.sweeps ≡ pos c.args.figures.sweeps
swept c = to_z_pos w64 c.args.figures.sweeps c.args.figures.signed

pub put_number-p-requires : goal.put_number-p-requires
put_number-p-requires c = rw (swept (goal.at.put_number-p-requires c).Start) (omega (arith, totals-length c.args.figures, c.requires))

pub put_pair-q-requires : goal.put_pair-q-requires
put_pair-q-requires c = omega (arith, totals-length c.args.figures, c.requires, ap (λ z. length (decimal z)) (swept (goal.at.put_pair-q-requires c).Start))

pub put_pair-s-requires : goal.put_pair-s-requires
put_pair-s-requires c = omega (arith, totals-length c.args.figures, c.requires, ap (λ z. length (decimal z)) (swept (goal.at.put_pair-s-requires c).Start))

pub put_pair-t-requires : goal.put_pair-t-requires
put_pair-t-requires c = omega (arith, totals-length c.args.figures, c.requires, ap (λ z. length (decimal z)) (swept (goal.at.put_pair-t-requires c).Start))

pub put_byte-requires : goal.put_byte-requires
put_byte-requires c = omega (arith, totals-length c.args.figures, c.requires, ap (λ z. length (decimal z)) (swept (goal.at.put_byte-requires c).Start))

pub returns : goal.returns
unfolding totals_row
returns c = rw (swept (goal.at.returns c).Start) at
    (written_behind c.put_number-p.ensures
    (written_behind c.put_pair-q.ensures (written_behind c.put_pair-s.ensures (written_behind c.put_pair-t.ensures c.put_byte.ensures))))
