-- `report_lines::widths::totals_line_width` meets its contract. Assumes nothing.
use mathlib.Core.Path.{◌≡◌, ap}
use native.Mathlib.Omega.{arith}
use lib.ListN.{length}
use lib.IntN.{pos}
use mir.Syntax.{w64}
use mir.Val.{to_z}
use mir.ValLaws.{to_z_pos}
use Rattle.report_lines.specs.LineLaws.{decimal-fits, fits, pair-most, totals-length}
use Rattle.text.specs.Text.{decimal}
use Rattle.report_lines.proofs.widths.totals_line_width.Goals as goal
use Rattle.report_lines.proofs.widths.totals_line_width.Goals.{Start}

-- the sweeps as a signed number
swept : (c : Start) → to_z w64 c.args.figures.sweeps ≡ pos c.args.figures.sweeps
swept c = to_z_pos w64 c.args.figures.sweeps c.args.figures.signed

pub overflow_add-result : goal.overflow_add-result
overflow_add-result c = let g = c.args.figures in omega (arith, decimal-fits (to_z w64 g.sweeps), pair-most (fits g.source), pair-most (fits g.drawn), pair-most (fits g.lost))

pub overflow_add-result-2 : goal.overflow_add-result-2
overflow_add-result-2 c = let g = c.args.figures in omega (arith, decimal-fits (to_z w64 g.sweeps), pair-most (fits g.source), pair-most (fits g.drawn), pair-most (fits g.lost))

pub overflow_add-result-3 : goal.overflow_add-result-3
overflow_add-result-3 c = let g = c.args.figures in omega (arith, decimal-fits (to_z w64 g.sweeps), pair-most (fits g.source), pair-most (fits g.drawn), pair-most (fits g.lost))

pub overflow_add-result-4 : goal.overflow_add-result-4
overflow_add-result-4 c = let g = c.args.figures in omega (arith, decimal-fits (to_z w64 g.sweeps), pair-most (fits g.source), pair-most (fits g.drawn), pair-most (fits g.lost))

pub returns : goal.returns
returns c = omega (arith, totals-length c.args.figures, ap (λ z. length (decimal z)) (swept (goal.at.returns c).Start))
