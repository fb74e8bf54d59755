-- `report_lines::widths::pair_width` meets its contract. Assumes nothing.
use borrow.Author.Rules.{rules}
use mathlib.Core.Path.{◌≡◌, ap}
use native.Mathlib.Omega.{arith}
use lib.ListN.{length}
use Rattle.integers.specs.Machine.{read}
use Rattle.report_lines.specs.LineLaws.{decimal-fits, pair-length}
use Rattle.text.specs.Text.{decimal}
use Rattle.report_lines.proofs.widths.pair_width.Goals as goal
use Rattle.report_lines.proofs.widths.pair_width.Goals.{Start}

back-re : (c : Start) → length (decimal (read c.args.x.re)) ≡ length (decimal c.args.x.re)
back-re c = ap (λ z. length (decimal z)) (search rules)

back-im : (c : Start) → length (decimal (read c.args.x.im)) ≡ length (decimal c.args.x.im)
back-im c = ap (λ z. length (decimal z)) (search rules)

pub overflow_add-result : goal.overflow_add-result
overflow_add-result c = let x = c.args.x in omega (arith, decimal-fits (read x.re), decimal-fits (read x.im))

pub overflow_add-result-2 : goal.overflow_add-result-2
overflow_add-result-2 c = let x = c.args.x in omega (arith, decimal-fits (read x.re), decimal-fits (read x.im))

pub returns : goal.returns
returns c = omega (arith, back-re (goal.at.returns c).Start, back-im (goal.at.returns c).Start, pair-length c.args.x)
