-- `report_lines::widths::three_width` meets its contract. Assumes nothing.
use native.Mathlib.Omega.{arith}
use Rattle.report_lines.specs.LineLaws.{fits, pair-most, three-length}
use Rattle.report_lines.proofs.widths.three_width.Goals as goal

pub overflow_add-result : goal.overflow_add-result
overflow_add-result c = let x = c.args.x in omega (arith, pair-most (fits x.a), pair-most (fits x.b), pair-most (fits x.c))

pub overflow_add-result-2 : goal.overflow_add-result-2
overflow_add-result-2 c = let x = c.args.x in omega (arith, pair-most (fits x.a), pair-most (fits x.b), pair-most (fits x.c))

pub returns : goal.returns
returns c = omega (arith, three-length c.args.x)
