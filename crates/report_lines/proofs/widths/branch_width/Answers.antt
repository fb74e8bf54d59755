-- `report_lines::widths::branch_width` meets its contract. Assumes nothing.
use native.Mathlib.Omega.{arith}
use Rattle.report_lines.specs.LineLaws.{branch-length, fits, fits3, pair-most, three-most}
use Rattle.text.specs.NameText.{letters-8}
use Rattle.report_lines.proofs.widths.branch_width.Goals as goal

pub overflow_add-result : goal.overflow_add-result
overflow_add-result c = let a = c.args in omega (arith, letters-8 a.from, letters-8 a.to, three-most (fits3 a.i), pair-most (fits a.loss))

pub overflow_add-result-2 : goal.overflow_add-result-2
overflow_add-result-2 c = let a = c.args in omega (arith, letters-8 a.from, letters-8 a.to, three-most (fits3 a.i), pair-most (fits a.loss))

pub overflow_add-result-3 : goal.overflow_add-result-3
overflow_add-result-3 c = let a = c.args in omega (arith, letters-8 a.from, letters-8 a.to, three-most (fits3 a.i), pair-most (fits a.loss))

pub overflow_add-result-4 : goal.overflow_add-result-4
overflow_add-result-4 c = let a = c.args in omega (arith, letters-8 a.from, letters-8 a.to, three-most (fits3 a.i), pair-most (fits a.loss))

pub returns : goal.returns
returns c = let a = c.args in omega (arith, branch-length a.from a.to a.i a.loss)
