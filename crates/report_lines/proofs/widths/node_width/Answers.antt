-- `report_lines::widths::node_width` meets its contract. Assumes nothing.
use native.Mathlib.Omega.{arith}
use Rattle.report_lines.specs.LineLaws.{fits3, node-length, three-most}
use Rattle.text.specs.NameText.{letters-8}
use Rattle.report_lines.proofs.widths.node_width.Goals as goal

pub overflow_add-result : goal.overflow_add-result
overflow_add-result c = let a = c.args in omega (arith, letters-8 a.name, three-most (fits3 a.v))

pub overflow_add-result-2 : goal.overflow_add-result-2
overflow_add-result-2 c = let a = c.args in omega (arith, letters-8 a.name, three-most (fits3 a.v))

pub returns : goal.returns
returns c = let a = c.args in omega (arith, node-length a.name a.v)
