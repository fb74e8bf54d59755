-- `report_lines::lines::put_node` meets its contract. Assumes nothing.
use native.Mathlib.Omega.{arith}
use Rattle.report_lines.specs.LineLaws.{node-length}
use Rattle.report_lines.specs.Lines.{node_row}
use Rattle.text.specs.Stores.{written_behind}
use Rattle.report_lines.proofs.lines.put_node.Goals as goal

pub put_name-p-requires : goal.put_name-p-requires
put_name-p-requires c = let a = c.args in omega (arith, node-length a.name a.v, c.requires)

pub put_three-q-requires : goal.put_three-q-requires
put_three-q-requires c = let a = c.args in omega (arith, node-length a.name a.v, c.requires)

pub put_byte-requires : goal.put_byte-requires
put_byte-requires c = let a = c.args in omega (arith, node-length a.name a.v, c.requires)

pub returns : goal.returns
unfolding node_row
returns c = written_behind c.put_name-p.ensures (written_behind c.put_three-q.ensures c.put_byte.ensures)
