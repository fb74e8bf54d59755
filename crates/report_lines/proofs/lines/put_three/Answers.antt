-- `report_lines::lines::put_three` meets its contract. Assumes nothing.
use native.Mathlib.Omega.{arith}
use Rattle.report_lines.specs.LineLaws.{three-length}
use Rattle.report_lines.specs.Lines.{three_fields}
use Rattle.text.specs.Stores.{written_behind}
use Rattle.report_lines.proofs.lines.put_three.Goals as goal

pub put_pair-p-requires : goal.put_pair-p-requires
put_pair-p-requires c = omega (arith, three-length c.args.x, c.requires)

pub put_pair-q-requires : goal.put_pair-q-requires
put_pair-q-requires c = omega (arith, three-length c.args.x, c.requires)

pub put_pair-requires : goal.put_pair-requires
put_pair-requires c = omega (arith, three-length c.args.x, c.requires)

pub returns : goal.returns
unfolding three_fields
returns c = written_behind c.put_pair-p.ensures (written_behind c.put_pair-q.ensures c.put_pair.ensures)
