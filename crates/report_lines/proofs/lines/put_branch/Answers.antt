-- `report_lines::lines::put_branch` meets its contract. Assumes nothing.
use native.Mathlib.Omega.{arith}
use Rattle.report_lines.specs.LineLaws.{branch-length}
use Rattle.report_lines.specs.Lines.{branch_row}
use Rattle.text.specs.Stores.{written_behind}
use Rattle.report_lines.proofs.lines.put_branch.Goals as goal

pub put_name-p-requires : goal.put_name-p-requires
put_name-p-requires c = let a = c.args in omega (arith, branch-length a.from a.to a.i a.loss, c.requires)

pub put_byte-q-requires : goal.put_byte-q-requires
put_byte-q-requires c = let a = c.args in omega (arith, branch-length a.from a.to a.i a.loss, c.requires)

pub put_name-r-requires : goal.put_name-r-requires
put_name-r-requires c = let a = c.args in omega (arith, branch-length a.from a.to a.i a.loss, c.requires)

pub put_three-s-requires : goal.put_three-s-requires
put_three-s-requires c = let a = c.args in omega (arith, branch-length a.from a.to a.i a.loss, c.requires)

pub put_pair-t-requires : goal.put_pair-t-requires
put_pair-t-requires c = let a = c.args in omega (arith, branch-length a.from a.to a.i a.loss, c.requires)

pub put_byte-requires : goal.put_byte-requires
put_byte-requires c = let a = c.args in omega (arith, branch-length a.from a.to a.i a.loss, c.requires)

pub returns : goal.returns
unfolding branch_row
returns c =
    written_behind c.put_name-p.ensures
    (written_behind c.put_byte-q.ensures
    (written_behind c.put_name-r.ensures (written_behind c.put_three-s.ensures (written_behind c.put_pair-t.ensures c.put_byte.ensures))))
