-- `report_tables::fields::read_row` meets its contract: one table or the other. Assumes nothing.
use Rattle.report_tables.proofs.fields.read_row.Goals as goal

pub returns-then-branch : goal.returns-then-branch
returns-then-branch c = rw c.if-branch.true c.read_branch.ensures

pub returns : goal.returns
returns c = rw c.if-branch.false c.read_node.ensures
