-- `limits::first_branch_out` meets its contract: the rows are tested one after the other. Assumes nothing.
use mathlib.Core.Path.{◌≡◌}
use lib.ListN.{length}
use Rattle.feeder.specs.Layout.{Rows}
use Rattle.feeder.specs.Network.{kept, no_branch_row}
use Rattle.limits.specs.FirstRow.{Passed, branch_out}
use Rattle.limits.proofs.first_branch_out.Given as goal

abbrev pub invariant-loop-k : goal.invariant-loop-k
invariant-loop-k l = (r : Rows) → l.tables.branches ≡ kept no_branch_row 200 r.branches → l.tables.rows ≡ length r.branches → Passed branch_out 4 r.branches l.k
