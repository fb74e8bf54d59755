-- `limits::first_branch_out` meets its contract: the rows are tested one after the other. Assumes nothing.
use mathlib.Core.Bool.{not}
use mathlib.Core.Path.{◌≡◌, ◌∙◌, ap, sym}
use Prim.Native.Nat.{◌-◌}
use native.Mathlib.Omega.{arith}
use lib.ListN.{get_or}
use borrow.Author.Tests.{le-ltb, lt-ltb}
use Rattle.feeder.specs.Feeder.{branch_in}
use Rattle.feeder.specs.Layout.{Rows}
use Rattle.feeder.specs.Network.{kept, no_branch_row}
use Rattle.feeder.specs.declared.BranchRow.{BranchRow}
use Rattle.limits.specs.FirstRow.{branch_out, found_none, found-row, kept-row, pass-row}
use Rattle.limits.proofs.first_branch_out.Goals as goal
use Rattle.limits.proofs.first_branch_out.Goals.{After-branch_in, At-loop-k}

abbrev head : After-branch_in → At-loop-k
head c = (goal.at.After-branch_in c).At-loop-k

-- the test of row k, of the file's row
fault : (c : After-branch_in) (r : Rows) → (head c).before.args.tables.now.branches ≡ kept no_branch_row 200 r.branches → let k = (head c).loop-k.k in branch_out k (get_or r.branches (k - 1) no_branch_row) ≡ not c.branch_in.result
fault c r e =
    let k = (head c).loop-k.k in
    simp (le-ltb 200 k (omega arith)) (ap not (sym (c.branch_in.ensures ∙ ap (λ (b : BranchRow). branch_in b.kind b.p) (kept-row no_branch_row _ 200 r.branches _ k e (omega arith) (omega arith)))))

pub returns-then-k-gt200 : goal.returns-then-k-gt200
returns-then-k-gt200 c = λ r e n. found-row (c.loop-k.invariant r e n) no_branch_row (omega arith) (simp (lt-ltb 200 c.loop-k.k (omega arith)))

pub returns-then-not-branch_in : goal.returns-then-not-branch_in
returns-then-not-branch_in c = λ r e n. found-row (c.loop-k.invariant r e n) no_branch_row (omega arith) (fault (goal.at.returns-then-not-branch_in c).After-branch_in r e ∙ ap not c.if-not-branch_in.true)

pub loop-k-preserved : goal.loop-k-preserved
loop-k-preserved c = λ r e n. pass-row (c.loop-k.invariant r e n) no_branch_row (omega arith) (fault (goal.at.loop-k-preserved c).After-branch_in r e ∙ ap not c.if-not-branch_in.false)

pub returns : goal.returns
returns c = λ r e n. found_none (c.loop-k.invariant r e n) (omega arith)
