-- `limits::first_not_zero` meets its contract: the rows are tested one after the other. Assumes nothing.
use mathlib.Core.Bool.{not}
use mathlib.Core.Path.{◌≡◌, ◌∙◌, ap, sym}
use Prim.Native.Nat.{◌-◌}
use native.Mathlib.Omega.{arith}
use lib.ListN.{get_or}
use Rattle.feeder.specs.Feeder.{zeros, not_zero}
use Rattle.feeder.specs.Layout.{Rows}
use Rattle.feeder.specs.Network.{kept, no_branch_row}
use Rattle.feeder.specs.declared.BranchRow.{BranchRow}
use Rattle.limits.specs.FirstRow.{not_zero_row, found_none, found-row, kept-row, pass-row}
use Rattle.limits.proofs.first_not_zero.Goals as goal
use Rattle.limits.proofs.first_not_zero.Goals.{After-zeros_hold, At-loop-k}

abbrev head : After-zeros_hold → At-loop-k
head c = (goal.at.After-zeros_hold c).At-loop-k

-- the test of row k, of the file's row
fault : (c : After-zeros_hold) (r : Rows) → (head c).before.args.tables.now.branches ≡ kept no_branch_row 200 r.branches → let k = (head c).loop-k.k in not_zero_row k (get_or r.branches (k - 1) no_branch_row) ≡ not c.zeros_hold.result
fault c r e =
    let k = (head c).loop-k.k in
    ap not (sym (c.zeros_hold.ensures ∙ ap (λ (b : BranchRow). zeros b.kind b.phases b.p) (kept-row no_branch_row _ 200 r.branches _ k e (omega arith) (omega arith))))

pub returns-then-not-zeros_hold : goal.returns-then-not-zeros_hold
unfolding not_zero
returns-then-not-zeros_hold c = λ r e n. found-row (c.loop-k.invariant r e n) no_branch_row (omega arith) (fault (goal.at.returns-then-not-zeros_hold c).After-zeros_hold r e ∙ ap not c.if-not-zeros_hold.true)

pub loop-k-preserved : goal.loop-k-preserved
loop-k-preserved c = λ r e n. pass-row (c.loop-k.invariant r e n) no_branch_row (omega arith) (fault (goal.at.loop-k-preserved c).After-zeros_hold r e ∙ ap not c.if-not-zeros_hold.false)

pub returns : goal.returns
unfolding not_zero
returns c = λ r e n. found_none (c.loop-k.invariant r e n) (omega arith)
