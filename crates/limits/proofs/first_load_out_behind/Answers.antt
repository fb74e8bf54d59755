-- `limits::first_load_out_behind` meets its contract: the rows are tested one after the other. Assumes nothing.
use mathlib.Core.Bool.{not}
use mathlib.Core.List.{List}
use mathlib.Core.Path.{◌≡◌, ◌∙◌, ap, sym}
use Prim.Native.Nat.{◌-◌}
use native.Mathlib.Omega.{arith}
use lib.ListN.{get_or}
use borrow.Author.Tests.{le-ltb, lt-ltb}
use Rattle.feeder.specs.Feeder.{load_in}
use Rattle.feeder.specs.Network.{kept, no_load_row}
use Rattle.feeder.specs.declared.LoadRow.{LoadRow}
use Rattle.limits.specs.FirstRow.{load_out, found_none, found-row, kept-row, pass-row}
use Rattle.limits.proofs.first_load_out_behind.Goals as goal
use Rattle.limits.proofs.first_load_out_behind.Goals.{After-load_in, At-loop-k}

abbrev head : After-load_in → At-loop-k
head c = (goal.at.After-load_in c).At-loop-k

-- the test of row k, of the file's row
fault : (c : After-load_in) (ls : List LoadRow) → (head c).before.args.tables.now.loads ≡ kept no_load_row 300 ls → let k = (head c).loop-k.k in load_out k (get_or ls (k - 1) no_load_row) ≡ not c.load_in.result
fault c ls e =
    let k = (head c).loop-k.k in
    simp (le-ltb 300 k (omega arith)) (ap not (sym (c.load_in.ensures ∙ ap (λ (l : LoadRow). load_in l) (kept-row no_load_row _ 300 ls _ k e (omega arith) (omega arith)))))

pub returns-then-k-gt300 : goal.returns-then-k-gt300
returns-then-k-gt300 c = λ ls e n. found-row (c.loop-k.invariant ls e n) no_load_row (omega arith) (simp (lt-ltb 300 c.loop-k.k (omega arith)))

pub returns-then-not-load_in : goal.returns-then-not-load_in
returns-then-not-load_in c = λ ls e n. found-row (c.loop-k.invariant ls e n) no_load_row (omega arith) (fault (goal.at.returns-then-not-load_in c).After-load_in ls e ∙ ap not c.if-not-load_in.true)

pub loop-k-preserved : goal.loop-k-preserved
loop-k-preserved c = λ ls e n. pass-row (c.loop-k.invariant ls e n) no_load_row (omega arith) (fault (goal.at.loop-k-preserved c).After-load_in ls e ∙ ap not c.if-not-load_in.false)

pub returns : goal.returns
returns c = λ ls e n. found_none (c.loop-k.invariant ls e n) (omega arith)
