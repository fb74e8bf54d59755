-- `faults::first_unknown_from` meets its contract: what the definition gives at the first row it gives at row k. Assumes nothing.
use mathlib.Core.Path.{◌∙◌, ◌≡◌, sym}
use Prim.Native.Nat.{◌+◌, ◌≤◌}
use native.Mathlib.Omega.{arith}
use borrow.Author.Tests.{le-ltb, lt-ltb}
use lib.ListN.{get_or, length}
use Rattle.feeder.specs.Feeder.{no_branch}
use Rattle.feeder.specs.Layout.{Rows}
use Rattle.feeder.specs.NetworkLaws.{length-kept}
use Rattle.names.specs.Numbered.{branches_in, from_unknown}
use Rattle.names.specs.NumberedLaws.{unknown-from}
use Rattle.names.specs.Rest.{first-end, first-here, first_next}
use Rattle.names.proofs.faults.first_unknown_from.Goals as goal
use Rattle.names.proofs.faults.first_unknown_from.Goals.{Start}

long : (c : Start) (r : Rows) → c.args.network.now.branches ≡ branches_in r → c.args.network.now.rows + 1 ≤ length c.args.network.now.branches
long c r e = rw (e, length-kept) (omega arith)

pub loop-k-init : goal.loop-k-init
loop-k-init c = λ r e n. unknown-from r c.args.network.now.rows n (omega arith) c.args.network.now.branches e

pub returns-then-network-k : goal.returns-then-network-k
unfolding from_unknown
returns-then-network-k c = λ r e n.
    let a = c.args in
    let k = c.loop-k.k in
    sym (first-here (from_unknown a.network.now.rows) 4 k no_branch a.network.now.branches (a.network.now.rows + 1) k (long (goal.at.returns-then-network-k c).Start r e) (omega arith) (lt-ltb a.network.now.rows (get_or a.network.now.branches k no_branch).from (omega arith)))
    ∙ c.loop-k.invariant r e n

pub loop-k-preserved : goal.loop-k-preserved
unfolding from_unknown
loop-k-preserved c =
    let a = c.args in
    let k = c.loop-k.k in
    λ r e n. sym (first_next (from_unknown a.network.now.rows) 4 k no_branch a.network.now.branches (a.network.now.rows + 1) k (long (goal.at.loop-k-preserved c).Start r e) (omega arith) (le-ltb a.network.now.rows (get_or a.network.now.branches k no_branch).from (omega arith)))
    ∙ c.loop-k.invariant r e n

pub returns : goal.returns
returns c = λ r e n.
    let a = c.args in
    let k = c.loop-k.k in
    sym (first-end (from_unknown a.network.now.rows) 4 k a.network.now.branches (a.network.now.rows + 1) k (omega arith))
    ∙ c.loop-k.invariant r e n
