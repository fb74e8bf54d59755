-- `faults::first_second_to` meets its contract: what the definition gives at the first row it gives at row k. Assumes nothing.
use mathlib.Core.Path.{◌∙◌, ◌≡◌, sym}
use Prim.Native.Nat.{◌+◌, ◌≤◌}
use native.Mathlib.Omega.{arith}
use borrow.Author.Tests.{le-ltb, lt-ltb}
use lib.ListN.{length, take}
use Rattle.feeder.specs.Layout.{Rows}
use Rattle.feeder.specs.NetworkLaws.{length-kept}
use Rattle.names.specs.Numbered.{nodes_in, to_second}
use Rattle.names.specs.NumberedLaws.{second-to}
use Rattle.names.specs.Rest.{first-end, first-here, first_next}
use Rattle.names.proofs.faults.first_second_to.Goals as goal
use Rattle.names.proofs.faults.first_second_to.Goals.{Start}

long : (c : Start) (r : Rows) → c.args.network.now.nodes ≡ nodes_in r → c.args.network.now.rows + 1 ≤ length c.args.network.now.nodes
long c r e = rw (e, length-kept) (omega arith)

pub loop-k-init : goal.loop-k-init
loop-k-init c = λ r e n. second-to r c.args.network.now.rows n (omega arith) c.args.network.now.nodes e

pub returns-then-place-k : goal.returns-then-place-k
unfolding to_second
returns-then-place-k c = λ r e n.
    let a = c.args in
    let l = c.loop-k in
    sym (first-here (to_second (take (a.network.now.rows + 1) a.network.now.nodes)) 4 l.k 0 a.network.now.nodes (a.network.now.rows + 1) l.k (long (goal.at.returns-then-place-k c).Start r e) (omega arith) (rw (sym c.find-place.ensures) (lt-ltb c.find-place.result l.k (omega arith))))
    ∙ l.invariant r e n

pub loop-k-preserved : goal.loop-k-preserved
unfolding to_second
loop-k-preserved c =
    let a = c.args in
    let l = c.loop-k in
    λ r e n. sym (first_next (to_second (take (a.network.now.rows + 1) a.network.now.nodes)) 4 l.k 0 a.network.now.nodes (a.network.now.rows + 1) l.k (long (goal.at.loop-k-preserved c).Start r e) (omega arith) (rw (sym c.find-place.ensures) (le-ltb c.find-place.result l.k (omega arith))))
    ∙ l.invariant r e n

pub returns : goal.returns
returns c = λ r e n.
    let a = c.args in
    let l = c.loop-k in
    sym (first-end (to_second (take (a.network.now.rows + 1) a.network.now.nodes)) 4 l.k a.network.now.nodes (a.network.now.rows + 1) l.k (omega arith))
    ∙ l.invariant r e n
