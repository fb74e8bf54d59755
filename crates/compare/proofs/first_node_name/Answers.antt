-- `compare::first_node_name` meets its contract: no node passed has another name. Assumes nothing.
use mathlib.Core.Bool.{not}
use mathlib.Core.Path.{ap, sym}
use native.Mathlib.Omega.{arith}
use borrow.Author.Count.{below_more}
use borrow.Author.Tests.{eq-eqb, ne_eqb}
use Rattle.feeder.specs.RowLaws.{none-nodes}
use Rattle.passes.specs.Nodes.{first-node}
use Rattle.compare.specs.Compare.{node_name_differs}
use Rattle.compare.proofs.first_node_name.Goals as goal

pub loop-k-init : goal.loop-k-init
loop-k-init c = λ j q. absurd (omega arith)

pub returns-then-names-k : goal.returns-then-names-k
returns-then-names-k c =
    let l = c.loop-k in
    let a = c.args in
    sym (first-node (node_name_differs a.network.now.nodes a.names.now) a.network.now.rows l.k (omega arith) l.invariant (ap not (ne_eqb _ _ c.if-names-k.true)))

pub loop-k-preserved : goal.loop-k-preserved
loop-k-preserved c =
    let l = c.loop-k in
    below_more _ _ l.invariant (ap not (eq-eqb _ _ c.if-names-k.false))

pub returns : goal.returns
returns c =
    let a = c.args in
    sym (none-nodes (node_name_differs a.network.now.nodes a.names.now) 1 a.network.now.rows (λ j q. c.loop-k.invariant j (omega arith)))
