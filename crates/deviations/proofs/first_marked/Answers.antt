-- `deviations::first_marked` meets its contract: no node passed is marked below one that is not. Assumes nothing.
use Rattle.std.proofs.Common.{ap, sym, arith}
use Rattle.std.specs.Prelude.{◌&&◌, not}
use Rattle.std.proofs.Math.Path.{ap₂}
use Rattle.feeder.specs.RowLaws.{none-nodes}
use Rattle.passes.specs.Nodes.{first-node}
use Rattle.deviations.proofs.first_marked.Invariants.{bad}
use Rattle.deviations.proofs.first_marked.Goals as goal

pub returns-then-not-off-network : goal.returns-then-not-off-network
returns-then-not-off-network c =
    let net = c.args.network.now in
    sym (first-node (bad net.branches c.args.off) net.rows c.loop-k.k (omega arith) c.loop-k.invariant (ap₂ ◌&&◌ c.if-off-k.true (ap not c.if-not-off-network.true)))

pub returns : goal.returns
returns c = sym (none-nodes (bad c.args.network.now.branches c.args.off) 1 c.args.network.now.rows (λ j q. c.loop-k.invariant j (omega arith)))
