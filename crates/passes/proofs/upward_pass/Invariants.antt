-- `passes::upward_pass` meets its contract: each node holds its own and what the nodes that it feeds and that are done take. Assumes nothing.
use Prim.Native.Nat.{◌-◌}
use Rattle.passes.proofs.Lift.{Gathered}
use Rattle.passes.proofs.upward_pass.Given as goal

abbrev pub invariant-loop-next : goal.invariant-loop-next
invariant-loop-next l = Gathered l.network l.initial.at l.at (l.next - 1)
