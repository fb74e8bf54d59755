-- `passes::downward_pass` meets its contract: the nodes that are done hold what follows from those above them, within their limit. Assumes nothing.
use Prim.Native.Nat.{ℕ}
use lib.ListN.{get_or}
use Rattle.equations.specs.Equations.{zero3}
use Rattle.equations.specs.Sizes.{Within3}
use Rattle.passes.specs.Lower.{Lowered}
use Rattle.passes.proofs.downward_pass.Given as goal

abbrev pub invariant-loop-next : goal.invariant-loop-next
invariant-loop-next l = Lowered l.network.branches l.network.rows l.network.order l.network.source l.i l.v l.next × ((j : ℕ) → Within3 2000000 (get_or l.v j zero3))
