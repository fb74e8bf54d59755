-- `passes::loss_pass` meets its contract: the losses of the rows passed, and their sum. Assumes nothing.
use Prim.Native.Nat.{◌-◌}
use Rattle.passes.proofs.Losing.{Lost}
use Rattle.passes.proofs.loss_pass.Given as goal

abbrev pub invariant-loop-row : goal.invariant-loop-row
invariant-loop-row l = Lost l.network l.i l.losses l.sum (l.row - 1)
