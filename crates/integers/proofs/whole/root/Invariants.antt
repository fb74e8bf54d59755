-- `whole::root` meets its contract. The invariant: `Rooting`, with as many digits to come as steps, and no more steps than digits. Assumes nothing.
use Prim.Native.Nat.{◌-◌, ◌≤◌}
use Rattle.integers.proofs.RootSteps.{Rooting}
use Rattle.integers.proofs.whole.root.Given as goal

abbrev pub invariant-loop-steps : goal.invariant-loop-steps
invariant-loop-steps l = (l.steps ≤ l.digits) × Rooting l.n (l.digits - l.steps) l.square l.trial l.left

abbrev pub decreases-loop-steps : goal.decreases-loop-steps
decreases-loop-steps l = l.digits - l.steps
