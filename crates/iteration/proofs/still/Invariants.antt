-- `still` meets its contract: every row before k has been seen not to move. Assumes nothing.
use Rattle.std.specs.Prelude.{true, ◌≡◌, ℕ, ◌<◌}
use Rattle.iteration.specs.Runs.{still_at}
use Rattle.iteration.proofs.still.Given as goal

abbrev pub invariant-loop-k : goal.invariant-loop-k
invariant-loop-k l = (j : ℕ) → 0 < j → j < l.k → still_at l.tol l.v l.w j ≡ true
