-- `deviations::first_marked` meets its contract: no node passed is marked below one that is not. Assumes nothing.
use Rattle.std.proofs.Common.{◌<◌, ℕ, ◌≡◌, get_or, List, Bool, false}
use Rattle.std.specs.Prelude.{◌&&◌, not}
use Rattle.feeder.specs.declared.Branch.{Branch}
use Rattle.radial.specs.Radial.{parent_in}
use Rattle.deviations.proofs.first_marked.Given as goal

-- node k is marked, and its parent is not
abbrev pub bad : List Branch → List Bool → ℕ → Bool
bad branches off k = get_or off k false && not (get_or off (parent_in branches k) false)

abbrev pub invariant-loop-k : goal.invariant-loop-k
invariant-loop-k l = (j : ℕ) → j < l.k → bad l.network.branches l.off j ≡ false
