-- The branches while each row gets its taps, one after the other. Assumes nothing.
use Rattle.std.specs.Prelude.{List, ◌≡◌, get_or, length}
use Prim.Native.Nat.{◌<◌, ◌≤◌, ℕ}
use Rattle.feeder.specs.Feeder.{no_branch, tapped_branch}
use Rattle.feeder.specs.declared.Branch.{Branch}
use Rattle.feeder.specs.Phased.{Taps}

-- rows 1 to k - 1 have got theirs, row j the taps t j: l is m but for these
pub record Setting (k : ℕ) (m l : List Branch) (t : ℕ → Taps) : Type 0 where
  pub long : length l ≡ length m
  pub source : get_or l 0 no_branch ≡ get_or m 0 no_branch
  pub front : (j : ℕ) → 0 < j → j < k → get_or l j no_branch ≡ tapped_branch (t j) (get_or m j no_branch)
  pub behind : (j : ℕ) → k ≤ j → get_or l j no_branch ≡ get_or m j no_branch
