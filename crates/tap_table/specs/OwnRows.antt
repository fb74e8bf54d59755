-- The rows of the last table by an array of branches: those that a feeder has of its own, and the taps that rows give each branch. Assumes nothing.
use Rattle.std.specs.Prelude.{Bool, cond, List, ◌∷◌, map, ◌≡◌, ◌-◌, suc, ℕ, get_or, length}
use Rattle.feeder.specs.Feeder.{moves_taps, no_branch, no_taps, taps_on}
use Rattle.feeder.specs.Network.{kept}
use Rattle.feeder.specs.declared.Branch.{Branch}
use Rattle.feeder.specs.Phased.{Taps}
use Rattle.integers.specs.Lists.{all, any, chosen, count, tab}
use Rattle.report.specs.Report.{taps_fit}
use Rattle.tap_table.specs.Regulators.{regulates_in}

-- whether one of the rows k to n has a level
unfoldable pub levels_from : List Branch → ℕ → ℕ → Bool
levels_from bs k n = any (λ i. moves_taps (get_or bs i no_branch).device) (count k (suc n - k))

-- the regulators among the rows in front of row k
unfoldable pub regulators_before : List Branch → ℕ → List ℕ
regulators_before bs k = chosen (regulates_in bs) (count 1 (k - 1))

-- ---- the names and the taps of the regulators l, one behind the other
pub record OwnHeld (nodes : List ℕ) (bs : List Branch) (l : List ℕ) (names : List ℕ) (taps : List Taps) : Type 0 where
  pub named : names ≡ kept 0 201 (map (λ k. get_or nodes k 0) l)
  pub held : taps ≡ kept no_taps 201 (map (λ k. taps_on (get_or bs k no_branch).device) l)

-- those of the rows in front of row k are held, and place j is the next
pub record OwnBefore (nodes : List ℕ) (bs : List Branch) (k j : ℕ) (names : List ℕ) (taps : List Taps) : Type 0 where
  pub counted : j ≡ length (regulators_before bs k)
  pub rows : OwnHeld nodes bs (regulators_before bs k) names taps

-- ---- the taps that the rows t of the table give the branch of row k: a regulator's row stands behind those of the regulators before it
unfoldable pub given_at : List Branch → List Taps → ℕ → Taps
given_at bs t k = cond (regulates_in bs k) (get_or t (length (regulators_before bs k)) no_taps) no_taps

-- whether those of the rows k to n fit their phases
unfoldable pub fits_from : List Branch → List Taps → ℕ → ℕ → Bool
fits_from bs t k n = all (λ i. taps_fit (get_or bs i no_branch).phases (given_at bs t i)) (count k (suc n - k))

-- those of the rows 1 to n by node number, with none for the source
unfoldable pub given_taps : List Branch → List Taps → ℕ → List Taps
given_taps bs t n = kept no_taps 201 (no_taps ∷ tab (given_at bs t) 1 n)
