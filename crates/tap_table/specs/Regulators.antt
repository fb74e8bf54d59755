-- The regulators among the rows of an array of branches, and taps that a report may have. Assumes nothing.
use Rattle.std.specs.Prelude.{Bool, ◌&&◌, ◌||◌, cond, false, true, List, [], ◌∷◌, ◌≡◌, refl, ◌+◌, ◌-◌, ◌<◌, ◌≤◌, suc, zero, ℕ, pos, ℤ, get_or, length}
use Rattle.std.proofs.Math.Bool.{and-true}
use Rattle.std.proofs.Common.{◌∙◌, ap, arith}
use Rattle.std.specs.List.{filter, list_any, range_with_len}
use Rattle.feeder.proofs.TapLaws.{length-chosen}
use Rattle.integers.specs.ListLaws.{length-tab}
use Rattle.feeder.specs.Feeder.{Feeder, branch_at, no_branch, no_taps, regulates, regulators, row_count}
use Rattle.feeder.specs.Network.{branch_array}
use Rattle.feeder.specs.NetworkLaws.{get_or_kept}
use Rattle.feeder.specs.declared.Branch.{Branch}
use Rattle.feeder.specs.Phased.{Phases, Taps}
use Rattle.integers.specs.Lists.{all, any, chosen, count, tab}
use Rattle.integers.specs.Pairs.{inside}
use Rattle.report.specs.Report.{taps_fit}

-- those of the rows k to n
abbrev pub regulates_in : List Branch → ℕ → Bool
regulates_in bs k = regulates (get_or bs k no_branch).device

unfoldable pub regulators_from : List Branch → ℕ → ℕ → List ℕ
regulators_from bs k n = chosen (regulates_in bs) (count k (suc n - k))

pub one_more : (bs : List Branch) (k n : ℕ) → k ≤ n → length (regulators_from bs k n) ≡ cond (regulates_in bs k) 1 0 + length (regulators_from bs (k + 1) n)
unfolding regulators_from count tab chosen
one_more bs k n h =
    let e : suc n - k ≡ suc (suc n - (k + 1)) = omega arith in
    rw e (go (regulates_in bs k))
  where
    go : (d : Bool) → length (cond d (k ∷ chosen (regulates_in bs) (tab (λ i. i) (k + 1) (suc n - (k + 1)))) (chosen (regulates_in bs) (tab (λ i. i) (k + 1) (suc n - (k + 1))))) ≡ cond d 1 0 + length (chosen (regulates_in bs) (tab (λ i. i) (k + 1) (suc n - (k + 1))))
    go true = omega arith
    go false = omega arith

pub none_more : (bs : List Branch) (k n : ℕ) → n < k → length (regulators_from bs k n) ≡ 0
unfolding regulators_from count tab chosen
none_more bs k n h =
    let e : suc n - k ≡ 0 = omega arith in
    rw e

pub one-most : (d : Bool) → cond d 1 0 ≤ 1
one-most true = omega arith
one-most false = omega arith

-- ---- the library's words for a run of numbers, for those of it that a test chooses, and for whether it chooses one
pub numbers-from : (a n : ℕ) → range_with_len a n ≡ tab (λ (i : ℕ). i) a n
unfolding tab
numbers-from a zero = refl
numbers-from a (suc n) = ap (λ (l : List ℕ). a ∷ l) (numbers-from (a + 1) n)

filter-chosen : {X : Type 0} (c : X → Bool) (l : List X) → filter c l ≡ chosen c l
unfolding chosen
filter-chosen c [] = refl
filter-chosen c (x ∷ l) = ap (λ (m : List _). cond (c x) (x ∷ m) m) (filter-chosen c l)

pub list-any : {X : Type 0} (c : X → Bool) (l : List X) → list_any c l ≡ any c l
unfolding any
list-any c [] = refl
list-any c (x ∷ l) = go (c x) (list-any c l)
  where
    go : (d : Bool) → list_any c l ≡ any c l → (d || list_any c l) ≡ cond d true (any c l)
    go true e = refl
    go false e = e

-- the regulators that a count goes over
pub regulators-filtered : (bs : List Branch) (n : ℕ) → filter (regulates_in bs) (range_with_len 1 n) ≡ regulators_from bs 1 n
unfolding regulators_from count
regulators-filtered bs n =
    let z : suc n - 1 ≡ n = omega arith in
    rw z (filter-chosen (regulates_in bs) (range_with_len 1 n) ∙ ap (chosen (regulates_in bs)) (numbers-from 1 n))

pub regulators-few : (bs : List Branch) (n : ℕ) → length (regulators_from bs 1 n) ≤ n
unfolding regulators_from count
regulators-few bs n =
    let z : suc n - 1 ≡ n = omega arith in
    rw z (omega (arith, length-chosen (regulates_in bs) (tab (λ (i : ℕ). i) 1 n), length-tab (λ (i : ℕ). i) 1 n))

-- of an array that holds a feeder they are the feeder's
pub regulators-held : (f : Feeder) → row_count f ≤ 200 → regulators_from (branch_array f) 1 (row_count f) ≡ regulators f
unfolding regulators_from regulators branch_at
regulators-held f h =
    let z : suc (row_count f) - 1 ≡ row_count f = omega arith in
    let e : (k : ℕ) → get_or (branch_array f) k no_branch ≡ branch_at f k = λ k. get_or_kept no_branch 201 (no_branch ∷ f.branches) k (omega arith) in
    λ i. chosen (λ k. regulates (e k i).device) (count 1 (z i))

-- ---- a tap within ±16, and 0 on an absent phase
abbrev pub tap_fits : Bool → ℤ → Bool
tap_fits present z = inside 16 z && cond present true (inside 0 z)

pub fits-three : (f : Phases) (t : Taps) → taps_fit f t ≡ (tap_fits f.a t.a && (tap_fits f.b t.b && tap_fits f.c t.c))
unfolding taps_fit all
fits-three f t = ap (λ (b : Bool). tap_fits f.a t.a && (tap_fits f.b t.b && b)) (and-true (tap_fits f.c t.c))

-- no taps fit any phases
pub none-fit : (f : Phases) → taps_fit f no_taps ≡ true
unfolding inside
none-fit f = fits-three f no_taps ∙ (λ i. one f.a i && (one f.b i && one f.c i))
  where
    one : (b : Bool) → tap_fits b (pos 0) ≡ true
    one true = refl
    one false = refl
