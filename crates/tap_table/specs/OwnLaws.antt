-- The regulators in front of a row, one row more, and what the arrays hold of them. Assumes nothing.
use Rattle.std.specs.Prelude.{Bool, ◌&&◌, false, true, List, [], ◌++◌, ◌∷◌, map, ◌≡◌, get_or, replicate}
use Rattle.std.proofs.Math.Bool.{cond}
use Rattle.std.proofs.Common.{append-nil, ◌∙◌, ap, sym, length-append}
use Rattle.std.proofs.lemmas.List.{map-append, length-map}
use Rattle.std.proofs.Math.Path.{refl}
use Prim.Native.Nat.{◌+◌, ◌-◌, ◌<◌, ◌≤◌, suc, zero, ℕ}
use native.Mathlib.Omega.{arith}
use Rattle.std.proofs.Math.ListN.{length, set}
use Rattle.feeder.specs.Feeder.{moves_taps, no_branch, no_taps, taps_on}
use Rattle.feeder.specs.Network.{kept}
use Rattle.feeder.specs.NetworkLaws.{blank-kept, kept_next}
use Rattle.feeder.proofs.TapLaws.{length-chosen}
use Rattle.feeder.specs.declared.Branch.{Branch}
use Rattle.feeder.specs.Phased.{Taps}
use Rattle.integers.specs.ListLaws.{length-tab}
use Rattle.integers.specs.Lists.{all, any, chosen, count, tab}
use Rattle.report.specs.Report.{taps_fit}
use Rattle.tap_table.specs.OwnRows.{OwnBefore, OwnHeld, fits_from, given_at, given_taps, levels_from, regulators_before}
use Rattle.std.specs.List.{list_any, range_with_len}
use Rattle.tap_table.specs.Regulators.{list-any, none-fit, numbers-from, regulates_in, regulators_from}

-- ---- a list of numbers, one more at its end
tab-last : {X : Type 0} (f : ℕ → X) (a n : ℕ) → tab f a (suc n) ≡ tab f a n ++ (f (a + n) ∷ [])
unfolding tab
tab-last f a zero = let z : a + 0 ≡ a = omega arith in rw z refl
tab-last f a (suc n) = let z : a + suc n ≡ (a + 1) + n = omega arith in rw z (ap (λ (l : List _). f a ∷ l) (tab-last f (a + 1) n))

chosen_last : {X : Type 0} (c : X → Bool) (l : List X) (x : X) → chosen c (l ++ (x ∷ [])) ≡ chosen c l ++ cond (c x) (x ∷ []) []
unfolding chosen
chosen_last c [] x = refl
chosen_last c (y ∷ l) x = go (c y) (chosen_last c l x)
  where
    go : (d : Bool) → chosen c (l ++ (x ∷ [])) ≡ chosen c l ++ cond (c x) (x ∷ []) [] → cond d (y ∷ chosen c (l ++ (x ∷ []))) (chosen c (l ++ (x ∷ []))) ≡ cond d (y ∷ chosen c l) (chosen c l) ++ cond (c x) (x ∷ []) []
    go true e = ap (λ (m : List _). y ∷ m) e
    go false e = e

-- ---- levels
module _ (bs : List Branch) (k n : ℕ) where
  pub levels-next : k ≤ n → levels_from bs k n ≡ cond (moves_taps (get_or bs k no_branch).device) true (levels_from bs (k + 1) n)
  unfolding levels_from any count tab
  levels-next h = let e : suc n - k ≡ suc (suc n - (k + 1)) = omega arith in rw e refl

  pub levels-none : n < k → levels_from bs k n ≡ false
  unfolding levels_from any count tab
  levels-none h = let e : suc n - k ≡ 0 = omega arith in rw e refl

pub levels-any : (bs : List Branch) (n : ℕ) → list_any (λ k. moves_taps (get_or bs k no_branch).device) (range_with_len 1 n) ≡ levels_from bs 1 n
unfolding levels_from count
levels-any bs n =
    let z : suc n - 1 ≡ n = omega arith in
    rw z (list-any _ (range_with_len 1 n) ∙ ap (any (λ k. moves_taps (get_or bs k no_branch).device)) (numbers-from 1 n))

-- ---- the regulators in front of a row
module _ (bs : List Branch) where
  before-next : (k : ℕ) → 1 ≤ k → regulators_before bs (k + 1) ≡ regulators_before bs k ++ cond (regulates_in bs k) (k ∷ []) []
  unfolding regulators_before count
  before-next k h =
      let e : k + 1 - 1 ≡ suc (k - 1) = omega arith in
      let z : 1 + (k - 1) ≡ k = omega arith in
      rw (e, tab-last (λ (i : ℕ). i) 1 (k - 1), z) (chosen_last (regulates_in bs) (tab (λ i. i) 1 (k - 1)) k)

  pub before-first : regulators_before bs 1 ≡ []
  unfolding regulators_before count tab chosen
  before-first = refl

  -- in front of the row behind the last: all
  pub before-all : (n k : ℕ) → k ≡ n + 1 → regulators_before bs k ≡ regulators_from bs 1 n
  unfolding regulators_before regulators_from
  before-all n k h = let z : k - 1 ≡ suc n - 1 = omega arith in rw z refl

  pub before-few : (k : ℕ) → length (regulators_before bs k) ≤ k - 1
  unfolding regulators_before count
  before-few k = omega (arith, length-chosen (regulates_in bs) (tab (λ i. i) 1 (k - 1)), length-tab (λ (i : ℕ). i) 1 (k - 1))

  pub before-some : (k : ℕ) → 1 ≤ k → regulates_in bs k ≡ true → regulators_before bs (k + 1) ≡ regulators_before bs k ++ (k ∷ [])
  before-some k h e = before-next k h ∙ ap (λ (d : Bool). regulators_before bs k ++ cond d (k ∷ []) []) e

  pub before-none : (k : ℕ) → 1 ≤ k → regulates_in bs k ≡ false → regulators_before bs (k + 1) ≡ regulators_before bs k
  before-none k h e = before-next k h ∙ ap (λ (d : Bool). regulators_before bs k ++ cond d (k ∷ []) []) e ∙ append-nil (regulators_before bs k)

  pub before-more : (k j : ℕ) → 1 ≤ k → regulates_in bs k ≡ true → j ≡ length (regulators_before bs k) → j + 1 ≡ length (regulators_before bs (k + 1))
  before-more k j h e c = rw (before-some k h e) (omega (arith, length-append (regulators_before bs k) (k ∷ [])))

  pub before-count : (k : ℕ) → 1 ≤ k → length (regulators_before bs (k + 1)) ≡ length (regulators_before bs k) + cond (regulates_in bs k) 1 0
  before-count k h = go (regulates_in bs k) refl
    where
      go : (d : Bool) → regulates_in bs k ≡ d → length (regulators_before bs (k + 1)) ≡ length (regulators_before bs k) + cond d 1 0
      go true e = ap length (before-some k h e) ∙ length-append (regulators_before bs k) (k ∷ [])
      go false e = rw (before-none k h e) (omega arith)

-- ---- the arrays of their names and taps
-- one more in an array
map_next : {X : Type 0} (d : X) (g : ℕ → X) (l : List ℕ) (k j : ℕ) (cells : List X) (y : X) → j ≡ length l → j < 201 → cells ≡ kept d 201 (map g l) → y ≡ g k → set cells j y ≡ kept d 201 (map g (l ++ (k ∷ [])))
map_next d g l k j cells y c h e f =
    let z : length (map g l) ≡ j = length-map l g ∙ sym c in
    (λ i. set (e i) (sym z i) (f i)) ∙ kept_next d 201 (map g l) (g k) (omega arith) ∙ ap (kept d 201) (sym (map-append g l (k ∷ [])))

module _ (nodes : List ℕ) (bs : List Branch) where
  pub own-start : (names : List ℕ) (taps : List Taps) → names ≡ replicate 201 0 → taps ≡ replicate 201 no_taps → OwnBefore nodes bs 1 0 names taps
  own-start names taps a b = record {
    counted = rw (before-first bs) refl;
    rows = record {
      named = rw (before-first bs) (a ∙ blank-kept 0 201);
      held = rw (before-first bs) (b ∙ blank-kept no_taps 201);
    };
  }

  module _ (k j : ℕ) (names : List ℕ) (taps : List Taps) (g : OwnBefore nodes bs k j names taps) where
    pub own-few : 1 ≤ k → j < k
    own-few h = omega (arith, before-few bs k, g.counted)

    pub own-some : (next : List Taps) (name : ℕ) (own : Taps) → 1 ≤ k → k ≤ 200 → regulates_in bs k ≡ true → name ≡ get_or nodes k 0 → own ≡ taps_on (get_or bs k no_branch).device → next ≡ set taps j own
        → OwnBefore nodes bs (k + 1) (j + 1) (set names j name) next
    own-some next name own h q e n o t =
        let f = own-few h in
        let l = regulators_before bs k in
        record {
          counted = before-more bs k j h e g.counted;
          rows = record {
            named = rw (before-some bs k h e) (map_next 0 (λ i. get_or nodes i 0) l k j names name g.counted (omega arith) g.rows.named n);
            held = rw (before-some bs k h e) (t ∙ map_next no_taps (λ i. taps_on (get_or bs i no_branch).device) l k j taps own g.counted (omega arith) g.rows.held o);
          };
        }

    pub own-none : 1 ≤ k → regulates_in bs k ≡ false → OwnBefore nodes bs (k + 1) j names taps
    own-none h e = record {
      counted = rw (before-none bs k h e) g.counted;
      rows = record { named = rw (before-none bs k h e) g.rows.named; held = rw (before-none bs k h e) g.rows.held };
    }

    pub own-all : (n : ℕ) → k ≡ n + 1 → OwnHeld nodes bs (regulators_from bs 1 n) names taps
    own-all n h = record { named = rw (← before-all bs n k h) g.rows.named; held = rw (← before-all bs n k h) g.rows.held }

-- ---- the taps by node number
-- what an array has where nothing is kept, kept once more
kept-blank : {X : Type 0} (d : X) (n : ℕ) (l : List X) → kept d n (l ++ (d ∷ [])) ≡ kept d n l
unfolding kept
kept-blank d zero l = refl
kept-blank d (suc n) [] = refl
kept-blank d (suc n) (x ∷ l) = ap (λ (m : List _). x ∷ m) (kept-blank d n l)

pub image-at : {X Y : Type 0} (g : X → Y) (d : X) (l : List X) (k : ℕ) → get_or (map g l) k (g d) ≡ g (get_or l k d)
image-at g d [] k = refl
image-at g d (x ∷ l) zero = refl
image-at g d (x ∷ l) (suc k) = image-at g d l k

module _ (bs : List Branch) (t : List Taps) where
  pub given_is : (k j : ℕ) (d : Bool) (x : Taps) → d ≡ regulates_in bs k → j ≡ length (regulators_before bs k) → x ≡ cond d (get_or t j no_taps) no_taps → x ≡ given_at bs t k
  unfolding given_at
  given_is k j d x e c h = h ∙ (λ i. cond (e i) (get_or t (c i) no_taps) no_taps)

  given-some : (k j : ℕ) → regulates_in bs k ≡ true → j ≡ length (regulators_before bs k) → get_or t j no_taps ≡ given_at bs t k
  unfolding given_at
  given-some k j e c = rw (e, c) refl

  given-none : (k : ℕ) → regulates_in bs k ≡ false → given_at bs t k ≡ no_taps
  unfolding given_at
  given-none k e = rw e refl

  pub fits_next : (k n : ℕ) → k ≤ n → fits_from bs t k n ≡ (taps_fit (get_or bs k no_branch).phases (given_at bs t k) && fits_from bs t (k + 1) n)
  unfolding fits_from all count tab
  fits_next k n h = let e : suc n - k ≡ suc (suc n - (k + 1)) = omega arith in rw e refl

  -- a regulator's row has the taps of the table's next, and the row of another branch none
  pub fits-some : (k j n : ℕ) → k ≤ n → regulates_in bs k ≡ true → j ≡ length (regulators_before bs k) →
      fits_from bs t k n ≡ (taps_fit (get_or bs k no_branch).phases (get_or t j no_taps) && fits_from bs t (k + 1) n)
  fits-some k j n h e c = fits_next k n h ∙ rw (given-some k j e c) refl

  pub fits-skip : (k n : ℕ) → k ≤ n → regulates_in bs k ≡ false → fits_from bs t k n ≡ fits_from bs t (k + 1) n
  fits-skip k n h e = fits_next k n h ∙ rw (given-none k e, none-fit (get_or bs k no_branch).phases) refl

  pub fits-none : (k n : ℕ) → n < k → fits_from bs t k n ≡ true
  unfolding fits_from all count tab
  fits-none k n h = let e : suc n - k ≡ 0 = omega arith in rw e refl

  pub given-start : (taps : List Taps) → taps ≡ replicate 201 no_taps → taps ≡ given_taps bs t 0
  unfolding given_taps tab kept
  given-start taps e = e ∙ blank-kept no_taps 201

  pub given-next : (k : ℕ) (taps next : List Taps) (x : Taps) → 1 ≤ k → k ≤ 200 → taps ≡ given_taps bs t (k - 1) → x ≡ given_at bs t k → next ≡ set taps k x → next ≡ given_taps bs t (k + 1 - 1)
  unfolding given_taps
  given-next k taps next x h q e f g =
      let u = tab (given_at bs t) 1 (k - 1) in
      let z : length (no_taps ∷ u) ≡ k = omega (arith, length-tab (given_at bs t) 1 (k - 1)) in
      let a : k + 1 - 1 ≡ suc (k - 1) = omega arith in
      let b : 1 + (k - 1) ≡ k = omega arith in
      g ∙ (λ i. set (e i) (sym z i) (f i)) ∙ kept_next no_taps 201 (no_taps ∷ u) (given_at bs t k) (omega arith)
      ∙ rw (a, tab-last (given_at bs t) 1 (k - 1), b) refl

  -- those up to row k are those in front of it, and its own
  given-last : (k : ℕ) → 1 ≤ k → given_taps bs t (k + 1 - 1) ≡ kept no_taps 201 ((no_taps ∷ tab (given_at bs t) 1 (k - 1)) ++ (given_at bs t k ∷ []))
  unfolding given_taps
  given-last k h =
      let a : k + 1 - 1 ≡ suc (k - 1) = omega arith in
      let b : 1 + (k - 1) ≡ k = omega arith in
      rw (a, tab-last (given_at bs t) 1 (k - 1), b) refl

  pub taps-some : (k j : ℕ) (taps : List Taps) → 1 ≤ k → k ≤ 200 → regulates_in bs k ≡ true → j ≡ length (regulators_before bs k) → taps ≡ given_taps bs t (k - 1) →
      set taps k (get_or t j no_taps) ≡ given_taps bs t (k + 1 - 1)
  unfolding given_taps
  taps-some k j taps h q e c g =
      let u = no_taps ∷ tab (given_at bs t) 1 (k - 1) in
      let z : length u ≡ k = omega (arith, length-tab (given_at bs t) 1 (k - 1)) in
      (λ i. set (g i) (sym z i) (given-some k j e c i)) ∙ kept_next no_taps 201 u (given_at bs t k) (omega arith) ∙ sym (given-last k h)

  pub taps-skip : (k : ℕ) → 1 ≤ k → regulates_in bs k ≡ false → given_taps bs t (k - 1) ≡ given_taps bs t (k + 1 - 1)
  unfolding given_taps
  taps-skip k h e = sym (given-last k h ∙ rw (given-none k e) (kept-blank no_taps 201 (no_taps ∷ tab (given_at bs t) 1 (k - 1))))
