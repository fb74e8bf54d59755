-- A list as a loop passes over it: what is left from a place on, the first line with a fault, a name's place, and rows that are changed in turn. Assumes nothing.
use Rattle.std.specs.Prelude.{Bool, false, true, ◌≡◌, drop, get_or, length, set, take, Some, None}
use mathlib.Core.List.{List, [], ◌++◌, ◌∷◌, map}
use Rattle.std.proofs.Math.Decide.{ℕ_discrete}
use Rattle.std.proofs.Math.Path.{ap, refl}
use Prim.Native.Nat.{◌+◌, ◌<◌, ◌≤◌, suc, zero, ℕ}
use Rattle.std.proofs.Common.{add-one, arith, drop_of_length-le, drop-cons, get_or-take, length-take, length-take-le}
use borrow.Author.Tests.{eq-eqb, ne_eqb}
use Rattle.feeder.specs.Feeder.{first_row, place_of}
use Rattle.feeder.specs.Network.{kept}

-- what is left of the first n from place i on
abbrev pub rest : {X : Type 0} → ℕ → ℕ → List X → List X
rest i n l = drop i (take n l)

pub rest-step : {X : Type 0} (d : X) (l : List X) (n i : ℕ) → i < n → n ≤ length l → rest i n l ≡ get_or l i d ∷ rest (i + 1) n l
rest-step d l n i p q =
    let h : i < length (take n l) = rw (length-take-le n l q) p in
    rw (add-one, drop-cons (take n l) i d h, get_or-take n l i d p)

pub rest_end : {X : Type 0} (l : List X) (n i : ℕ) → n ≤ i → rest i n l ≡ []
rest_end l n i h = drop_of_length-le (take n l) {i = i} (rw length-take (omega arith))

-- ---- the first line with a fault
module _ {X : Type 0} (bad : ℕ → X → Bool) (before k : ℕ) (d : X) (l : List X) (n i : ℕ) (q : n ≤ length l) where
  pub first-here : i < n → bad k (get_or l i d) ≡ true → first_row bad before k (rest i n l) ≡ Some (before + k)
  unfolding first_row
  first-here p e = rw (rest-step d l n i p q, e)

  pub first_next : i < n → bad k (get_or l i d) ≡ false → first_row bad before k (rest i n l) ≡ first_row bad before (k + 1) (rest (i + 1) n l)
  unfolding first_row
  first_next p e = rw (rest-step d l n i p q, e)

pub first-end : {X : Type 0} (bad : ℕ → X → Bool) (before k : ℕ) (l : List X) (n i : ℕ) → n ≤ i → first_row bad before k (rest i n l) ≡ None
unfolding first_row
first-end bad before k l n i p = rw (rest_end l n i p)

-- rows that are made of others, and a test that says the same of both
pub first-image : {X Y : Type 0} (bad : ℕ → X → Bool) (worse : ℕ → Y → Bool) (f : X → Y) (before k : ℕ) (l : List X) →
    ((j : ℕ) (x : X) → worse j (f x) ≡ bad j x) → first_row worse before k (map f l) ≡ first_row bad before k l
unfolding first_row
first-image bad worse f before k [] e = refl
first-image bad worse f before k (x ∷ l) e = rw (e k x, first-image bad worse f before (k + 1) l e)

-- ---- a name's place
module _ (name : ℕ) (l : List ℕ) (n i : ℕ) (q : n ≤ length l) where
  pub place_here : i < n → name ≡ get_or l i 0 → place_of name (rest i n l) ≡ 0
  unfolding place_of
  place_here p e = rw (rest-step 0 l n i p q, eq-eqb name (get_or l i 0) e)

  pub place-next : i < n → (name ≡ get_or l i 0 → ⊥) → place_of name (rest i n l) ≡ suc (place_of name (rest (i + 1) n l))
  unfolding place_of
  place-next p e = rw (rest-step 0 l n i p q, ne_eqb name (get_or l i 0) e)

pub place_end : (name : ℕ) (l : List ℕ) (n i : ℕ) → n ≤ i → place_of name (rest i n l) ≡ 0
unfolding place_of
place_end name l n i p = rw (rest_end l n i p)

-- it is one of the names' places, or the number behind the last
pub place-within : (name : ℕ) (l : List ℕ) (n : ℕ) → place_of name (take n l) ≤ n
unfolding place_of
place-within name l zero = omega arith
place-within name [] (suc n) = omega arith
place-within name (x ∷ l) (suc n) =
    elim (ℕ_discrete name x) [
      | yes h ↦ rw (eq-eqb name x h) (omega arith)
      | no h ↦ rw (ne_eqb name x h) (omega (arith, place-within name l n))
    ]

-- ---- an array of which one row after the other is changed: the first i hold the image by g, those behind them still that by h
abbrev pub partly : {X Y : Type 0} → (X → Y) → (X → Y) → ℕ → List X → List Y
partly g h i l = map g (take i l) ++ map h (drop i l)

module _ {X Y : Type 0} (g h : X → Y) (d : Y) where
  pub partly-all : (l : List X) → partly g h (length l) l ≡ map g l
  partly-all [] = refl
  partly-all (x ∷ l) = ap (λ (r : List Y). g x ∷ r) (partly-all l)

  partly-at : (n : ℕ) (l : List X) (e : X) (o : Y) (i : ℕ) → i < length l → i < n → get_or (kept d n (partly g h i l)) i o ≡ h (get_or l i e)
  unfolding kept
  partly-at zero l e o i p q = absurd (omega arith)
  partly-at (suc n) [] e o i p q = absurd (omega arith)
  partly-at (suc n) (x ∷ l) e o zero p q = refl
  partly-at (suc n) (x ∷ l) e o (suc i) p q = partly-at n l e o i (omega arith) (omega arith)

  partly-set : (n : ℕ) (l : List X) (e : X) (i : ℕ) → i < length l → set (kept d n (partly g h i l)) i (g (get_or l i e)) ≡ kept d n (partly g h (suc i) l)
  unfolding kept
  partly-set zero l e i p = refl
  partly-set (suc n) [] e i p = absurd (omega arith)
  partly-set (suc n) (x ∷ l) e zero p = refl
  partly-set (suc n) (x ∷ l) e (suc i) p = ap (λ (r : List Y). g x ∷ r) (partly-set n l e i (omega arith))

  -- one more
  pub partly-next : (change : Y → Y) (n : ℕ) (l : List X) (e : X) (o : Y) (i : ℕ) → i < length l → i < n → change (h (get_or l i e)) ≡ g (get_or l i e) →
      set (kept d n (partly g h i l)) i (change (get_or (kept d n (partly g h i l)) i o)) ≡ kept d n (partly g h (suc i) l)
  partly-next change n l e o i p q s = rw (partly-at n l e o i p q, s) (partly-set n l e i p)
