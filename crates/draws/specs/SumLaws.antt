-- Sums and tests over a list of rows: one row more, and rows that add the same. Assumes nothing.
use Rattle.std.specs.Prelude.{Bool, cond, false, true, List, [], ◌++◌, ◌∷◌, ◌≡◌, refl, ◌+◌, ◌<◌, suc, zero, ℕ, eqb, get_or, length, set}
use Rattle.std.proofs.Common.{◌∙◌, ap, sym, arith, get_or-set_other, get_or-set_same, eq-eqb, ne_eqb}
use Rattle.std.proofs.Math.Decide.{ℕ_discrete}
use Rattle.equations.specs.Equations.{plus3, sum3, zero3}
use Rattle.equations.specs.ThreeLaws.{plus3-assoc, plus3-comm, plus3-idr}
use Rattle.feeder.specs.Phased.{Three}
use Rattle.integers.specs.Lists.{any, csum, tab, All}
use Rattle.integers.specs.PairLaws.{+c-assoc, +c-comm}
use Rattle.integers.specs.Pairs.{0c, ◌+c◌}
use Rattle.integers.specs.declared.Pair.{Pair}

-- ---- one row more
pub csum-next : {X : Type 0} (f : X → Pair) (l : List X) (x : X) → csum f (l ++ (x ∷ [])) ≡ csum f l +c f x
unfolding csum
csum-next f [] x = +c-comm (f x) 0c
csum-next f (y ∷ l) x = ap (λ (s : Pair). f y +c s) (csum-next f l x) ∙ sym (+c-assoc (f y) (csum f l) (f x))

pub sum3-next : {X : Type 0} (f : X → Three) (l : List X) (x : X) → sum3 f (l ++ (x ∷ [])) ≡ plus3 (sum3 f l) (f x)
unfolding sum3
sum3-next f [] x = plus3-comm (f x) zero3
sum3-next f (y ∷ l) x = ap (plus3 (f y)) (sum3-next f l x) ∙ sym (plus3-assoc (f y) (sum3 f l) (f x))

pub any_next : {X : Type 0} (f : X → Bool) (l : List X) (x : X) → any f (l ++ (x ∷ [])) ≡ cond (any f l) true (f x)
unfolding any
any_next f [] x = go (f x)
  where
    go : (b : Bool) → cond b true false ≡ b
    go true = refl
    go false = refl
any_next f (y ∷ l) x = go (f y) (any f l) (any_next f l x)
  where
    go : (b t : Bool) {s : Bool} → s ≡ cond t true (f x) → cond b true s ≡ cond (cond b true t) true (f x)
    go true t e = refl
    go false t e = e

-- a table, with one place more
pub tab-next : {X : Type 0} (f : ℕ → X) (k n : ℕ) → tab f k (suc n) ≡ tab f k n ++ (f (k + n) ∷ [])
unfolding tab
tab-next f k zero = let z : k + 0 ≡ k = omega arith in rw z
tab-next f k (suc n) = let z : k + suc n ≡ (k + 1) + n = omega arith in rw z (ap (λ (l : List _). f k ∷ l) (tab-next f (k + 1) n))

-- what a row adds at place k: it has one place
abbrev pub at_place : {X : Type 0} → (X → ℕ) → (X → Three) → ℕ → X → Three
at_place place f k x = cond (eqb (place x) k) (f x) zero3

-- the sums at all places, with one row more
pub places-next : {X : Type 0} (place : X → ℕ) (f : X → Three) (l : List X) (x : X) (own : List Three) → place x < length own
    → ((k : ℕ) → get_or own k zero3 ≡ sum3 (at_place place f k) l)
    → (k : ℕ) → get_or (set own (place x) (plus3 (get_or own (place x) zero3) (f x))) k zero3 ≡ sum3 (at_place place f k) (l ++ (x ∷ []))
places-next place f l x own h e k =
    elim (ℕ_discrete k (place x)) [
      | yes q ↦ rw q
          (get_or-set_same own (place x) sum zero3 h
          ∙ ap (λ (s : Three). plus3 s (f x)) (e (place x))
          ∙ sym (more (place x) true (eq-eqb (place x) (place x) refl)))
      | no q ↦ get_or-set_other own (place x) k sum zero3 q
          ∙ e k
          ∙ sym (plus3-idr (sum3 (at_place place f k) l))
          ∙ sym (more k false (ne_eqb (place x) k (λ p. q (sym p))))
    ]
  where
    sum : Three
    sum = plus3 (get_or own (place x) zero3) (f x)

    more : (k : ℕ) (b : Bool) → eqb (place x) k ≡ b → sum3 (at_place place f k) (l ++ (x ∷ [])) ≡ plus3 (sum3 (at_place place f k) l) (cond b (f x) zero3)
    more k b q = sum3-next (at_place place f k) l x ∙ ap (λ (c : Bool). plus3 (sum3 (at_place place f k) l) (cond c (f x) zero3)) q

-- ---- rows that add the same
pub csum-same : {X : Type 0} (f g : X → Pair) (l : List X) → All (λ x. f x ≡ g x) l → csum f l ≡ csum g l
unfolding csum
csum-same f g [] h = refl
csum-same f g (x ∷ l) h = λ i. h.0 i +c csum-same f g l h.1 i

pub sum3-same : {X : Type 0} (f g : X → Three) (l : List X) → All (λ x. f x ≡ g x) l → sum3 f l ≡ sum3 g l
unfolding sum3
sum3-same f g [] h = refl
sum3-same f g (x ∷ l) h = λ i. plus3 (h.0 i) (sum3-same f g l h.1 i)
