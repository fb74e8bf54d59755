-- The columns of a row, one after the other. Assumes nothing.
use Rattle.std.specs.Prelude.{Bool, ◌&&◌, cond, false, true, List, [], ◌∷◌, ◌≡◌, refl, negsuc, neg_ℤ, pos, ℤ, get_or, length, take, None}
use Rattle.std.proofs.Common.{◌∙◌, ap, ext_get_or, get_or-take, length-take-le}
use Rattle.std.proofs.Math.Path.{sym}
use mathlib.Core.Logic.{◌⊎◌, inl, inr}
use Prim.Native.Nat.{◌+◌, ◌-◌, ◌<◌, ◌≤◌, suc, zero, ℕ}
use native.Mathlib.Omega.{arith}
use Rattle.std.proofs.Math.Dec.{leb-suc-zero, leb-zero}
use Rattle.feeder.specs.Feeder.{between, branch_in, column_of, centivolts, impedance, in_limit, no_phases, ratio, zero_if_due, zeros}
use Rattle.feeder.specs.declared.Kind.{Kind}
use Rattle.feeder.specs.declared.Kind.TheVariants.{D, L, R, Y}
use Rattle.feeder.specs.Phased.{Phases}
use Rattle.integers.specs.ListLaws.{get_or-tab, length-tab}
use Rattle.integers.specs.Lists.{all, count, tab}
use Rattle.integers.specs.Pairs.{inside}
use Rattle.text.specs.Lines.{nth}

-- ---- p_first to p_last are each at least lo and at most hi; they are each 0
unfoldable pub all_between : ℤ → ℤ → List ℤ → ℕ → ℕ → Bool
all_between lo hi p first last = all (λ j. between lo hi (nth p j)) (count first ((last + 1) - first))

unfoldable pub all_zero : List ℤ → ℕ → ℕ → Bool
all_zero p first last = all (λ j. inside 0 (nth p j)) (count first ((last + 1) - first))

-- 11's test of a voltage of the source
abbrev pub voltage_at : List ℤ → ℕ → Bool
voltage_at p j = inside 2000000 (nth p j)

-- ---- a test of each of first to last: those below j have passed it, so all do if the rest do
pub record Held (f : ℕ → Bool) (first last j : ℕ) : Type 0 where
  pub from : first ≤ j
  pub rest : all f (count first ((last + 1) - first)) ≡ all f (count j ((last + 1) - j))

pub hold-none : (f : ℕ → Bool) (first last : ℕ) → Held f first last first
hold-none f first last = record { from = omega arith; rest = refl }

module _ {f : ℕ → Bool} {first last j : ℕ} (held : Held f first last j) where
  turn : j ≤ last → all f (count first ((last + 1) - first)) ≡ (f j && all f (count (j + 1) ((last + 1) - (j + 1))))
  unfolding all count tab
  turn h = let e : (last + 1) - j ≡ suc ((last + 1) - (j + 1)) = omega arith in held.rest ∙ rw e

  pub hold-next : j ≤ last → f j ≡ true → Held f first last (j + 1)
  hold-next h e = record { from = omega arith; rest = turn h ∙ simp e }

  pub hold-fails : j ≤ last → f j ≡ false → false ≡ all f (count first ((last + 1) - first))
  hold-fails h e = sym (turn h ∙ simp e)

  pub hold-ends : last < j → true ≡ all f (count first ((last + 1) - first))
  unfolding all count tab
  hold-ends h = let e : (last + 1) - j ≡ 0 = omega arith in sym (held.rest ∙ rw e)

-- ---- the columns of each kind of row in their limits
and-true : (x : Bool) → (x && true) ≡ x
and-true true = refl
and-true false = refl

and_assoc : (x y z : Bool) → (x && (y && z)) ≡ ((x && y) && z)
and_assoc true y z = refl
and_assoc false y z = refl

and-three : (x y z : Bool) → (x && (y && z)) ≡ ((x && (y && true)) && z)
and-three true true z = refl
and-three true false z = refl
and-three false y z = refl

-- a test of m numbers from k on, and of n behind those
all_split : (f : ℕ → Bool) (k m n : ℕ) → all f (count k (m + n)) ≡ (all f (count k m) && all f (count (k + m) n))
unfolding all count tab
all_split f k zero n = let e : k + 0 ≡ k = omega arith in let z : 0 + n ≡ n = omega arith in rw (e, z)
all_split f k (suc m) n =
    let e : k + suc m ≡ (k + 1) + m = omega arith in
    let z : suc m + n ≡ suc (m + n) = omega arith in
    rw (e, z) (ap (λ (b : Bool). f k && b) (all_split f (k + 1) m n) ∙ and_assoc (f k) _ _)

pub line_in : (p : List ℤ)
    → branch_in L p ≡ (all_between (neg_ℤ (pos 100000000)) (pos 100000000) p 1 6 && all_between (neg_ℤ (pos 100000000)) (pos 100000000) p 7 12)
unfolding branch_in all_between column_of all count tab
line_in p = all_split (λ j. between (neg_ℤ (pos 100000000)) (pos 100000000) (nth p j)) 1 6 6

-- taps and level, and, where that is not 0, what the relay needs
pub regulator_in : (p : List ℤ) → branch_in R p ≡ (all_between (neg_ℤ (pos 16)) (pos 16) p 1 3 && (all_between (pos 0) (pos 20000) p 4 4
    && cond (all_zero p 4 4) true (all_between (pos 0) (pos 20000) p 5 5 && (all_between (pos 1) (pos 10000) p 6 7 && all_between (neg_ℤ (pos 100000000)) (pos 100000000) p 8 9))))
unfolding branch_in all_between all_zero column_of all count tab
regulator_in p = go (inside 0 (nth p 4)) (between (neg_ℤ (pos 16)) (pos 16) (nth p 1)) (between (neg_ℤ (pos 16)) (pos 16) (nth p 2)) (between (neg_ℤ (pos 16)) (pos 16) (nth p 3)) (between (pos 0) (pos 20000) (nth p 4))
  where
    relay : Bool → ℕ → Bool
    relay c j = in_limit (get_or (cond c [] (centivolts ∷ ratio ∷ ratio ∷ impedance no_phases ∷ impedance no_phases ∷ [])) j None) (nth p (5 + j))

    go : (c x y z w : Bool) → (x && (y && (z && (w && (relay c 0 && (relay c 1 && (relay c 2 && (relay c 3 && (relay c 4 && (relay c 5 && (relay c 6 && (relay c 7 && true))))))))))))
        ≡ ((x && (y && (z && true))) && ((w && true) && cond (c && true) true ((relay false 0 && true) && ((relay false 1 && (relay false 2 && true)) && (relay false 3 && (relay false 4 && true))))))
    go true x y z w = simp (and_assoc, and-true)
    go false x y z w = simp (and_assoc, and-true)

pub transformer_in : (p : List ℤ) → branch_in Y p ≡ (all_between (pos 1) (pos 1000000) p 1 2 && all_between (neg_ℤ (pos 100000000)) (pos 100000000) p 3 8)
unfolding branch_in all_between column_of all count tab
transformer_in p = and-three (between (pos 1) (pos 1000000) (nth p 1)) (between (pos 1) (pos 1000000) (nth p 2)) _

-- ---- the columns that are due 0
between-zero : (z : ℤ) → between (pos 0) (pos 0) z ≡ inside 0 z
unfolding inside
between-zero (pos n) = simp leb-zero
between-zero (negsuc n) = simp leb-suc-zero

pub zero_between : (p : List ℤ) (first last : ℕ) → all_between (pos 0) (pos 0) p first last ≡ all_zero p first last
unfolding all_between all_zero
zero_between p first last = simp between-zero

abbrev pub zero_unless : Bool → Bool → List ℤ → ℕ → ℕ → Bool
zero_unless x y p first last = cond (x && y) true (all_zero p first last)

-- one column, and two, of one phase or of two
one-due : (x a r : Bool) → (cond (x && true) true a && r) ≡ (cond (x && x) true (a && true) && r)
one-due true a r = refl
one-due false a r = ap (λ (b : Bool). b && r) (sym (and-true a))

own-due : (x a b : Bool) {r s : Bool} → r ≡ s → (cond (x && true) true a && (cond (x && true) true b && r)) ≡ (cond (x && x) true (a && (b && true)) && s)
own-due true a b e = e
own-due false a b {s = s} e = ap (λ (t : Bool). a && (b && t)) e ∙ and-three a b s

mutual-due : (x y a b : Bool) {r s : Bool} → r ≡ s
    → (cond (x && (y && true)) true a && (cond (x && (y && true)) true b && r)) ≡ (cond (x && y) true (a && (b && true)) && s)
mutual-due true true a b e = e
mutual-due true false a b {s = s} e = ap (λ (t : Bool). a && (b && t)) e ∙ and-three a b s
mutual-due false y a b {s = s} e = ap (λ (t : Bool). a && (b && t)) e ∙ and-three a b s

pub line_zeros : (f : Phases) (p : List ℤ)
    → zeros L f p ≡ (zero_unless f.a f.a p 1 2 && (zero_unless f.a f.b p 3 4 && (zero_unless f.a f.c p 5 6
    && (zero_unless f.b f.b p 7 8 && (zero_unless f.b f.c p 9 10 && zero_unless f.c f.c p 11 12)))))
unfolding zeros all_zero column_of all count tab
line_zeros f p =
    own-due f.a (inside 0 (nth p 1)) (inside 0 (nth p 2))
    (mutual-due f.a f.b (inside 0 (nth p 3)) (inside 0 (nth p 4))
    (mutual-due f.a f.c (inside 0 (nth p 5)) (inside 0 (nth p 6))
    (own-due f.b (inside 0 (nth p 7)) (inside 0 (nth p 8))
    (mutual-due f.b f.c (inside 0 (nth p 9)) (inside 0 (nth p 10))
    (own-due f.c (inside 0 (nth p 11)) (inside 0 (nth p 12)) refl ∙ and-true _)))))

pub regulator_zeros : (f : Phases) (p : List ℤ)
    → zeros R f p ≡ (zero_unless f.a f.a p 1 1 && (zero_unless f.b f.b p 2 2 && (zero_unless f.c f.c p 3 3 && cond (all_zero p 4 4) (all_zero p 5 12) (all_zero p 10 12))))
unfolding zeros all_zero column_of all count tab
regulator_zeros f p =
    one-due f.a (inside 0 (nth p 1)) _
    ∙ ap (λ (b : Bool). zero_unless f.a f.a p 1 1 && b)
    (one-due f.b (inside 0 (nth p 2)) _
    ∙ ap (λ (b : Bool). zero_unless f.b f.b p 2 2 && b) (one-due f.c (inside 0 (nth p 3)) _
    ∙ ap (λ (b : Bool). zero_unless f.c f.c p 3 3 && b) (go (inside 0 (nth p 4)))))
  where
    relay : Bool → ℕ → Bool
    relay c j = zero_if_due f (get_or (cond c [] (centivolts ∷ ratio ∷ ratio ∷ impedance no_phases ∷ impedance no_phases ∷ [])) j None) (nth p (5 + j))

    go : (c : Bool) → (relay c 0 && (relay c 1 && (relay c 2 && (relay c 3 && (relay c 4 && (relay c 5 && (relay c 6 && (relay c 7 && true))))))))
        ≡ cond (c && true) (relay true 0 && (relay true 1 && (relay true 2 && (relay true 3 && (relay true 4 && (relay true 5 && (relay true 6 && (relay true 7 && true)))))))) (relay true 5 && (relay true 6 && (relay true 7 && true)))
    go true = refl
    go false = refl

-- D has the columns of Y
pub transformer-zeros : (k : Kind) (f : Phases) (p : List ℤ) → (k ≡ Y) ⊎ (k ≡ D) → zeros k f p ≡ all_zero p 9 12
unfolding zeros all_zero column_of all count tab
transformer-zeros k f p (inl e) = ap (λ (j : Kind). zeros j f p) e
transformer-zeros k f p (inr e) = ap (λ (j : Kind). zeros j f p) e

-- ---- the first n of a list, by their places counted from 1
all-places : {X : Type 0} (f : X → Bool) (g : ℕ → X) (k n : ℕ) → all f (tab g k n) ≡ all (λ j. f (g j)) (count k n)
unfolding all count tab
all-places f g k zero = refl
all-places f g k (suc n) = ap (λ (b : Bool). f (g k) && b) (all-places f g (k + 1) n)

pub all_take : {X : Type 0} (f : X → Bool) (d : X) (l : List X) (n : ℕ) → n ≤ length l → all f (take n l) ≡ all (λ j. f (get_or l (j - 1) d)) (count 1 n)
all_take {X} f d l n h = ap (all f) (ext_get_or d (take n l) (tab g 1 n) (length-take-le n l h ∙ sym (length-tab g 1 n)) same) ∙ all-places f g 1 n
  where
    g : ℕ → X
    g j = get_or l (j - 1) d

    same : (i : ℕ) → i < length (take n l) → get_or (take n l) i d ≡ get_or (tab g 1 n) i d
    same i q =
        let w : i < n = omega (arith, length-take-le n l h) in
        let e : (1 + i) - 1 ≡ i = omega arith in
        get_or-take n l i d w ∙ sym (get_or-tab g 1 n i d w ∙ ap (λ (m : ℕ). get_or l m d) e)
