-- The real and the reactive part of a power x·conj y: it is linear in each, and errors pass through it. Assumes nothing.
use Rattle.std.specs.Prelude.{Bool, cond, false, true, List, [], ◌∷◌, ◌≡◌, refl, ◌*◌, ◌<◌, ℕ, ◌*ℤ◌, ◌+ℤ◌, ◌-ℤ◌, nat_abs, negsuc, pos, ℤ}
use Rattle.std.proofs.Common.{◌∙◌, ap, ap₂, sym, arith}
use Rattle.std.proofs.Math.IntN.{*ℤ-zero, zero-*ℤ}
use Rattle.account.specs.Sums.{sum}
use Rattle.integers.specs.Lists.{csum}
use Rattle.integers.proofs.Near.{Near, mul-near, near_add, near-mono, near_mul, near-neg, rnd-near}
use Rattle.integers.specs.Pairs.{0c, ◌+c◌, ◌-c◌, ◌·*◌, abs, rnd_pair, scaled, square}
use Rattle.integers.specs.Ring.{ring}
use Rattle.integers.specs.declared.Pair.{Pair}

pub data Part : Type 0 where
  real reactive : Part

abbrev pub part : Part → Pair → ℤ
part real x = x.re
part reactive x = x.im

-- the part q of x · conj y
unfoldable pub power_of : Part → Pair → Pair → ℤ
power_of q x y = part q (x ·* y)

pub power-part : (q : Part) (x y : Pair) → power_of q x y ≡ part q (x ·* y)
unfolding power_of
power-part q x y = refl

pub part-add : (q : Part) (x y : Pair) → part q (x +c y) ≡ part q x +ℤ part q y
unfolding ◌+c◌
part-add real x y = refl
part-add reactive x y = refl

pub part-sub : (q : Part) (x y : Pair) → part q (x -c y) ≡ part q x -ℤ part q y
unfolding ◌-c◌
part-sub real x y = refl
part-sub reactive x y = refl

pub part-sum : {X : Type 0} (q : Part) (f : X → Pair) (l : List X) → part q (csum f l) ≡ sum (λ x. part q (f x)) l
unfolding csum sum ◌+c◌
part-sum real f [] = refl
part-sum reactive f [] = refl
part-sum real f (x ∷ l) = ap (λ z. (f x).re +ℤ z) (part-sum real f l)
part-sum reactive f (x ∷ l) = ap (λ z. (f x).im +ℤ z) (part-sum reactive f l)

-- ---- it is linear on the right and on the left
pub power-add-right : (q : Part) (u i j : Pair) → power_of q u (i +c j) ≡ power_of q u i +ℤ power_of q u j
unfolding power_of ◌+c◌ ◌·*◌
power-add-right real u i j = simp ring
power-add-right reactive u i j = simp ring

pub power-add-left : (q : Part) (i u w : Pair) → power_of q (u +c w) i ≡ power_of q u i +ℤ power_of q w i
unfolding power_of ◌+c◌ ◌·*◌
power-add-left real i u w = simp ring
power-add-left reactive i u w = simp ring

pub power-sub-left : (q : Part) (i u w : Pair) → power_of q (u -c w) i ≡ power_of q u i -ℤ power_of q w i
unfolding power_of ◌-c◌ ◌·*◌
power-sub-left real i u w = simp ring
power-sub-left reactive i u w = simp ring

pub power-scaled-right : (q : Part) (k : ℤ) (u i : Pair) → power_of q u (scaled k i) ≡ k *ℤ power_of q u i
unfolding power_of scaled ◌·*◌
power-scaled-right real k u i = simp ring
power-scaled-right reactive k u i = simp ring

pub power-scaled-left : (q : Part) (k : ℤ) (u i : Pair) → power_of q (scaled k u) i ≡ k *ℤ power_of q u i
unfolding power_of scaled ◌·*◌
power-scaled-left real k u i = simp ring
power-scaled-left reactive k u i = simp ring

pub power-zero-right : (q : Part) (u : Pair) → power_of q u 0c ≡ pos 0
unfolding power_of ◌·*◌
power-zero-right real u = simp *ℤ-zero
power-zero-right reactive u = simp *ℤ-zero

pub power-zero-left : (q : Part) (u : Pair) → power_of q 0c u ≡ pos 0
unfolding power_of ◌·*◌
power-zero-left real u = ap₂ ◌+ℤ◌ (zero-*ℤ u.re) (zero-*ℤ u.im)
power-zero-left reactive u = ap₂ ◌-ℤ◌ (zero-*ℤ u.re) (zero-*ℤ u.im)

pub power-sum-right : {X : Type 0} (q : Part) (u : Pair) (f : X → Pair) (l : List X) → power_of q u (csum f l) ≡ sum (λ x. power_of q u (f x)) l
unfolding sum csum
power-sum-right q u f [] = power-zero-right q u
power-sum-right q u f (x ∷ l) = power-add-right q u (f x) (csum f l) ∙ ap (λ z. power_of q u (f x) +ℤ z) (power-sum-right q u f l)

pub power-sum-left : {X : Type 0} (q : Part) (i : Pair) (f : X → Pair) (l : List X) → power_of q (csum f l) i ≡ sum (λ x. power_of q (f x) i) l
unfolding sum csum
power-sum-left q i f [] = power-zero-left q i
power-sum-left q i f (x ∷ l) = power-add-left q i (f x) (csum f l) ∙ ap (λ z. power_of q (f x) i +ℤ z) (power-sum-left q i f l)

pub power-cond : (q : Part) (u i : Pair) (c : Bool) → power_of q u (cond c i 0c) ≡ cond c (power_of q u i) (pos 0)
power-cond q u i true = refl
power-cond q u i false = power-zero-right q u

-- x · conj (x · conj s) = (re² + im²) · s
self-re : (a b c d : ℤ) → a *ℤ (a *ℤ c +ℤ b *ℤ d) +ℤ b *ℤ (b *ℤ c -ℤ a *ℤ d) ≡ (a *ℤ a +ℤ b *ℤ b) *ℤ c
self-re a b c d = simp ring

self-im : (a b c d : ℤ) → b *ℤ (a *ℤ c +ℤ b *ℤ d) -ℤ a *ℤ (b *ℤ c -ℤ a *ℤ d) ≡ (a *ℤ a +ℤ b *ℤ b) *ℤ d
self-im a b c d = simp ring

natural-square : (x : Pair) → pos (square x) ≡ x.re *ℤ x.re +ℤ x.im *ℤ x.im
unfolding square
natural-square x = ap₂ ◌+ℤ◌ (one x.re) (one x.im)
  where
    one : (x : ℤ) → pos (nat_abs x * nat_abs x) ≡ x *ℤ x
    one (pos n) = refl
    one (negsuc n) = refl

pub power-self : (q : Part) (x s : Pair) → power_of q x (x ·* s) ≡ pos (square x) *ℤ part q s
unfolding power_of ◌·*◌
power-self real x s = self-re x.re x.im s.re s.im ∙ ap (λ z. z *ℤ s.re) (sym (natural-square x))
power-self reactive x s = self-im x.re x.im s.re s.im ∙ ap (λ z. z *ℤ s.im) (sym (natural-square x))

-- it moves through everything on either side
pub ruleset power-laws = (power-add-right, power-add-left, power-sub-left, power-scaled-right, power-scaled-left, power-sum-right, power-sum-left, power-zero-right, power-zero-left, power-self)

-- ---- errors
pub record NearPair (x y : Pair) (e : ℕ) : Type 0 where
  pub near-re : Near x.re y.re e
  pub near-im : Near x.im y.im e

-- b times what is rounded after a division by b
pub rounded-near : (x : Pair) (b : ℕ) → 0 < b → NearPair (scaled (pos b) (rnd_pair x b)) x b
unfolding scaled rnd_pair
rounded-near x b p = record { near-re = rnd-near x.re b p; near-im = rnd-near x.im b p }

pub part-rounded : (q : Part) (x : Pair) (w : ℕ) → 0 < w → Near (pos w *ℤ part q (rnd_pair x w)) (part q x) w
unfolding rnd_pair
part-rounded real x w p = rnd-near x.re w p
part-rounded reactive x w p = rnd-near x.im w p

pub power-near-left : (q : Part) (i : Pair) {x y : Pair} {e : ℕ} → NearPair x y e → Near (power_of q x i) (power_of q y i) (e * abs i)
unfolding power_of abs ◌·*◌
power-near-left real i h = near-mono (near_add (near_mul i.re h.near-re) (near_mul i.im h.near-im)) (omega arith)
power-near-left reactive i h = near-mono (near_add (near_mul i.re h.near-im) (near-neg (near_mul i.im h.near-re))) (omega arith)

pub power-near-right : (q : Part) (u : Pair) {x y : Pair} {e : ℕ} → NearPair x y e → Near (power_of q u x) (power_of q u y) (e * abs u)
unfolding power_of abs ◌·*◌
power-near-right real u h = near-mono (near_add (mul-near u.re h.near-re) (mul-near u.im h.near-im)) (omega arith)
power-near-right reactive u h = near-mono (near_add (mul-near u.im h.near-re) (near-neg (mul-near u.re h.near-im))) (omega arith)
