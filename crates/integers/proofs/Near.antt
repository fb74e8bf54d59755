-- x and y are near: twice their difference is at most e. The rules by which errors add up. Assumes nothing.
use Rattle.std.specs.Prelude.{◌≡◌, ℕ, suc, ◌+◌, ◌*◌, ◌≤◌, ◌<◌, ℤ, pos, negsuc, neg_ℤ, nat_abs, ◌+ℤ◌, ◌-ℤ◌, ◌*ℤ◌}
use Rattle.std.proofs.Common.{mul-le-mul_left, arith}
use Rattle.std.proofs.Math.Nat.{le_of_mul-le-mul_left}
use Rattle.std.proofs.Math.IntN.{*ℤ_comm}
use Rattle.integers.specs.Rounding.{rnd}
use Rattle.integers.specs.Whole.{pos_part, neg_part, add_parts, pos-neg, neg-neg, pos-mul, neg-mul, abs-parts, one-part}
use Rattle.integers.proofs.RoundingLaws.{HalfOff, rnd-half}

-- x is not above y by more than half of e, and not below
pub record Near (x y : ℤ) (e : ℕ) : Type 0 where
  pub up : 2 * pos_part x + 2 * neg_part y ≤ 2 * neg_part x + 2 * pos_part y + e
  pub down : 2 * pos_part y + 2 * neg_part x ≤ 2 * neg_part y + 2 * pos_part x + e

-- what it says
pub near-abs : {x y : ℤ} {e : ℕ} → Near x y e → 2 * nat_abs (x -ℤ y) ≤ e
near-abs {x} {y} h = omega (arith, add_parts x (neg_ℤ y), pos-neg y, neg-neg y, abs-parts (x -ℤ y), one-part (x -ℤ y))

pub abs-near : {x y : ℤ} {e : ℕ} → nat_abs (x -ℤ y) ≤ e → Near x y (2 * e)
abs-near {x} {y} h = omega (arith, add_parts x (neg_ℤ y), pos-neg y, neg-neg y, abs-parts (x -ℤ y))

pub near-refl : (x : ℤ) → Near x x 0
near-refl x = omega arith

pub near-sym : {x y : ℤ} {e : ℕ} → Near x y e → Near y x e
near-sym h = omega arith

pub near-trans : {x y z : ℤ} {e f : ℕ} → Near x y e → Near y z f → Near x z (e + f)
near-trans h k = omega arith

pub near-mono : {x y : ℤ} {e f : ℕ} → Near x y e → e ≤ f → Near x y f
near-mono h k = omega arith

pub near_add : {x y x' y' : ℤ} {e f : ℕ} → Near x y e → Near x' y' f → Near (x +ℤ x') (y +ℤ y') (e + f)
near_add {x} {y} {x'} {y'} h k = omega (arith, add_parts x x', add_parts y y')

pub near-neg : {x y : ℤ} {e : ℕ} → Near x y e → Near (neg_ℤ x) (neg_ℤ y) e
near-neg {x} {y} h = omega (arith, pos-neg x, neg-neg x, pos-neg y, neg-neg y)

-- times c, on either side
pub near_mul : (c : ℤ) {x y : ℤ} {e : ℕ} → Near x y e → Near (x *ℤ c) (y *ℤ c) (e * nat_abs c)
near_mul (pos n) {x} {y} h = omega (arith, pos-mul x (pos n), neg-mul x (pos n), pos-mul y (pos n), neg-mul y (pos n), mul-le-mul_left n h.up, mul-le-mul_left n h.down)
near_mul (negsuc n) {x} {y} h = omega (arith, pos-mul x (negsuc n), neg-mul x (negsuc n), pos-mul y (negsuc n), neg-mul y (negsuc n), mul-le-mul_left (suc n) h.up, mul-le-mul_left (suc n) h.down)

pub mul-near : (c : ℤ) {x y : ℤ} {e : ℕ} → Near x y e → Near (c *ℤ x) (c *ℤ y) (e * nat_abs c)
mul-near c {x} {y} h = rw (*ℤ_comm c x, *ℤ_comm c y) (near_mul c h)

-- a common factor goes
pub near_div : (k : ℕ) {x y : ℤ} {e : ℕ} → 0 < k → Near (pos k *ℤ x) (pos k *ℤ y) (k * e) → Near x y e
near_div k {x} {y} {e} p h =
    let facts : (pos_part (pos k *ℤ x) ≡ k * pos_part x) × (neg_part (pos k *ℤ x) ≡ k * neg_part x) × (pos_part (pos k *ℤ y) ≡ k * pos_part y) × (neg_part (pos k *ℤ y) ≡ k * neg_part y)
    = omega (arith, pos-mul (pos k) x, neg-mul (pos k) x, pos-mul (pos k) y, neg-mul (pos k) y) in
    record { up = le_of_mul-le-mul_left {k = k} (omega arith) p; down = le_of_mul-le-mul_left {k = k} (omega arith) p }

-- ---- rounding
pub half-near : {a k : ℤ} {b : ℕ} → HalfOff a b k → Near (pos b *ℤ k) a b
half-near {a} {k} {b} h = omega (arith, add_parts a (neg_ℤ (pos b *ℤ k)), pos-neg (pos b *ℤ k), neg-neg (pos b *ℤ k), abs-parts (a -ℤ pos b *ℤ k))

pub rnd-near : (a : ℤ) (b : ℕ) → 0 < b → Near (pos b *ℤ rnd a b) a b
rnd-near a b p = half-near (rnd-half a b p)
