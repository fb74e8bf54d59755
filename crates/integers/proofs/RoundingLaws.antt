-- What rounding does: the bounds that make `near` the nearest, sign and size, and the one law that every bound on an error uses. Assumes nothing.
use Rattle.std.specs.Prelude.{◌≡◌, refl, ℕ, zero, suc, ◌+◌, ◌-◌, ◌*◌, ◌/◌, ◌%◌, ◌≤◌, ◌<◌, ℤ, pos, negsuc, nat_abs, neg_ℤ, ◌-ℤ◌, ◌*ℤ◌}
use Rattle.std.proofs.Common.{sym, ap, ◌∙◌, suc-mul, mul-suc, le-mul_of_pos_right, le_of_suc-le-suc, lt_of_mul-lt-mul_right, mul_left_comm, add-mul, one-mul, mul_comm, div-mul-le_self, div-add-mod', mod-lt, arith}
use Rattle.std.proofs.Math.Nat.{div-eq_of_lt, div-eq_of_lt-le, lt-div-mul-add}
use Rattle.std.proofs.Math.IntN.{neg_ℤ-neg_ℤ}
use Rattle.integers.specs.Rounding.{near, rnd}
use Rattle.integers.specs.Whole.{parts, products, abs_neg}

-- ---- naturals
twice : (k d : ℕ) → k * (2 * d) ≡ 2 * (k * d)
twice k d = mul_left_comm k 2 d

-- the bounds determine the value
pub near-is : (n d k : ℕ) → 2 * (k * d) ≤ 2 * n + d → 2 * n + d < 2 * (k * d) + 2 * d → near n d ≡ k
unfolding near
near-is n d k lo hi = div-eq_of_lt-le (2 * d) (omega (arith, twice k d)) (omega (arith, add-mul k 1 (2 * d), one-mul (2 * d), twice k d))

pub near-low : (n d : ℕ) → 2 * (near n d * d) ≤ 2 * n + d
unfolding near
near-low n d = omega (arith, twice ((2 * n + d) / (2 * d)) d, div-mul-le_self (2 * n + d) (2 * d))

pub near-high : (n d : ℕ) → 0 < d → 2 * n + d < 2 * (near n d * d) + 2 * d
unfolding near
near-high n d h = let p : 0 < 2 * d = omega arith in omega (arith, twice ((2 * n + d) / (2 * d)) d, lt-div-mul-add {a = 2 * n + d} p)

-- by the quotient and the remainder: as the code divides
pub near-stay : (n d : ℕ) → 0 < d → n % d < d - n % d → near n d ≡ n / d
near-stay n d p h = near-is n d (n / d) (omega (arith, div-add-mod' n d)) (omega (arith, div-add-mod' n d))

pub near_next : (n d : ℕ) → 0 < d → d - n % d ≤ n % d → near n d ≡ n / d + 1
near_next n d p h =
    let e = div-add-mod' n d in
    let l = mod-lt n p in
    let m = add-mul (n / d) 1 d in
    near-is n d (n / d + 1) (omega (arith, one-mul d)) (omega (arith, one-mul d))

pub near-zero : (d : ℕ) → near 0 d ≡ 0
unfolding near
near-zero zero = refl
near-zero (suc d) = div-eq_of_lt (omega arith)

-- less than m and a half times d is at most m when rounded
pub near-bound : (n d m : ℕ) → 0 < d → 2 * n < 2 * (m * d) + d → near n d ≤ m
near-bound n d m p h = le_of_suc-le-suc (lt_of_mul-lt-mul_right d (omega (arith, near-low n d, suc-mul m d)))

-- rounding makes nothing larger
pub near_le : (n d : ℕ) → 0 < d → near n d ≤ n
near_le n d p = near-bound n d n p (omega (arith, le-mul_of_pos_right n p))

-- ---- whole numbers
pub rnd-neg : (a : ℤ) (d : ℕ) → rnd (neg_ℤ a) d ≡ neg_ℤ (rnd a d)
unfolding rnd near
rnd-neg (pos zero) d = ap pos (near-zero d) ∙ ap (λ (k : ℕ). neg_ℤ (pos k)) (sym (near-zero d))
rnd-neg (pos (suc n)) d = refl
rnd-neg (negsuc n) d = sym (neg_ℤ-neg_ℤ (pos (near (suc n) d)))

pub abs-rnd : (a : ℤ) (d : ℕ) → nat_abs (rnd a d) ≡ near (nat_abs a) d
unfolding rnd
abs-rnd (pos n) d = refl
abs-rnd (negsuc n) d = abs_neg (pos (near (suc n) d))

-- the size n with a's sign
unfoldable pub with_sign : ℤ → ℕ → ℤ
with_sign (pos a) n = pos n
with_sign (negsuc a) n = neg_ℤ (pos n)

pub rnd-sign : (a : ℤ) (d : ℕ) → rnd a d ≡ with_sign a (near (nat_abs a) d)
unfolding rnd with_sign
rnd-sign (pos n) d = refl
rnd-sign (negsuc n) d = refl

-- k is a / d to within a half. Every bound above this crate uses this law alone, so that another rule for ties can take rnd's place
pub record HalfOff (a : ℤ) (d : ℕ) (k : ℤ) : Type 0 where
  pub half : 2 * nat_abs (a -ℤ pos d *ℤ k) ≤ d

pub rnd-half : (a : ℤ) (d : ℕ) → 0 < d → HalfOff a d (rnd a d)
unfolding rnd
rnd-half (pos n) d p = record { half = simp parts (omega (arith, near-low n d, near-high n d p, mul_comm (near n d) d)) }
rnd-half (negsuc n) d p = record { half = simp products (omega (arith, near-low (suc n) d, near-high (suc n) d p, mul_comm (near (suc n) d) d)) }

-- nearer than a half determines the number: no rule for ties is asked
unique-pos : (n d : ℕ) (k : ℤ) → 2 * nat_abs (pos n -ℤ pos d *ℤ k) < d → rnd (pos n) d ≡ k
unfolding rnd
unique-pos n d (pos m) h =
    let e = simp parts at h in
    ap pos (near-is n d m (omega (arith, e, mul_comm m d)) (omega (arith, e, mul_comm m d)))
unique-pos n d (negsuc m) h = absurd (omega (arith, simp products at h, mul-suc d m))

pub rnd-unique : (a : ℤ) (d : ℕ) (k : ℤ) → 2 * nat_abs (a -ℤ pos d *ℤ k) < d → rnd a d ≡ k
rnd-unique (pos n) d k h = unique-pos n d k h
rnd-unique (negsuc n) d k h =
    let e : 2 * nat_abs (pos (suc n) -ℤ pos d *ℤ neg_ℤ k) < d = simp products (omega (arith, simp products at h)) in
    rnd-neg (pos (suc n)) d ∙ ap neg_ℤ (unique-pos (suc n) d (neg_ℤ k) e) ∙ neg_ℤ-neg_ℤ k
