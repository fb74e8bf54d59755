-- Pairs: how large what is worked with them can be, what the tests on them say, and the laws of their sums. Assumes nothing.
use Rattle.std.specs.Prelude.{◌≡◌, true, ℕ, ◌+◌, ◌*◌, ◌≤◌, ◌^◌, T, leb, ℤ, nat_abs, neg_ℤ, ◌+ℤ◌, ◌-ℤ◌, ◌*ℤ◌}
use Rattle.std.proofs.Common.{arith, mul-le-mul, leb→le, leb-true, le-leb, SFits}
use Rattle.std.proofs.Math.IntN.{+ℤ_assoc, +ℤ_comm, +ℤ_idl, +ℤ_idr, +ℤ_invr}
use Rattle.std.specs.Int.{w64}
use Rattle.integers.specs.declared.Pair.{Pair}
use Rattle.integers.specs.Pairs.{0c, ◌+c◌, ◌-c◌, ◌·c◌, ◌·*◌, scaled, square, inside, within, close, same}
use Rattle.integers.specs.Bools.{both, joined}
use Rattle.integers.specs.Whole.{abs-add, abs-sub, abs-mul, abs-parts, add_parts, pos-neg, neg-neg, parts-eq}

pub pair_eq : {x y : Pair} → x.re ≡ y.re → x.im ≡ y.im → x ≡ y
pair_eq p q = λ i. record { re = p i; im = q i }

-- neither part is beyond ±m. Contracts ask it, and no type has it: each step of the equations has a bound of its own
pub record Within (m : ℕ) (x : Pair) : Type 0 where
  pub re : nat_abs x.re ≤ m
  pub im : nat_abs x.im ≤ m

-- the four products of x and y leave room for a sum of two
pub record Room (x y : Pair) : Type 0 where
  pub rr : nat_abs x.re * nat_abs y.re ≤ 2 ^ 61
  pub ii : nat_abs x.im * nat_abs y.im ≤ 2 ^ 61
  pub ri : nat_abs x.re * nat_abs y.im ≤ 2 ^ 61
  pub ir : nat_abs x.im * nat_abs y.re ≤ 2 ^ 61

-- both parts are machine numbers
pub record Fits (x : Pair) : Type 0 where
  pub re : SFits w64 x.re
  pub im : SFits w64 x.im

pub room : {m n : ℕ} {x y : Pair} → Within m x → Within n y → T (leb (m * n) (2 ^ 61)) → Room x y
room {m} {n} h k t =
    let l = leb→le (m * n) (2 ^ 61) t in
    record {
      rr = omega (arith, mul-le-mul h.re k.re);
      ii = omega (arith, mul-le-mul h.im k.im);
      ri = omega (arith, mul-le-mul h.re k.im);
      ir = omega (arith, mul-le-mul h.im k.re);
    }

-- ---- sizes
-- within a bound, and so within a greater one: by a fact of the two bounds, or where they are numerals by their test
pub within-le : {m n : ℕ} {x : Pair} → m ≤ n → Within m x → Within n x
within-le l h = record { re = omega (arith, h.re); im = omega (arith, h.im) }

pub within_more : {m n : ℕ} {x : Pair} → Within m x → T (leb m n) → Within n x
within_more {m} {n} h t = within-le (leb→le m n t) h

pub within-add : {m n : ℕ} {x y : Pair} → Within m x → Within n y → Within (m + n) (x +c y)
unfolding ◌+c◌
within-add {x = x} {y = y} h k = record { re = omega (arith, abs-add x.re y.re); im = omega (arith, abs-add x.im y.im) }

pub within-sub : {m n : ℕ} {x y : Pair} → Within m x → Within n y → Within (m + n) (x -c y)
unfolding ◌-c◌
within-sub {x = x} {y = y} h k = record { re = omega (arith, abs-sub x.re y.re); im = omega (arith, abs-sub x.im y.im) }

-- a sum or a difference of two products
abs-products : {m n : ℕ} (a b c d : ℤ) → nat_abs a ≤ m → nat_abs b ≤ n → nat_abs c ≤ m → nat_abs d ≤ n
    → (nat_abs (a *ℤ b +ℤ c *ℤ d) ≤ 2 * (m * n)) × (nat_abs (a *ℤ b -ℤ c *ℤ d) ≤ 2 * (m * n))
abs-products a b c d p q r s =
    omega (arith, abs-add (a *ℤ b) (c *ℤ d), abs-sub (a *ℤ b) (c *ℤ d), abs-mul a b, abs-mul c d, mul-le-mul p q, mul-le-mul r s)

pub within-mul : {m n : ℕ} {x y : Pair} → Within m x → Within n y → Within (2 * (m * n)) (x ·c y)
unfolding ◌·c◌
within-mul {x = x} {y = y} h k =
    record {
      re = (abs-products x.re y.re x.im y.im h.re k.re h.im k.im).1;
      im = (abs-products x.re y.im x.im y.re h.re k.im h.im k.re).0;
    }

pub within-mul-conj : {m n : ℕ} {x y : Pair} → Within m x → Within n y → Within (2 * (m * n)) (x ·* y)
unfolding ◌·*◌
within-mul-conj {x = x} {y = y} h k =
    record {
      re = (abs-products x.re y.re x.im y.im h.re k.re h.im k.im).0;
      im = (abs-products x.im y.re x.re y.im h.im k.re h.re k.im).1;
    }

pub within-scaled : {m n : ℕ} (k : ℤ) {x : Pair} → nat_abs k ≤ m → Within n x → Within (m * n) (scaled k x)
unfolding scaled
within-scaled k {x} l h =
    record {
      re = omega (arith, abs-mul k x.re, mul-le-mul l h.re);
      im = omega (arith, abs-mul k x.im, mul-le-mul l h.im);
    }

pub square-bound : {m : ℕ} {x : Pair} → Within m x → square x ≤ 2 * (m * m)
unfolding square
square-bound h = omega (arith, mul-le-mul h.re h.re, mul-le-mul h.im h.im)

-- ---- tests: what `true` says, and when the test says it
pub within-true : {n : ℕ} {x : Pair} → within n x ≡ true → Within n x
unfolding within inside
within-true e = let h = both _ _ e in record { re = leb-true _ _ h.0; im = leb-true _ _ h.1 }

pub true-within : {n : ℕ} {x : Pair} → Within n x → within n x ≡ true
unfolding within inside
true-within h = joined (le-leb _ _ h.re) (le-leb _ _ h.im)

-- x and y differ by at most n in each part
pub record Close (n : ℕ) (x y : Pair) : Type 0 where
  pub re : nat_abs (x.re -ℤ y.re) ≤ n
  pub im : nat_abs (x.im -ℤ y.im) ≤ n

pub close-true : {n : ℕ} {x y : Pair} → close n x y ≡ true → Close n x y
unfolding close inside
close-true e = let h = both _ _ e in record { re = leb-true _ _ h.0; im = leb-true _ _ h.1 }

pub true-close : {n : ℕ} {x y : Pair} → Close n x y → close n x y ≡ true
unfolding close inside
true-close h = joined (le-leb _ _ h.re) (le-leb _ _ h.im)

equal : (a b : ℤ) → nat_abs (a -ℤ b) ≤ 0 → a ≡ b
equal a b h = parts-eq (omega (arith, add_parts a (neg_ℤ b), pos-neg b, neg-neg b, abs-parts (a -ℤ b)))

pub same_true : {x y : Pair} → same x y ≡ true → x ≡ y
unfolding same
same_true {x} {y} e = let h = close-true e in pair_eq (equal x.re y.re h.re) (equal x.im y.im h.im)

pub true_same : (x : Pair) → same x x ≡ true
unfolding same close inside
true_same x = rw (+ℤ_invr x.re, +ℤ_invr x.im)

-- ---- sums
pub +c-assoc : (x y z : Pair) → x +c y +c z ≡ x +c (y +c z)
unfolding ◌+c◌
+c-assoc x y z = pair_eq (+ℤ_assoc x.re y.re z.re) (+ℤ_assoc x.im y.im z.im)

pub +c-comm : (x y : Pair) → x +c y ≡ y +c x
unfolding ◌+c◌
+c-comm x y = pair_eq (+ℤ_comm x.re y.re) (+ℤ_comm x.im y.im)

pub +c-idl : (x : Pair) → 0c +c x ≡ x
unfolding ◌+c◌
+c-idl x = pair_eq (+ℤ_idl x.re) (+ℤ_idl x.im)

pub +c-idr : (x : Pair) → x +c 0c ≡ x
unfolding ◌+c◌
+c-idr x = pair_eq (+ℤ_idr x.re) (+ℤ_idr x.im)
