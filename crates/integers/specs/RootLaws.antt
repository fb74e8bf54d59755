-- `root n` is the greatest whole number whose square is at most n, and the only one of that kind. Assumes nothing.
use Rattle.std.specs.Prelude.{◌≡◌, refl, Bool, true, false, cond, ℕ, zero, suc, ◌+◌, ◌*◌, ◌/◌, ◌≤◌, ◌<◌, leb, eqb}
use Rattle.std.proofs.Common.{mul-le-mul, lt_of_not-le, lt_of_le_of_lt, lt_irrefl, lt_of_lt_of_le, arith, leb-true, leb-false, eqb-true}
use Rattle.integers.specs.Root.{root_by, root}

pub record Root (n m : ℕ) : Type 0 where
  pub low : m * m ≤ n
  pub high : n < (m + 1) * (m + 1)

-- from the root r of n / 4 to that of n
step : (n r : ℕ) → Root (n / 4) r → Root n (cond (leb ((2 * r + 1) * (2 * r + 1)) n) (2 * r + 1) (2 * r))
step n r h = go (leb ((2 * r + 1) * (2 * r + 1)) n) refl
  where
    go : (c : Bool) → leb ((2 * r + 1) * (2 * r + 1)) n ≡ c → Root n (cond c (2 * r + 1) (2 * r))
    go true e = record { low = leb-true _ _ e; high = omega (arith, h) }
    go false e = record { low = omega (arith, h); high = leb-false _ _ e }

by-law : (k n : ℕ) → n ≤ k → Root n (root_by k n)
unfolding root_by
by-law zero n h = record { low = omega arith; high = omega arith }
by-law (suc k) n h = go (eqb n 0) refl (by-law k (n / 4))
  where
    go : (c : Bool) → eqb n 0 ≡ c → ((n / 4) ≤ k → Root (n / 4) (root_by k (n / 4)))
        → Root n (elim c [ true ↦ 0 | false ↦ cond (leb ((2 * root_by k (n / 4) + 1) * (2 * root_by k (n / 4) + 1)) n) (2 * root_by k (n / 4) + 1) (2 * root_by k (n / 4)) ])
    go true e r = let z : n ≡ 0 = eqb-true _ _ e in record { low = omega arith; high = omega arith }
    go false e r = step n (root_by k (n / 4)) (r (omega arith))

pub root-law : (n : ℕ) → Root n (root n)
unfolding root
root-law n = by-law n n (omega arith)

pub square-lt : {a b : ℕ} → a * a < b * b → a < b
square-lt {a} {b} h = lt_of_not-le (λ (k : b ≤ a). lt_irrefl (a * a) (lt_of_lt_of_le h (mul-le-mul k k)))

-- what is below the next square has at most this root
pub root-bound : {n k : ℕ} → n < (k + 1) * (k + 1) → root n ≤ k
root-bound {n} {k} h = omega (arith, square-lt {a = root n} {b = k + 1} (lt_of_le_of_lt (root-law n).low h))

pub root_is : {n m : ℕ} → Root n m → root n ≡ m
root_is {n} {m} h = omega (arith, root-bound h.high, square-lt {a = m} {b = root n + 1} (lt_of_le_of_lt h.low (root-law n).high))

pub root-pos : {n : ℕ} → 0 < n → 0 < root n
root-pos {n} p = omega (arith, square-lt {a = 1} {b = root n + 1} (lt_of_le_of_lt (omega arith) (root-law n).high))
