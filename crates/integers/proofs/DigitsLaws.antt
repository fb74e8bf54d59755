-- `binary_digits m` is the number of binary digits of m, and the only number of that kind. Assumes nothing.
use Rattle.std.specs.Prelude.{◌≡◌, refl, Bool, true, false, ℕ, zero, suc, ◌+◌, ◌*◌, ◌/◌, ◌^◌, ◌≤◌, ◌<◌, eqb}
use Rattle.std.proofs.Math.Decide.{dec_lt}
use Rattle.std.proofs.Common.{arith, pow_mono, eqb-true}
use Rattle.std.proofs.lemmas.Bool.{eqb-false}
use Rattle.integers.specs.Root.{digits_by, binary_digits}

-- k digits are enough for m, and one less is not: 2 ^ k is at most 2 * m, or is 1 where m is 0
pub record Digits (m k : ℕ) : Type 0 where
  pub enough : m < 2 ^ k
  pub needed : 2 ^ k ≤ 2 * m + 1

-- from m / 2 to m
one_more : (m d : ℕ) → 0 < m → Digits (m / 2) d → Digits m (suc d)
one_more m zero p h = record { enough = omega (arith, h.enough); needed = omega arith }
one_more m (suc d) p h = record { enough = omega (arith, h.enough); needed = omega (arith, h.needed) }

by-law : (k m : ℕ) → m ≤ k → Digits m (digits_by k m)
unfolding digits_by
by-law zero m h = record { enough = omega arith; needed = omega arith }
by-law (suc k) m h = go (eqb m 0) refl (by-law k (m / 2))
  where
    go : (c : Bool) → eqb m 0 ≡ c → ((m / 2) ≤ k → Digits (m / 2) (digits_by k (m / 2))) → Digits m (elim c [ true ↦ 0 | false ↦ suc (digits_by k (m / 2)) ])
    go true e r = let z : m ≡ 0 = eqb-true _ _ e in record { enough = omega arith; needed = omega arith }
    go false e r = one_more m (digits_by k (m / 2)) (let z = eqb-false m 0 e in omega (arith, z)) (r (omega arith))

pub digits-law : (m : ℕ) → Digits m (binary_digits m)
unfolding binary_digits
digits-law m = by-law m m (omega arith)

shorter : {m j k : ℕ} → Digits m j → Digits m k → j < k → ⊥
shorter {m} {j} {k} a b h = omega (arith, a.enough, b.needed, pow_mono {i = suc j} {j = k} h)

pub digits-is : {m k : ℕ} → Digits m k → binary_digits m ≡ k
digits-is {m} {k} h = either (dec_lt (binary_digits m) k) (dec_lt k (binary_digits m))
  where
    either : Dec (binary_digits m < k) → Dec (k < binary_digits m) → binary_digits m ≡ k
    either (yes p) q = absurd (shorter (digits-law m) h p)
    either (no p) (yes q) = absurd (shorter h (digits-law m) q)
    either (no p) (no q) = omega arith
