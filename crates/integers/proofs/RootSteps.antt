-- The whole root digit by digit: how many digits it has, where the first of them stands, and what one step does. Assumes nothing.
use Rattle.std.specs.Prelude.{◌≡◌, refl, ℕ, suc, zero, ◌+◌, ◌-◌, ◌*◌, ◌/◌, ◌%◌, ◌^◌, ◌≤◌, ◌<◌}
use Rattle.std.proofs.Common.{◌∙◌, ap, sym, lt_of_le_of_lt, mul-le-mul, one-mul, arith, lit<, pow-add, pow_mono, shl_exact}
use Rattle.std.proofs.lemmas.Nat.{leading_length}
use Rattle.std.specs.Int.Count.{count_leading_zeros}
use Rattle.integers.specs.Root.{root, binary_digits}
use Rattle.integers.specs.RootLaws.{root_is, root-law, square-lt}
use Rattle.integers.proofs.DigitsLaws.{digits-is, digits-law}
use Rattle.integers.specs.RootSteps.{place_squared}

-- ---- how many binary digits a root has
-- k are enough where n is below the square of 2 ^ k, and one less is not where n is at least a quarter of it
root-digits : (n k : ℕ) → n < 2 ^ k * 2 ^ k → 2 ^ k * 2 ^ k ≤ 4 * n + 2 → binary_digits (root n) ≡ k
root-digits n k below from =
    let m : ℕ = root n in
    let r = root-law n in
    let f : 2 * (m + 1) * (2 * (m + 1)) ≡ 4 * ((m + 1) * (m + 1)) = omega arith in
    let d : 2 ^ k < 2 * (m + 1) = square-lt {a = 2 ^ k} {b = 2 * (m + 1)} (omega (arith, r.high)) in
    digits-is (record { enough = square-lt {a = m} {b = 2 ^ k} (lt_of_le_of_lt r.low below); needed = omega arith })

-- the count of leading zeros tells them
pub leading-digits : (n : ℕ) → n < 2 ^ 64 → 32 - count_leading_zeros 64 n / 2 ≡ binary_digits (root n)
leading-digits n h =
    let l = leading_length 64 n h in
    let k : ℕ = 32 - count_leading_zeros 64 n / 2 in
    let p : 2 ^ (k + k) ≡ 2 ^ k * 2 ^ k = pow-add 2 k k in
    let a : 2 ^ l.0 ≤ 2 ^ (k + k) = pow_mono {i = l.0} {j = k + k} (omega (arith, l.1)) in
    let b : 2 ^ (k + k) ≤ 2 ^ (l.0 + 1) = pow_mono {i = k + k} {j = l.0 + 1} (omega (arith, l.1)) in
    let c : 2 ^ (l.0 + 1) ≡ 2 ^ l.0 * 2 ^ 1 = pow-add 2 l.0 1 in
    sym (root-digits n k (omega (arith, l.2)) (omega (arith, l.3)))

-- `1 << (2 * k - 2)` at 64 bits
pub place-shifted : (k : ℕ) → k ≤ 32 → (k ≡ 0 → ⊥) → (1 * 2 ^ (2 * k - 2)) % 2 ^ 64 ≡ place_squared k
unfolding place_squared
place-shifted zero h z = absurd (z refl)
place-shifted (suc k) h z =
    let e : 2 * suc k - 2 ≡ k + k = omega arith in
    ap (λ (s : ℕ). (1 * 2 ^ s) % 2 ^ 64) e ∙ shl_exact {a = 1} 1 (k + k) 64 (lit< tt) (omega arith) ∙ one-mul (2 ^ (k + k)) ∙ pow-add 2 k k

doubled : (k : ℕ) → 2 ^ suc k ≡ 2 * 2 ^ k
doubled k = omega arith

product-doubled : (f k : ℕ) → f * 2 ^ suc k ≡ 2 * (f * 2 ^ k)
product-doubled f k = ap (λ (x : ℕ). f * x) (doubled k) ∙ omega arith

-- a quarter is that of the next place, and half is two quarters: both rounded down, so for the last place too
place-next : (k : ℕ) → (place_squared (suc k) / 4 ≡ place_squared k) × (place_squared (suc k) / 2 ≡ 2 * place_squared k)
unfolding place_squared
place-next zero = (refl, refl)
place-next (suc k) =
    let p : ℕ = 2 ^ k in
    let f : 2 * p * (2 * p) ≡ 4 * (p * p) = omega arith in
    let e : 2 ^ suc k * 2 ^ suc k ≡ 4 * (p * p) = ap (λ (x : ℕ). x * x) (doubled k) ∙ f in
    (omega arith, omega arith)

-- ---- the digits that are found, in their places: k more are to come. `above`: the root is below found + 2 ^ k; `room`: this is at most 2 ^ 32, so nothing passes 64 bits
pub record Rooting (n k square trial left : ℕ) : Type 0 where
  pub found : ℕ
  pub room : (found + 2 ^ k) ≤ 2 ^ 32
  pub square-is : square ≡ place_squared k
  pub trial-is : trial ≡ found * 2 ^ k + place_squared k
  pub left_is : left + found * found ≡ n
  pub above : n < (found + 2 ^ k) * (found + 2 ^ k)

-- before the first
pub rooting-start : (n k square : ℕ) → k ≡ binary_digits (root n) → k ≤ 32 → square ≡ place_squared k → Rooting n k square square n
rooting-start n k square all few e =
    let d : root n < 2 ^ k = rw all (digits-law (root n)).enough in
    let q : (root n + 1) * (root n + 1) ≤ 2 ^ k * 2 ^ k = mul-le-mul (omega arith) (omega arith) in
    record {
      found = 0;
      room = omega (arith, pow_mono {i = k} {j = 32} few);
      square-is = e;
      trial-is = omega arith;
      left_is = omega arith;
      above = omega (arith, (root-law n).high);
    }

-- the trial for the next place where the digit is 0
next_low : {n k square trial left : ℕ} (h : Rooting n (suc k) square trial left) → (trial / 2) - (square / 4) ≡ h.found * 2 ^ k + place_squared k
next_low {k = k} h = omega (arith, h.trial-is, h.square-is, product-doubled h.found k, place-next k)

-- the difference does not go below 0, and the trial behind a digit 1 fits: found * 2 ^ k and two squares are at most (found + 2 * 2 ^ k) * 2 ^ k, so at most 2 ^ 63
pub next-room : {n k square trial left : ℕ} → Rooting n (suc k) square trial left → ((square / 4) ≤ trial / 2) × ((trial / 2 - square / 4 + square) < 2 ^ 64)
unfolding place_squared
next-room {k = k} h =
    let q : 2 ^ k ≤ 2 ^ 31 = omega (arith, h.room) in
    let w : (h.found + 2 * 2 ^ k) ≤ 2 ^ 32 = omega (arith, h.room) in (
      omega (arith, h.trial-is, h.square-is, product-doubled h.found k, place-next k),
      omega (arith, h.square-is, next_low h, place-next k, mul-le-mul w q),
    )

-- one step: the digit is 1 where the trial is not above what is left
pub rooting-one : {n k square trial left : ℕ} → Rooting n (suc k) square trial left → trial ≤ left → Rooting n k (square / 4) (trial / 2 - square / 4 + square) (left - trial)
unfolding place_squared
rooting-one {n} {k} h t =
    let f : ℕ = h.found in
    let p : ℕ = 2 ^ k in
    let a : n < (f + 2 * p) * (f + 2 * p) = rw (doubled k) at h.above in
    record {
      found = f + p;
      room = omega (arith, h.room);
      square-is = omega (arith, h.square-is, place-next k);
      trial-is = omega (arith, next_low h, h.square-is);
      left_is = omega (arith, h.left_is, h.trial-is, product-doubled f k);
      above = omega arith;
    }

pub rooting-zero : {n k square trial left : ℕ} → Rooting n (suc k) square trial left → left < trial → Rooting n k (square / 4) (trial / 2 - square / 4) left
unfolding place_squared
rooting-zero {k = k} h t =
    record {
      found = h.found;
      room = omega (arith, h.room);
      square-is = omega (arith, h.square-is, place-next k);
      trial-is = next_low h;
      left_is = h.left_is;
      above = omega (arith, h.left_is, h.trial-is, product-doubled h.found k);
    }

-- no digit is to come: the trial is the root
pub rooting-end : {n square trial left : ℕ} → Rooting n 0 square trial left → trial ≡ root n
unfolding place_squared
rooting-end {trial = t} h =
    let e : t ≡ h.found = omega (arith, h.trial-is) in
    e ∙ sym (root_is (record { low = omega (arith, h.left_is); high = h.above }))
