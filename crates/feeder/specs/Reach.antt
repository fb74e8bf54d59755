-- 22 without its bound: where any number of steps up arrives at the source, as many as there are rows do. Assumes nothing.
use Rattle.std.specs.Prelude.{Bool, eqb}
use Rattle.std.proofs.Math.Bool.{cond, false, true}
use Rattle.std.proofs.Math.Path.{◌≡◌, refl}
use Prim.Native.Nat.{◌+◌, ◌<◌, ◌≤◌, suc, zero, ℕ}
use native.Mathlib.Omega.{arith}
use Rattle.std.proofs.Math.Dec.{leb}
use borrow.Author.Tests.{eq-eqb, eqb-true, leb-false, leb-true}
use Rattle.feeder.specs.Feeder.{above}
use Rattle.integers.specs.Lists.{nsum, tab}

module _ (par : ℕ → ℕ) where
  -- a further step does not leave the source
  pub above_more : (k i : ℕ) → above par k i ≡ 0 → above par (suc k) i ≡ 0
  unfolding above
  above_more zero zero h = refl
  above_more zero (suc i) h = absurd (omega arith)
  above_more (suc k) zero h = refl
  above_more (suc k) (suc i) h = above_more k (par (suc i)) h

  pub above-later : (d k i : ℕ) → above par k i ≡ 0 → above par (d + k) i ≡ 0
  above-later zero k i h = let z : 0 + k ≡ k = omega arith in rw z h
  above-later (suc d) k i h = let z : suc d + k ≡ suc (d + k) = omega arith in rw z (above_more (d + k) i (above-later d k i h))

  -- 1 for a node that k steps bring to the source
  bit : ℕ → ℕ → ℕ
  bit k i = cond (eqb (above par k i) 0) 1 0

  bit-one : (k i : ℕ) → bit k i ≡ 1 → above par k i ≡ 0
  unfolding bit
  bit-one k i = go (eqb (above par k i) 0) (eqb-true (above par k i) 0)
    where
      go : (c : Bool) → (c ≡ true → above par k i ≡ 0) → ◌≡◌ {A = ℕ} (cond c 1 0) 1 → above par k i ≡ 0
      go true f e = f refl
      go false f e = absurd (omega arith)

  one_bit : (k i : ℕ) → above par k i ≡ 0 → bit k i ≡ 1
  unfolding bit
  one_bit k i h = rw (eq-eqb (above par k i) 0 h)

  bit_le : (k i : ℕ) → bit k i ≤ 1
  unfolding bit
  bit_le k i = go (eqb (above par k i) 0)
    where
      go : (c : Bool) → cond c 1 0 ≤ 1
      go true = omega arith
      go false = omega arith

  bit-grows : (k i : ℕ) → bit k i ≤ bit (suc k) i
  unfolding bit
  bit-grows k i = go (eqb (above par k i) 0) (eqb-true (above par k i) 0)
    where
      go : (c : Bool) → (c ≡ true → above par k i ≡ 0) → cond c 1 0 ≤ bit (suc k) i
      go true f = let e = one_bit (suc k) i (above_more k i (f refl)) in omega arith
      go false f = omega arith

  -- how many of a, a + 1, .., n of them are brought there
  many : ℕ → ℕ → ℕ → ℕ
  many k a n = nsum (bit k) (tab (λ i. i) a n)

  many-grows : (k a n : ℕ) → many k a n ≤ many (suc k) a n
  unfolding many nsum tab
  many-grows k a zero = omega arith
  many-grows k a (suc n) = omega (arith, bit-grows k a, many-grows k (a + 1) n)

  many-le : (k a n : ℕ) → many k a n ≤ n
  unfolding many nsum tab
  many-le k a zero = omega arith
  many-le k a (suc n) = omega (arith, bit_le k a, many-le k (a + 1) n)

  -- where all are, each is; where no more are one step later, none is new
  all_there : (k a n : ℕ) → n ≤ many k a n → (j : ℕ) → j < n → bit k (a + j) ≡ 1
  unfolding many nsum tab
  all_there k a zero h j q = absurd (omega arith)
  all_there k a (suc n) h zero q = let z : a + 0 ≡ a = omega arith in rw z (omega (arith, bit_le k a, many-le k (a + 1) n))
  all_there k a (suc n) h (suc j) q = let z : a + suc j ≡ (a + 1) + j = omega arith in rw z (all_there k (a + 1) n (omega (arith, bit_le k a)) j (omega arith))

  none-new : (k a n : ℕ) → many (suc k) a n ≤ many k a n → (j : ℕ) → j < n → bit (suc k) (a + j) ≤ bit k (a + j)
  unfolding many nsum tab
  none-new k a zero h j q = absurd (omega arith)
  none-new k a (suc n) h zero q = let z : a + 0 ≡ a = omega arith in rw z (omega (arith, many-grows k (a + 1) n))
  none-new k a (suc n) h (suc j) q = let z : a + suc j ≡ (a + 1) + j = omega arith in rw z (none-new k (a + 1) n (omega (arith, bit-grows k a)) j (omega arith))

  module _ (n : ℕ) (among : (i : ℕ) → i < suc n → par i < suc n) where
    -- k steps bring there whatever one more does
    Stable : ℕ → Type 0
    Stable k = (i : ℕ) → i < suc n → above par (suc k) i ≡ 0 → above par k i ≡ 0

    stable-next : (k : ℕ) → Stable k → Stable (suc k)
    unfolding Stable above
    stable-next k h zero q e = refl
    stable-next k h (suc i) q e = h (par (suc i)) (among (suc i) q) e

    stable-down : Stable n → (d i : ℕ) → i < suc n → above par (d + n) i ≡ 0 → above par n i ≡ 0
    unfolding Stable
    stable-down s zero i q e = let z : 0 + n ≡ n = omega arith in rw z at e
    stable-down s (suc d) i q e = let z : suc d + n ≡ suc (d + n) = omega arith in stable-down s d i q (later d i q (rw z at e))
      where
        later : (d : ℕ) → Stable (d + n)
        later zero = let z : 0 + n ≡ n = omega arith in rw z s
        later (suc d) = let z : suc d + n ≡ suc (d + n) = omega arith in rw z (stable-next (d + n) (later d))

    -- with each step one node more is brought there, until none is new
    data Grown (k : ℕ) : Type 0 where
      more : suc k ≤ many k 0 (suc n) → Grown k
      still : Stable k → Grown k

    grown : (k : ℕ) → Grown k
    unfolding Stable many nsum tab bit above
    grown zero = more (omega arith)
    grown (suc k) = next (grown k)
      where
        next : Grown k → Grown (suc k)
        next (still s) = still (stable-next k s)
        next (more h) = go (leb (many (suc k) 0 (suc n)) (many k 0 (suc n))) refl
          where
            go : (c : Bool) → leb (many (suc k) 0 (suc n)) (many k 0 (suc n)) ≡ c → Grown (suc k)
            go true e = still (stable-next k (λ i q a. let z : 0 + i ≡ i = omega arith in bit-one k i
                (omega (arith, bit_le k i, one_bit (suc k) i a, rw z at (none-new k 0 (suc n) (leb-true _ _ e) i q)))))
            go false e = let l = leb-false (many (suc k) 0 (suc n)) (many k 0 (suc n)) e in more (omega arith)

    pub reach-enough : (m i : ℕ) → i < suc n → above par m i ≡ 0 → above par n i ≡ 0
    reach-enough m i q e = go (grown n)
      where
        go : Grown n → above par n i ≡ 0
        go (more h) = let z : 0 + i ≡ i = omega arith in bit-one n i (rw z at (all_there n 0 (suc n) h i q))
        go (still s) = let z : m + n ≡ n + m = omega arith in stable-down s m i q (rw z (above-later n m i e))
