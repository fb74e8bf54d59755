-- 54: what is worked downward is whether some node above is off, however many steps above, and no node on the way is left out. Assumes nothing.
use Rattle.std.specs.Prelude.{Bool, ◌≡◌}
use Rattle.std.proofs.Math.Bool.{cond, false, true}
use Rattle.std.proofs.Math.Path.{refl}
use Prim.Native.Nat.{◌<◌, suc, zero, ℕ}
use Rattle.std.proofs.Common.{arith}
use Rattle.equations.specs.Equations.{downward}
use Rattle.feeder.specs.Feeder.{above}
use Rattle.integers.specs.Bools.{clash}

module _ (off : ℕ → Bool) (par : ℕ → ℕ) where
  -- some node above k is off, one or more steps up
  pub record OffAbove (k : ℕ) : Type 0 where
    pub below : 0 < k
    pub steps : ℕ
    pub is-off : off (above par (suc steps) k) ≡ true

  abbrev worked : ℕ → ℕ → Bool
  worked n k = downward (λ m b. cond (off (par m)) true b) false par n k

  pub off-above : (n k : ℕ) → worked n k ≡ true → OffAbove k
  unfolding downward above
  off-above zero k e = clash false e refl
  off-above (suc n) zero e = clash false e refl
  off-above (suc n) (suc k) e = go (off (par (suc k))) refl e (off-above n (par (suc k)))
    where
      go : (c : Bool) → off (par (suc k)) ≡ c → cond c true (worked n (par (suc k))) ≡ true → (worked n (par (suc k)) ≡ true → OffAbove (par (suc k)))
          → OffAbove (suc k)
      go true h e far = record { below = omega arith; steps = 0; is-off = h }
      go false h e far = let w = far e in record { below = omega arith; steps = suc w.steps; is-off = w.is-off }

  -- n steps from k arrive at the source. A step from the source stays there
  pub above-off : (n k : ℕ) → above par n k ≡ 0 → OffAbove k → worked n k ≡ true
  unfolding downward above
  above-off zero k r w = let z = w.below in absurd (omega arith)
  above-off (suc n) zero r w = let z = w.below in absurd (omega arith)
  above-off (suc n) (suc k) r w = go w.steps (par (suc k)) w.is-off (above-off n (par (suc k)) r)
    where
      go : (j m : ℕ) → off (above par j m) ≡ true → (OffAbove m → worked n m ≡ true) → cond (off m) true (worked n m) ≡ true
      go zero m e far = rw e
      go (suc j) zero e far = rw e
      go (suc j) (suc m) e far = either (off (suc m)) (far (record { below = omega arith; steps = j; is-off = e }))
        where
          either : (c : Bool) → worked n (suc m) ≡ true → cond c true (worked n (suc m)) ≡ true
          either true h = refl
          either false h = h
