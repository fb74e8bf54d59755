-- What is worked downward meets its equation, and no node is off where the check finds none for 54. Assumes nothing.
use Rattle.std.specs.Prelude.{Bool, ◌&&◌, not, ◌≡◌}
use Rattle.std.proofs.Math.Bool.{cond, false, true}
use Rattle.std.proofs.Common.{◌∙◌, sym, arith}
use Rattle.std.proofs.Math.Path.{ap, refl}
use Prim.Native.Nat.{◌<◌, suc, zero, ℕ}
use Rattle.equations.specs.Equations.{downward}
use Rattle.feeder.specs.Feeder.{above}

module _ {X : Type 0} (step : ℕ → X → X) (first : X) (par : ℕ → ℕ) where
  -- one step more than enough changes nothing
  downward-more : (n i : ℕ) → above par n i ≡ 0 → downward step first par (suc n) i ≡ downward step first par n i
  unfolding downward above
  downward-more zero zero h = refl
  downward-more zero (suc i) h = absurd (omega arith)
  downward-more (suc n) zero h = refl
  downward-more (suc n) (suc i) h = ap (step (suc i)) (downward-more n (par (suc i)) h)

  -- V_m from V_n, for every node that is reached in n steps
  pub downward-node : (n i : ℕ) → above par n (suc i) ≡ 0 → downward step first par n (suc i) ≡ step (suc i) (downward step first par n (par (suc i)))
  unfolding downward above
  downward-node zero i h = absurd (omega arith)
  downward-node (suc n) i h = ap (step (suc i)) (sym (downward-more n (par (suc i)) h))

  -- and at the source the first
  pub downward-source : (n : ℕ) → downward step first par n 0 ≡ first
  unfolding downward
  downward-source zero = refl
  downward-source (suc n) = refl

module _ (off : ℕ → Bool) (par : ℕ → ℕ) (n : ℕ) where
  -- some node above k is off
  unfoldable pub below : ℕ → Bool
  below k = downward (λ m b. cond (off (par m)) true b) false par n k

  only : (c d : Bool) → (c && not d) ≡ false → d ≡ false → c ≡ false
  only true true h e = e
  only true false h e = h
  only false d h e = refl

  -- where no node is off below none, none is off
  pub none-off : ((i : ℕ) → i < suc n → par i < suc n) → ((i : ℕ) → i < suc n → above par n i ≡ 0)
      → ((k : ℕ) → k < suc n → (off k && not (below k)) ≡ false) → (m k : ℕ) → k < suc n → above par m k ≡ 0 → (off k ≡ false) × (below k ≡ false)
  unfolding below above
  none-off w r h zero zero q e = let b : below 0 ≡ false = downward-source _ _ par n in (only _ _ (h 0 q) b, b)
  none-off w r h zero (suc k) q e = absurd (omega arith)
  none-off w r h (suc m) zero q e = let b : below 0 ≡ false = downward-source _ _ par n in (only _ _ (h 0 q) b, b)
  none-off w r h (suc m) (suc k) q e =
      let p = none-off w r h m (par (suc k)) (w (suc k) q) e in
      let b : below (suc k) ≡ false = downward-node (λ m b. cond (off (par m)) true b) false par n k (r (suc k) q) ∙ simp (p.0, p.1) in
      (only _ _ (h (suc k) q) b, b)
