-- A node has a rank just if the source reaches it. Assumes nothing.
use Rattle.std.specs.Prelude.{List, ◌≡◌, get_or}
use Rattle.std.proofs.Math.Path.{refl}
use Prim.Native.Nat.{◌+◌, ◌<◌, ◌≤◌, suc, zero, ℕ}
use native.Mathlib.Omega.{arith}
use Rattle.feeder.specs.Feeder.{above}
use Rattle.radial.specs.Radial.{Closed, Ordered}

module _ (rows : ℕ) (par : ℕ → ℕ) (order rank : List ℕ) (m : ℕ) (o : Ordered (rows + 1) par order rank m) where
  pub rank-short : (i : ℕ) → get_or rank i 0 ≤ m
  rank-short i = go (get_or rank i 0) refl
    where
      go : (n : ℕ) → get_or rank i 0 ≡ n → n ≤ m
      go zero e = omega arith
      go (suc n) e = (o.back i n e).0

  -- a node of rank at most n + 1 is at most n steps below the source
  steps : (n i : ℕ) → 0 < get_or rank i 0 → get_or rank i 0 ≤ suc n → above par n i ≡ 0
  unfolding above
  steps zero zero p h = refl
  steps zero (suc i) p h = let t = o.parent (suc i) (omega arith) p in omega arith
  steps (suc n) zero p h = refl
  steps (suc n) (suc i) p h = let t = o.parent (suc i) (omega arith) p in steps n (par (suc i)) t.0 (omega arith)

  pub reached : m ≤ rows + 1 → (i : ℕ) → 0 < get_or rank i 0 → above par rows i ≡ 0
  reached h i p = let t = rank-short i in steps rows i p (omega arith)

  -- no number of steps up from a node without a rank arrives at the source
  pub not-reached : ((k : ℕ) → k < rows + 1 → par k < rows + 1) → Closed (rows + 1) par rank →
      (n i : ℕ) → i < rows + 1 → get_or rank i 0 ≡ 0 → above par n i ≡ 0 → ⊥
  unfolding above
  not-reached w c zero zero l z e = let s = o.source in omega arith
  not-reached w c zero (suc i) l z e = omega arith
  not-reached w c (suc n) zero l z e = let s = o.source in omega arith
  not-reached w c (suc n) (suc i) l z e = not-reached w c n (par (suc i)) (w (suc i) l) (c (suc i) l (omega arith) z) e
