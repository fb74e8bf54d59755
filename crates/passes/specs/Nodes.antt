-- The first node with a fault. Assumes nothing.
use Rattle.std.specs.Prelude.{Bool, false, true, ◌∷◌, ◌≡◌, refl, ◌+◌, ◌<◌, ◌≤◌, suc, zero, ℕ, Some}
use Rattle.std.proofs.Common.{ap, arith}
use Rattle.feeder.specs.Feeder.{first_row}
use Rattle.integers.specs.Lists.{count, tab}
use Rattle.integers.specs.Bools.{same?}

-- the line of the first node of which a test fails
pub first-node : (bad : ℕ → Bool) (n k : ℕ) → k < suc n → ((j : ℕ) → j < k → bad j ≡ false) → bad k ≡ true → first_row (λ (j m : ℕ). bad m) 1 1 (0 ∷ count 1 n) ≡ Some (k + 2)
unfolding first_row count tab
first-node bad n k h before here = go 0 (suc n) (omega arith) (omega arith)
  where
    go : (a m : ℕ) → a ≤ k → k < a + m → first_row (λ (j m : ℕ). bad m) 1 (a + 1) (tab (λ i. i) a m) ≡ Some (k + 2)
    go a zero p q = absurd (omega arith)
    go a (suc m) p q =
        same? a k
        (λ e. rw (e, here) (let z : 1 + (k + 1) ≡ k + 2 = omega arith in ap Some z))
        (λ ne. rw (before a (omega arith)) (go (a + 1) m (omega arith) (omega arith)))

-- two tests that are one at every node
pub same_nodes : (p q : ℕ → Bool) (n : ℕ) → ((k : ℕ) → k < suc n → p k ≡ q k) → first_row (λ (j m : ℕ). p m) 1 1 (0 ∷ count 1 n) ≡ first_row (λ (j m : ℕ). q m) 1 1 (0 ∷ count 1 n)
unfolding first_row count tab
same_nodes p q n h = go 0 1 (suc n) (λ k l. h k (omega arith))
  where
    go : (a b m : ℕ) → ((k : ℕ) → k < a + m → p k ≡ q k) → first_row (λ (j m : ℕ). p m) 1 b (tab (λ i. i) a m) ≡ first_row (λ (j m : ℕ). q m) 1 b (tab (λ i. i) a m)
    go a b zero h = refl
    go a b (suc m) h = rw (h a (omega arith), go (a + 1) (b + 1) m (λ k l. h k (omega arith)))
