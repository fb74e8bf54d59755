-- Tests over the rows of a report: the first branch row with a fault, and two tests that are one at every row; and what `==` says of three phases. Assumes nothing.
use Rattle.std.specs.Prelude.{Bool, ◌&&◌, false, true, List, [], ◌∷◌, ◌≡◌, refl, ◌+◌, ◌<◌, ◌≤◌, suc, zero, ℕ, get_or, length, Some}
use Rattle.std.proofs.Common.{ap, ap₂, arith, sym}
use Rattle.feeder.specs.Feeder.{first_row}
use Rattle.std.specs.Ordering.{int_eq}
use Rattle.equations.specs.Equations.{at}
use Rattle.equations.specs.Sizes.{all-of}
use Rattle.feeder.specs.Phased.{Three}
use Rattle.integers.specs.Bools.{and-false, both, joined, same?}
use Rattle.integers.specs.Equal.{equal-pair}
use Rattle.integers.specs.Lists.{all, count, tab}
use Rattle.integers.specs.PairLaws.{pair_eq, same_true, true_same}
use Rattle.integers.specs.Pairs.{same}
use Rattle.integers.specs.declared.Pair.{Pair}
use Rattle.compare.specs.declared.Powers.{Powers}
use Rattle.compare.specs.Compare.{same_powers}
use Rattle.compare.specs.Differences.{same3}

-- the line of the first row of which a test fails
pub first-row : (bad : ℕ → Bool) (before n k : ℕ) → 0 < k → k < suc n → ((j : ℕ) → 0 < j → j < k → bad j ≡ false) → bad k ≡ true →
    first_row (λ (j m : ℕ). bad m) before 1 (count 1 n) ≡ Some (before + k)
unfolding first_row count tab
first-row bad before n k z h none here = go 1 n (omega arith) (omega arith) (omega arith)
  where
    go : (a m : ℕ) → 0 < a → a ≤ k → k < a + m → first_row (λ (j m : ℕ). bad m) before a (tab (λ i. i) a m) ≡ Some (before + k)
    go a zero s p q = absurd (omega arith)
    go a (suc m) s p q = same? a k (λ e. rw (e, here)) (λ ne. rw (none a s (omega arith)) (go (a + 1) m (omega arith) (omega arith) (omega arith)))

-- rows by their numbers, and the rows themselves
pub by_number : {X : Type 0} (p : ℕ → Bool) (q : ℕ → X → Bool) (before : ℕ) (d : X) (l : List X) → ((i : ℕ) → i < length l → p (suc i) ≡ q (suc i) (get_or l i d)) →
    first_row (λ (j m : ℕ). p m) before 1 (count 1 (length l)) ≡ first_row q before 1 l
unfolding first_row count tab
by_number {X} p q before d l h = go 1 l (λ i s. let z : 1 + i ≡ suc i = omega arith in rw z (h i s))
  where
    go : (a : ℕ) (l : List X) → ((i : ℕ) → i < length l → p (a + i) ≡ q (a + i) (get_or l i d)) → first_row (λ (j m : ℕ). p m) before a (tab (λ i. i) a (length l)) ≡ first_row q before a l
    go a [] h = refl
    go a (x ∷ l) h =
        let z : a + 0 ≡ a = omega arith in
        let e : p a ≡ q a x = rw z at (h 0 (omega arith)) in
        rw (e, go (a + 1) l (λ i s. let w : (a + 1) + i ≡ a + suc i = omega arith in rw w (h (suc i) (omega arith))))

-- two tests that are one at every row
pub same_rows : (p q : ℕ → Bool) (before n : ℕ) → ((k : ℕ) → k < n → p (suc k) ≡ q (suc k)) → first_row (λ (j m : ℕ). p m) before 1 (count 1 n) ≡ first_row (λ (j m : ℕ). q m) before 1 (count 1 n)
unfolding first_row count tab
same_rows p q before n h = go 1 n (λ k s. let z : 1 + k ≡ suc k = omega arith in rw z (h k s))
  where
    go : (a m : ℕ) → ((k : ℕ) → k < m → p (a + k) ≡ q (a + k)) → first_row (λ (j m : ℕ). p m) before a (tab (λ i. i) a m) ≡ first_row (λ (j m : ℕ). q m) before a (tab (λ i. i) a m)
    go a zero h = refl
    go a (suc m) h =
        let z : a + 0 ≡ a = omega arith in
        let e : p a ≡ q a = rw z at (h 0 (omega arith)) in
        rw (e, go (a + 1) m (λ i s. let w : (a + 1) + i ≡ a + suc i = omega arith in rw w (h (suc i) (omega arith))))

pub same-all : (p q : ℕ → Bool) (n : ℕ) → ((k : ℕ) → k < n → p (suc k) ≡ q (suc k)) → all p (count 1 n) ≡ all q (count 1 n)
unfolding all count tab
same-all p q n h = go 1 n (λ k s. let z : 1 + k ≡ suc k = omega arith in rw z (h k s))
  where
    go : (a m : ℕ) → ((k : ℕ) → k < m → p (a + k) ≡ q (a + k)) → all p (tab (λ i. i) a m) ≡ all q (tab (λ i. i) a m)
    go a zero h = refl
    go a (suc m) h =
        let z : a + 0 ≡ a = omega arith in
        let e : p a ≡ q a = rw z at (h 0 (omega arith)) in
        ap₂ ◌&&◌ e (go (a + 1) m (λ i s. let w : (a + 1) + i ≡ a + suc i = omega arith in rw w (h (suc i) (omega arith))))

-- a row that is not so
pub not-all : (p : ℕ → Bool) (n k : ℕ) → 0 < k → k < suc n → p k ≡ false → all p (count 1 n) ≡ false
unfolding all count tab
not-all p n k z h e = go 1 n (omega arith) (omega arith)
  where
    go : (a m : ℕ) → a ≤ k → k < a + m → all p (tab (λ i. i) a m) ≡ false
    go a zero s q = absurd (omega arith)
    go a (suc m) s q = same? a k (λ w. rw (w, e)) (λ ne. rw (go (a + 1) m (omega arith) (omega arith)) (and-false (p a)))

-- ---- truth values that say the same
one_truth : (a b : Bool) → (a ≡ true → b ≡ true) → (b ≡ true → a ≡ true) → a ≡ b
one_truth true b f g = sym (f refl)
one_truth false true f g = g refl
one_truth false false f g = refl

-- two pairs are the same where both parts are equal
pub same_parts : (x y : Pair) (p q : Bool) → (p ≡ true → x.re ≡ y.re) → (x.re ≡ y.re → p ≡ true) → (q ≡ true → x.im ≡ y.im) → (x.im ≡ y.im → q ≡ true) → (p && q) ≡ same x y
same_parts x y p q a b c d =
    one_truth (p && q) (same x y)
    (λ e. let w = both p q e in rw (pair_eq {x = x} {y = y} (a w.0) (c w.1)) (true_same y))
    (λ e. let z : x ≡ y = same_true e in joined (b (ap (λ (u : Pair). u.re) z)) (d (ap (λ (u : Pair). u.im) z)))

-- ---- the machine's `==` on the pairs of three phases, and on the totals
pub equal-three : (x y : Three) →
    ((int_eq x.a.re y.a.re && int_eq x.a.im y.a.im) && ((int_eq x.b.re y.b.re && int_eq x.b.im y.b.im) && (int_eq x.c.re y.c.re && int_eq x.c.im y.c.im))) ≡ same3 x y
equal-three x y = all-of (λ p. same (at x p) (at y p)) (equal-pair x.a y.a) (equal-pair x.b y.b) (equal-pair x.c y.c)

pub equal-powers : (x y : Powers) →
    ((int_eq x.source.re y.source.re && int_eq x.source.im y.source.im) && ((int_eq x.drawn.re y.drawn.re && int_eq x.drawn.im y.drawn.im) && (int_eq x.lost.re y.lost.re && int_eq x.lost.im y.lost.im))) ≡ same_powers x y
equal-powers x y = ap₂ ◌&&◌ (equal-pair x.source y.source) (ap₂ ◌&&◌ (equal-pair x.drawn y.drawn) (equal-pair x.lost y.lost))
