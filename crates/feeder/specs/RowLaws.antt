-- The first line with a fault: where none is found no row has it, and where no row has it none is found. Assumes nothing.
use Rattle.std.specs.Prelude.{Bool, cond, false, true, List, [], ◌∷◌, ◌≡◌, refl, ◌+◌, ◌<◌, suc, zero, ℕ, get_or, length, Option, Some, None}
use Rattle.std.proofs.Common.{⊎_elim, arith}
use Rattle.feeder.specs.Feeder.{abc, first_row, or_else}
use Rattle.feeder.specs.declared.Phase.{Phase}
use Rattle.feeder.specs.declared.Phase.TheVariants.{A, B, C}
use Rattle.integers.specs.Bools.{both, clash, fails-test, one-false}
use Rattle.integers.specs.ListLaws.{get_or-tab, length-tab, true-all}
use Rattle.integers.specs.Lists.{all, count, tab}

-- a row that has the fault is found
pub none-bad : {X : Type 0} (bad : ℕ → X → Bool) (before k : ℕ) (l : List X) (d : X) → first_row bad before k l ≡ None → (i : ℕ) → i < length l → bad (k + i) (get_or l i d) ≡ false
unfolding first_row
none-bad bad before k [] d e i h = absurd (omega arith)
none-bad bad before k (x ∷ l) d e i h = go _ (bad k x) refl e (none-bad bad before (k + 1) l d) i h
  where
    go : (line : ℕ) (c : Bool) → bad k x ≡ c → cond c (Some line) (first_row bad before (k + 1) l) ≡ None
        → (first_row bad before (k + 1) l ≡ None → (j : ℕ) → j < length l → bad ((k + 1) + j) (get_or l j d) ≡ false)
        → (j : ℕ) → j < suc (length l) → bad (k + j) (get_or (x ∷ l) j d) ≡ false
    go line true q w far j h = let z : ◌≡◌ {A = ℕ} 0 1 = cc in absurd (omega arith)
    go line false q w far zero h = let z : k + 0 ≡ k = omega arith in rw z q
    go line false q w far (suc j) h = let z : k + suc j ≡ (k + 1) + j = omega arith in rw z (far w j (omega arith))

-- what is found has the fault
pub none_found : {X : Type 0} (bad : ℕ → X → Bool) (before k : ℕ) (l : List X) → ((i : ℕ) (d : X) → i < length l → bad (k + i) (get_or l i d) ≡ false) → first_row bad before k l ≡ None
unfolding first_row
none_found bad before k [] h = refl
none_found bad before k (x ∷ l) h =
    let z : k + 0 ≡ k = omega arith in
    let first : bad k x ≡ false = rw z at (h 0 x (omega arith)) in
    rw first (none_found bad before (k + 1) l (λ i d q. let w : (k + 1) + i ≡ k + suc i = omega arith in rw w (h (suc i) d (omega arith))))

-- the same of the rows 1 to n by their numbers, and of the nodes 0 to n
pub rows_none : (bad : ℕ → Bool) (before n : ℕ) → first_row (λ (j k : ℕ). bad k) before 1 (count 1 n) ≡ None → (k : ℕ) → k < n → bad (suc k) ≡ false
unfolding count
rows_none bad before n e k q =
    let z : 1 + k ≡ suc k = omega arith in
    rw (get_or-tab (λ i. i) 1 n k 0 q, z) at (none-bad (λ (j k : ℕ). bad k) before 1 (tab (λ i. i) 1 n) 0 e k (let h = length-tab (λ (i : ℕ). i) 1 n in omega arith))

pub nodes-none : (bad : ℕ → Bool) (before n : ℕ) → first_row (λ (j k : ℕ). bad k) before 1 (0 ∷ count 1 n) ≡ None → (k : ℕ) → k < suc n → bad k ≡ false
unfolding count
nodes-none bad before n e zero q = none-bad (λ (j k : ℕ). bad k) before 1 (0 ∷ tab (λ i. i) 1 n) 0 e 0 (omega arith)
nodes-none bad before n e (suc k) q =
    let z : 1 + k ≡ suc k = omega arith in
    rw (get_or-tab (λ i. i) 1 n k 0 (omega arith), z) at (none-bad (λ (j k : ℕ). bad k) before 1 (0 ∷ tab (λ i. i) 1 n) 0 e (suc k) (let h = length-tab (λ (i : ℕ). i) 1 n in omega arith))

-- and back
pub none_rows : (bad : ℕ → Bool) (before n : ℕ) → ((k : ℕ) → k < n → bad (suc k) ≡ false) → first_row (λ (j k : ℕ). bad k) before 1 (count 1 n) ≡ None
unfolding count
none_rows bad before n h = none_found (λ (j k : ℕ). bad k) before 1 (tab (λ i. i) 1 n)
    (λ i d q. let z : 1 + i ≡ suc i = omega arith in let l : i < n = (let e = length-tab (λ (i : ℕ). i) 1 n in omega arith) in rw (get_or-tab (λ i. i) 1 n i d l, z) (h i l))

pub none-nodes : (bad : ℕ → Bool) (before n : ℕ) → ((k : ℕ) → k < suc n → bad k ≡ false) → first_row (λ (j k : ℕ). bad k) before 1 (0 ∷ count 1 n) ≡ None
unfolding count tab
none-nodes bad before n h = none_found (λ (j k : ℕ). bad k) before 1 (tab (λ i. i) 0 (suc n))
    (λ i d q. let z : 0 + i ≡ i = omega arith in let l : i < suc n = (let e = length-tab (λ (i : ℕ). i) 0 (suc n) in omega arith) in rw (get_or-tab (λ i. i) 0 (suc n) i d l, z) (h i l))

-- two searches, one behind the other
pub or-none : (a b : Option ℕ) → or_else a b ≡ None → (a ≡ None) × (b ≡ None)
unfolding or_else
or-none (Some n) b e = let z : ◌≡◌ {A = ℕ} 0 1 = cc in absurd (omega arith)
or-none None b e = (refl, e)

pub none_or : {a b : Option ℕ} → a ≡ None → b ≡ None → or_else a b ≡ None
unfolding or_else
none_or p q = rw p q

-- one test at one line
pub held : (c : Bool) (line : ℕ) → cond c None (Some line) ≡ None → c ≡ true
held true line e = refl
held false line e = let z : ◌≡◌ {A = ℕ} 0 1 = cc in absurd (omega arith)

-- a test of every phase
pub each-true : (f : Phase → Bool) → all f abc ≡ true → (p : Phase) → f p ≡ true
unfolding all
each-true f e A = (both (f A) _ e).0
each-true f e B = (both (f B) _ (both (f A) _ e).1).0
each-true f e C = (both (f C) true (both (f B) _ (both (f A) _ e).1).1).0

pub true-each : (f : Phase → Bool) → ((p : Phase) → f p ≡ true) → all f abc ≡ true
true-each f h = true-all f abc (h A, (h B, (h C, tt)))

-- it fails just where it fails of one
pub some-false : (f : Phase → Bool) → all f abc ≡ false → (p : Phase) × (f p ≡ false)
unfolding all
some-false f e = ⊎_elim (λ a. (A, a)) (λ h. ⊎_elim (λ b. (B, b)) (λ w. ⊎_elim (λ c. (C, c)) (clash true refl) (one-false (f C) true w)) (one-false (f B) _ h)) (one-false (f A) _ e)

pub false-some : (f : Phase → Bool) (p : Phase) → f p ≡ false → all f abc ≡ false
false-some f p e = fails-test (all f abc) (λ h. each-true f h p) (λ h. clash (f p) h e)
