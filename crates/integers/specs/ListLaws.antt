-- Lists: a fact of every row, tables read at an index, and what the tests over a list say of each row. Assumes nothing.
use Rattle.std.proofs.Common.{◌∙◌, ap, sym, arith, ext_get_or}
use Rattle.std.specs.Prelude.{◌≡◌, refl, Bool, true, false, cond, List, [], ◌∷◌, map, ℕ, zero, suc, ◌+◌, ◌<◌, length, get_or}
use Rattle.integers.specs.Lists.{All, all, any, tab, count}
use Rattle.integers.specs.Bools.{both, joined, clash}

pub all_map : {X : Type 0} {P Q : X → Type 0} (l : List X) → ((x : X) → P x → Q x) → All P l → All Q l
all_map [] k h = tt
all_map (x ∷ l) k h = (k x h.0, all_map l k h.1)

pub all-map2 : {X : Type 0} {P Q R : X → Type 0} (l : List X) → ((x : X) → P x → Q x → R x) → All P l → All Q l → All R l
all-map2 [] k h j = tt
all-map2 (x ∷ l) k h j = (k x h.0 j.0, all-map2 l k h.1 j.1)

-- P of every image
pub all-image : {X Y : Type 0} (P : Y → Type 0) (g : X → Y) (l : List X) → All (λ x. P (g x)) l → All P (map g l)
all-image P g [] h = tt
all-image P g (x ∷ l) h = (h.0, all-image P g l h.1)

-- by index, and back
pub all-at : {X : Type 0} (P : X → Type 0) (l : List X) → All P l → (i : ℕ) (d : X) → i < length l → P (get_or l i d)
all-at P [] h i d q = absurd (omega arith)
all-at P (x ∷ l) h zero d q = h.0
all-at P (x ∷ l) h (suc i) d q = all-at P l h.1 i d (omega arith)

pub at_all : {X : Type 0} (P : X → Type 0) (l : List X) → ((i : ℕ) (d : X) → i < length l → P (get_or l i d)) → All P l
at_all P [] k = tt
at_all P (x ∷ l) k = (k 0 x (omega arith), at_all P l (λ i d q. k (suc i) d (omega arith)))

-- ---- tables
pub get_or-tab : {X : Type 0} (f : ℕ → X) (k n i : ℕ) (d : X) → i < n → get_or (tab f k n) i d ≡ f (k + i)
unfolding tab
get_or-tab f k zero i d h = absurd (omega arith)
get_or-tab f k (suc n) zero d h = let z : k + 0 ≡ k = omega arith in rw z
get_or-tab f k (suc n) (suc i) d h = let z : k + suc i ≡ (k + 1) + i = omega arith in rw z (get_or-tab f (k + 1) n i d (omega arith))

pub length-tab : {X : Type 0} (f : ℕ → X) (k n : ℕ) → length (tab f k n) ≡ n
unfolding tab
length-tab f k zero = refl
length-tab f k (suc n) = ap suc (length-tab f (k + 1) n)

-- a list is the table of what stands at its places
pub tab-is : {X : Type 0} (f : ℕ → X) (n : ℕ) (l : List X) (d : X) → length l ≡ n → ((k : ℕ) → k < n → get_or l k d ≡ f k) → l ≡ tab f 0 n
tab-is f n l d e h =
    ext_get_or d l (tab f 0 n) (e ∙ sym (length-tab f 0 n)) (λ k q.
    let i : k < n = omega arith in
    let z : k ≡ 0 + k = omega arith in
    h k i ∙ ap f z ∙ sym (get_or-tab f 0 n k d i))

pub get_or_map : {X Y : Type 0} (g : X → Y) (l : List X) (i : ℕ) (d : X) (e : Y) → i < length l → get_or (map g l) i e ≡ g (get_or l i d)
get_or_map g [] i d e h = absurd (omega arith)
get_or_map g (x ∷ l) zero d e h = refl
get_or_map g (x ∷ l) (suc i) d e h = get_or_map g l i d e (omega arith)

pub all-tab : {X : Type 0} (P : X → Type 0) (f : ℕ → X) (k n : ℕ) → ((i : ℕ) → i < n → P (f (k + i))) → All P (tab f k n)
unfolding tab
all-tab P f k zero h = tt
all-tab P f k (suc n) h =
    let z : k + 0 ≡ k = omega arith in
    (rw z at (h 0 (omega arith)), all-tab P f (k + 1) n (λ i q. let w : (k + 1) + i ≡ k + suc i = omega arith in rw w (h (suc i) (omega arith))))

pub all-count : (P : ℕ → Type 0) (k n : ℕ) → ((i : ℕ) → i < n → P (k + i)) → All P (count k n)
unfolding count
all-count P k n h = all-tab P (λ i. i) k n h

pub tab-all : {X : Type 0} (P : X → Type 0) (f : ℕ → X) (k n : ℕ) → All P (tab f k n) → (i : ℕ) → i < n → P (f (k + i))
unfolding tab
tab-all P f k zero h i q = absurd (omega arith)
tab-all P f k (suc n) h zero q = let z : k + 0 ≡ k = omega arith in rw z h.0
tab-all P f k (suc n) h (suc i) q = let z : k + suc i ≡ (k + 1) + i = omega arith in rw z (tab-all P f (k + 1) n h.1 i (omega arith))

-- ---- tests over a list: what `true`, and of `any` what `false`, says of each row
pub all_true : {X : Type 0} (f : X → Bool) (l : List X) → all f l ≡ true → All (λ x. f x ≡ true) l
unfolding all
all_true f [] e = tt
all_true f (x ∷ l) e = let h = both _ _ e in (h.0, all_true f l h.1)

pub true-all : {X : Type 0} (f : X → Bool) (l : List X) → All (λ x. f x ≡ true) l → all f l ≡ true
unfolding all
true-all f [] h = refl
true-all f (x ∷ l) h = joined h.0 (true-all f l h.1)

pub all-true-at : {X : Type 0} (f : X → Bool) (l : List X) → all f l ≡ true → (i : ℕ) (d : X) → i < length l → f (get_or l i d) ≡ true
all-true-at f l e i d q = all-at (λ x. f x ≡ true) l (all_true f l e) i d q

pub true-all-at : {X : Type 0} (f : X → Bool) (l : List X) → ((i : ℕ) (d : X) → i < length l → f (get_or l i d) ≡ true) → all f l ≡ true
true-all-at f l h = true-all f l (at_all (λ x. f x ≡ true) l h)

pub any_false : {X : Type 0} (f : X → Bool) (l : List X) → any f l ≡ false → All (λ x. f x ≡ false) l
unfolding any
any_false f [] e = tt
any_false f (x ∷ l) e = go (f x) refl e (any_false f l)
  where
    go : (c : Bool) → f x ≡ c → cond c true (any f l) ≡ false → (any f l ≡ false → All (λ x. f x ≡ false) l) → (f x ≡ false) × All (λ x. f x ≡ false) l
    go true q e r = clash true refl e
    go false q e r = (q, r e)

-- over k, k + 1, .., n of them
pub count-true : (f : ℕ → Bool) (k n : ℕ) → all f (count k n) ≡ true → (i : ℕ) → i < n → f (k + i) ≡ true
unfolding count
count-true f k n e i q = tab-all (λ i. f i ≡ true) (λ i. i) k n (all_true f (count k n) e) i q

pub true-count : (f : ℕ → Bool) (k n : ℕ) → ((i : ℕ) → i < n → f (k + i) ≡ true) → all f (count k n) ≡ true
true-count f k n h = true-all f (count k n) (all-count (λ i. f i ≡ true) k n h)
