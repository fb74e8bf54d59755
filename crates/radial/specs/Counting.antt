-- How many of the first n nodes have no place: all but one at first, one fewer after each placing, and none where each has a place. Assumes nothing.
use Rattle.std.specs.Prelude.{List, [], ◌∷◌, ◌≡◌, refl, ◌+◌, ◌<◌, ◌≤◌, suc, zero, ℕ, get_or, length, replicate, set, take}
use Rattle.std.proofs.Common.{◌∙◌, ap, add-one, arith, get_or-take, length-take-le}
use Rattle.std.proofs.Math.Seq.{take-set-lt}
use Rattle.radial.specs.Radial.{unplaced}

set-one : (l : List ℕ) (i v : ℕ) → i < length l → get_or l i 0 ≡ 0 → suc (unplaced (set l i (suc v))) ≡ unplaced l
unfolding unplaced
set-one [] i v h e = omega arith
set-one (zero ∷ l) zero v h e = refl
set-one (suc n ∷ l) zero v h e = omega arith
set-one (zero ∷ l) (suc i) v h e = ap suc (set-one l i v (omega arith) e)
set-one (suc n ∷ l) (suc i) v h e = set-one l i v (omega arith) e

pub one_fewer : (n : ℕ) (l : List ℕ) (i v : ℕ) → i < n → n ≤ length l → get_or l i 0 ≡ 0 → suc (unplaced (take n (set l i (suc v)))) ≡ unplaced (take n l)
one_fewer n l i v h s e =
    rw (take-set-lt n l i (suc v) h)
    (set-one (take n l) i v (rw (length-take-le n l s) h) (get_or-take n l i 0 h ∙ e))

all-zero : (n m : ℕ) → n ≤ m → unplaced (take n (replicate m 0)) ≡ n
unfolding unplaced
all-zero zero m h = refl
all-zero (suc n) zero h = omega arith
all-zero (suc n) (suc m) h = ap suc (all-zero n m (omega arith))

pub all-but-source : (n m : ℕ) → n ≤ m → 1 + unplaced (take (n + 1) (set (replicate (suc m) 0) 0 1)) ≡ n + 1
unfolding unplaced
all-but-source n m h = rw add-one (let z = all-zero n m h in omega arith)

none-zero : (l : List ℕ) → ((i : ℕ) → i < length l → 0 < get_or l i 0) → unplaced l ≡ 0
unfolding unplaced
none-zero [] h = refl
none-zero (zero ∷ l) h = let z = h 0 (omega arith) in omega arith
none-zero (suc n ∷ l) h = none-zero l (λ i p. h (suc i) (omega arith))

pub all-ranked : (n : ℕ) (l : List ℕ) → n ≤ length l → ((i : ℕ) → i < n → 0 < get_or l i 0) → unplaced (take n l) ≡ 0
all-ranked n l s h =
    none-zero (take n l)
    (λ i p. let q : i < n = rw (length-take-le n l s) at p in rw (get_or-take n l i 0 q) (h i q))
