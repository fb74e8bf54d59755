-- What an array keeps of a list: what stands at each place, and one row more. Assumes nothing.
use Rattle.std.specs.Prelude.{List, [], ◌++◌, ◌∷◌, ◌≡◌, refl, ◌<◌, ◌≤◌, suc, zero, ℕ, get_or, length, replicate, set, take}
use Rattle.std.proofs.Common.{ap, arith}
use Rattle.feeder.specs.Network.{kept}

pub length-kept : {X : Type 0} (d : X) (n : ℕ) (l : List X) → length (kept d n l) ≡ n
unfolding kept
length-kept d zero l = refl
length-kept d (suc n) [] = ap suc (length-kept d n [])
length-kept d (suc n) (x ∷ l) = ap suc (length-kept d n l)

kept-none : {X : Type 0} (d : X) (n k : ℕ) → get_or (kept d n []) k d ≡ d
unfolding kept
kept-none d zero k = refl
kept-none d (suc n) zero = refl
kept-none d (suc n) (suc k) = kept-none d n k

-- what stands at a place
pub get_or_kept : {X : Type 0} (d : X) (n : ℕ) (l : List X) (k : ℕ) → length l ≤ n → get_or (kept d n l) k d ≡ get_or l k d
unfolding kept
get_or_kept d zero [] k h = refl
get_or_kept d zero (x ∷ l) k h = absurd (omega arith)
get_or_kept d (suc n) [] zero h = refl
get_or_kept d (suc n) [] (suc k) h = kept-none d n k
get_or_kept d (suc n) (x ∷ l) zero h = refl
get_or_kept d (suc n) (x ∷ l) (suc k) h = get_or_kept d n l k (omega arith)

-- a place that is kept, however long the list is, and whatever x is read behind the array's end
pub kept-below : {X : Type 0} (d x : X) (n : ℕ) (l : List X) (k : ℕ) → k < n → get_or (kept d n l) k x ≡ get_or l k d
unfolding kept
kept-below d x zero l k h = absurd (omega arith)
kept-below d x (suc n) [] zero h = refl
kept-below d x (suc n) [] (suc k) h = kept-below d x n [] k (omega arith)
kept-below d x (suc n) (y ∷ l) zero h = refl
kept-below d x (suc n) (y ∷ l) (suc k) h = kept-below d x n l k (omega arith)

-- a row that is stored behind those that are kept, and one that finds no place
pub kept_next : {X : Type 0} (d : X) (n : ℕ) (l : List X) (x : X) → length l < n → set (kept d n l) (length l) x ≡ kept d n (l ++ (x ∷ []))
unfolding kept
kept_next d zero l x h = absurd (omega arith)
kept_next d (suc n) [] x h = refl
kept_next d (suc n) (y ∷ l) x h = ap (λ (r : List _). y ∷ r) (kept_next d n l x (omega arith))

pub kept_full : {X : Type 0} (d : X) (n : ℕ) (l : List X) (x : X) → n ≤ length l → kept d n (l ++ (x ∷ [])) ≡ kept d n l
unfolding kept
kept_full d zero l x h = refl
kept_full d (suc n) [] x h = absurd (omega arith)
kept_full d (suc n) (y ∷ l) x h = ap (λ (r : List _). y ∷ r) (kept_full d n l x (omega arith))

-- the list again, where it had room
pub take-kept : {X : Type 0} (d : X) (n : ℕ) (l : List X) → length l ≤ n → take (length l) (kept d n l) ≡ l
unfolding kept
take-kept d n [] h = refl
take-kept d zero (x ∷ l) h = absurd (omega arith)
take-kept d (suc n) (x ∷ l) h = ap (λ (r : List _). x ∷ r) (take-kept d n l (omega arith))

-- an array as it is made
pub blank-kept : {X : Type 0} (d : X) (n : ℕ) → replicate n d ≡ kept d n []
unfolding kept
blank-kept d zero = refl
blank-kept d (suc n) = ap (λ (r : List _). d ∷ r) (blank-kept d n)

pub get_or-blank : {X : Type 0} (d : X) (n k : ℕ) → get_or (replicate n d) k d ≡ d
get_or-blank d zero k = refl
get_or-blank d (suc n) zero = refl
get_or-blank d (suc n) (suc k) = get_or-blank d n k
