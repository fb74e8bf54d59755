-- The rows that a loop puts into an array, one after the other, behind those that stand first in it. Assumes nothing.
use mathlib.Core.List.{List, [], ◌++◌, ◌∷◌, map}
use Rattle.std.specs.Prelude.{◌≡◌, refl, ◌+◌, ◌<◌, suc, zero, ℕ, get_or, length, set, take}
use Rattle.std.proofs.Common.{◌∙◌, ap, sym, add-one, arith}
use Rattle.feeder.specs.Network.{kept, no_branch_row, no_load_row}
use Rattle.feeder.specs.NetworkLaws.{kept-below, kept_next}
use Rattle.feeder.specs.declared.BranchRow.{BranchRow}
use Rattle.feeder.specs.declared.LoadRow.{LoadRow}

-- the images by f of the first i of l, behind `heads`
abbrev pub filled : {X Y : Type 0} → (X → Y) → List Y → List X → ℕ → List Y
filled f heads l i = heads ++ map f (take i l)

module _ {X Y : Type 0} (f : X → Y) where
  filled-length : (heads : List Y) (l : List X) (i : ℕ) → i < length l → length (filled f heads l i) ≡ length heads + i
  filled-length [] [] i h = elim h [ ]
  filled-length [] (x ∷ l) zero h = refl
  filled-length [] (x ∷ l) (suc i) h = omega (arith, filled-length [] l i (omega arith))
  filled-length (y ∷ heads) l i h = omega (arith, filled-length heads l i h)

  filled-more : (heads : List Y) (l : List X) (e : X) (i : ℕ) → i < length l → filled f heads l i ++ (f (get_or l i e) ∷ []) ≡ filled f heads l (suc i)
  filled-more [] [] e i h = elim h [ ]
  filled-more [] (x ∷ l) e zero h = refl
  filled-more [] (x ∷ l) e (suc i) h = ap (λ (r : List Y). f x ∷ r) (filled-more [] l e i (omega arith))
  filled-more (y ∷ heads) l e i h = ap (λ (r : List Y). y ∷ r) (filled-more heads l e i h)

  -- one more
  pub filled_next : (d : Y) (n : ℕ) (heads : List Y) (l : List X) (e : X) (i k m : ℕ) (y : Y) → k ≡ length heads + i → m ≡ i + 1 → i < length l → k < n → y ≡ f (get_or l i e) →
      set (kept d n (filled f heads l i)) k y ≡ kept d n (filled f heads l m)
  filled_next d n heads l e i k m y place more h room row =
      let at : length (filled f heads l i) ≡ k = filled-length heads l i h ∙ sym place in
      rw (row, more, add-one, sym (filled-more heads l e i h)) (rw at at (kept_next d n (filled f heads l i) (f (get_or l i e)) (rw at room)))

  -- all
  pub filled_all : (heads : List Y) (l : List X) (i : ℕ) → i ≡ length l → filled f heads l i ≡ heads ++ map f l
  filled_all heads l i e = rw e (ap (λ (r : List X). heads ++ map f r) (all l))
    where
      all : (l : List X) → take (length l) l ≡ l
      all [] = refl
      all (x ∷ l) = ap (λ (r : List X). x ∷ r) (all l)

-- the rows of a file at their places in its tables
pub branch-row : {cells : List BranchRow} (bs : List BranchRow) → cells ≡ kept no_branch_row 200 bs → (i : ℕ) (x : BranchRow) → i < 200 → get_or cells i x ≡ get_or bs i no_branch_row
branch-row bs h i x p = rw h (kept-below no_branch_row x 200 bs i p)

pub load-row : {cells : List LoadRow} (ls : List LoadRow) → cells ≡ kept no_load_row 300 ls → (i : ℕ) (x : LoadRow) → i < 300 → get_or cells i x ≡ get_or ls i no_load_row
load-row ls h i x p = rw h (kept-below no_load_row x 300 ls i p)
