-- The first row with a fault, looked for row by row in an array that keeps the first rows of a file. Assumes nothing.
use Rattle.std.specs.Prelude.{Bool, cond, false, not, true, List, [], ◌∷◌, ◌≡◌, refl, ◌+◌, ◌-◌, ◌<◌, ◌≤◌, suc, zero, ℕ, ltb, drop, get_or, length, Option, Some, None}
use Rattle.std.proofs.Common.{◌∙◌, ap, sym, arith, drop_of_length-le}
use Rattle.feeder.specs.Feeder.{branch_in, first_branch, first_load, first_row, load_in, or_else, out_of_limit, source_in, zeros}
use Rattle.feeder.specs.Layout.{Rows}
use Rattle.feeder.specs.Network.{kept}
use Rattle.feeder.specs.NetworkLaws.{kept-below}
use Rattle.feeder.specs.declared.BranchRow.{BranchRow}
use Rattle.feeder.specs.declared.LoadRow.{LoadRow}

-- ---- the tests of 11 and 24, on row k
abbrev pub branch_out : ℕ → BranchRow → Bool
branch_out k b = cond (ltb 200 k) true (not (branch_in b.kind b.p))

abbrev pub load_out : ℕ → LoadRow → Bool
load_out k l = cond (ltb 300 k) true (not (load_in l))

abbrev pub not_zero_row : ℕ → BranchRow → Bool
not_zero_row k b = not (zeros b.kind b.phases b.p)

-- ---- the rows before row k have no fault: the first that has one is the first from there on
pub record Passed {X : Type 0} (bad : ℕ → X → Bool) (before : ℕ) (l : List X) (k : ℕ) : Type 0 where
  pub from : 0 < k
  pub rest : first_row bad before 1 l ≡ first_row bad before k (drop (k - 1) l)

-- row k of a list
drop-row : {X : Type 0} (d : X) (l : List X) (k : ℕ) → 0 < k → k ≤ length l → drop (k - 1) l ≡ get_or l (k - 1) d ∷ drop ((k + 1) - 1) l
drop-row d [] k p h = absurd (omega arith)
drop-row d (x ∷ l) zero p h = absurd (omega arith)
drop-row d (x ∷ l) (suc zero) p h = refl
drop-row d (x ∷ l) (suc (suc k)) p h =
    let e : suc (suc k) - 1 ≡ suc k = omega arith in
    let f : (suc (suc k) + 1) - 1 ≡ suc (suc k) = omega arith in
    let g : (suc k + 1) - 1 ≡ suc k = omega arith in
    let m : suc k - 1 ≡ k = omega arith in
    rw (e, f) (rw (m, g) at (drop-row d l (suc k) (omega arith) (omega arith)))

first_step : {X : Type 0} (bad : ℕ → X → Bool) (before : ℕ) (d : X) (l : List X) (k : ℕ) → 0 < k → k ≤ length l
    → first_row bad before k (drop (k - 1) l) ≡ cond (bad k (get_or l (k - 1) d)) (Some (before + k)) (first_row bad before (k + 1) (drop ((k + 1) - 1) l))
unfolding first_row
first_step bad before d l k p h = ap (λ m. first_row bad before k m) (drop-row d l k p h)

first-end : {X : Type 0} (bad : ℕ → X → Bool) (before : ℕ) (l : List X) (k : ℕ) → length l < k → first_row bad before k (drop (k - 1) l) ≡ None
unfolding first_row
first-end bad before l k h = ap (λ m. first_row bad before k m) (drop_of_length-le l {i = k - 1} (omega arith))

-- ---- one row after the other, from row 1 to the last
pub pass-none : {X : Type 0} (bad : ℕ → X → Bool) (before : ℕ) (l : List X) → Passed bad before l 1
pass-none bad before l = record { from = omega arith; rest = refl }

module _ {X : Type 0} {bad : ℕ → X → Bool} {before : ℕ} {l : List X} {k : ℕ} (p : Passed bad before l k) where
  module _ (d : X) (h : k ≤ length l) where
    -- the rest, taken apart at row k
    turn : first_row bad before 1 l ≡ cond (bad k (get_or l (k - 1) d)) (Some (before + k)) (first_row bad before (k + 1) (drop ((k + 1) - 1) l))
    turn = p.rest ∙ first_step bad before d l k p.from h

    pub pass-row : bad k (get_or l (k - 1) d) ≡ false → Passed bad before l (k + 1)
    pass-row clean = record { from = omega arith; rest = turn ∙ simp clean }

    pub found-row : bad k (get_or l (k - 1) d) ≡ true → Some (before + k) ≡ first_row bad before 1 l
    found-row fault = sym (turn ∙ simp fault)

  pub found_none : length l < k → None ≡ first_row bad before 1 l
  found_none h = sym (p.rest ∙ first-end bad before l k h)

-- ---- row k of a file, where an array keeps it
pub kept-row : {X : Type 0} (d x : X) (n : ℕ) (l cells : List X) (k : ℕ) → cells ≡ kept d n l → 0 < k → k ≤ n → get_or cells (k - 1) x ≡ get_or l (k - 1) d
kept-row d x n l cells k e p h = rw e (kept-below d x n l (k - 1) (omega arith))

-- ---- 11 by its three parts
module _ (r : Rows) where
  pub out-source : source_in r.given ≡ false → Some 2 ≡ out_of_limit r
  unfolding out_of_limit or_else
  out-source e = rw e

  pub out-branch : (n : ℕ) → source_in r.given ≡ true → first_branch branch_out r ≡ Some n → Some n ≡ out_of_limit r
  unfolding out_of_limit or_else
  out-branch n e h = rw (e, h)

  pub out-load : (x : Option ℕ) → source_in r.given ≡ true → first_branch branch_out r ≡ None → x ≡ first_load load_out r → x ≡ out_of_limit r
  unfolding out_of_limit or_else
  out-load x e h k = rw (e, h) k
