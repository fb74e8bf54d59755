-- The rows of a table one behind the other: they are read back where they stand, and what is read is their text, up to where the table is over. Assumes nothing.
use Rattle.std.specs.Prelude.{Bool, false, true, ◌≡◌, refl, get_or, Ok}
use mathlib.Core.List.{List, [], ◌++◌, ◌∷◌, append_assoc}
use Rattle.std.proofs.Common.{◌∙◌, get_or-drop, ne_eqb}
use Rattle.std.proofs.Math.Path.{ap, subst, sym}
use Prim.Native.Nat.{◌+◌, ◌<◌, ◌≤◌, suc, zero, ℕ}
use native.Mathlib.Omega.{arith}
use Rattle.std.proofs.Math.ListN.{drop, length, length-append, length-drop}
use Rattle.answers.specs.AnswerLaws.{bound, same_good, by-test}
use Rattle.answers.specs.Answers.{Outcome}
use Rattle.answers.specs.declared.Refusal.{Refusal}
use Rattle.feeder.specs.File.{BranchWritable, LoadWritable, branch_text, load_text}
use Rattle.feeder.specs.FirstLines.{SameLine, one-some, same_first, same_some}
use Rattle.feeder.specs.Layout.{branch_row, empty_line, file_end, load_row, rows}
use Rattle.feeder.proofs.LineReader.{LineReader, branch-reader, load-reader}
use Rattle.feeder.specs.declared.BranchRow.{BranchRow}
use Rattle.feeder.specs.declared.LoadRow.{LoadRow}
use Rattle.integers.specs.Lists.{All}
use Rattle.text.specs.RowText.{past}
use Rattle.text.specs.Text.{joined, Placed}

-- a reader of its lines, and a test for its end: a row does not end the table, and that a line does not is seen from the line alone
pub record Table {X : Type 0} (read : Refusal → List ℕ → ℕ → Outcome (Placed X)) (over : List ℕ → ℕ → Bool) (written : X → List ℕ) (Writable : X → Type 0) : Type 0 where
  pub reader : LineReader read written Writable
  pub going : (x : X) → Writable x → (s : List ℕ) (at : ℕ) (t : List ℕ) → drop at s ≡ written x ++ t → over s at ≡ false
  pub seen : (s : List ℕ) (at : ℕ) (t : List ℕ) (p : ℕ) → SameLine (drop at s) (drop p t) → over s at ≡ false → over t p ≡ false

-- the rows l were read from a place of s on, and p is the place behind them
pub record RowsRead {X : Type 0} (over : List ℕ → ℕ → Bool) (written : X → List ℕ) (Writable : X → Type 0) (s : List ℕ) (at : ℕ) (l : List X) (p : ℕ) : Type 0 where
  pub stand : drop at s ≡ joined written l ++ drop p s
  pub writable : All Writable l
  pub within : p ≤ length s
  pub ended : over s p ≡ true

module _ {X : Type 0} {read : Refusal → List ℕ → ℕ → Outcome (Placed X)} {over : List ℕ → ℕ → Bool} {written : X → List ℕ} {Writable : X → Type 0} (table : Table read over written Writable) where
  -- a row that stands at a place: the text goes on behind it
  pub row_room : (x : X) → Writable x → (s : List ℕ) (at : ℕ) (t : List ℕ) → drop at s ≡ written x ++ t → (0 < length (written x)) × (at + length (written x) ≤ length s)
  row_room x h s at t e =
      let k = one-some (written x) (table.reader.line x h) in
      (k, omega (arith, k, ap length e, length-append (written x) t, length-drop at s))

  pub rows_back : (l : List X) → All Writable l → (f : ℕ) (s : List ℕ) (line at : ℕ) (t : List ℕ) → length s < f + at → drop at s ≡ joined written l ++ t
      → over s (at + length (joined written l)) ≡ true → rows read f s line at (over s) ≡ Ok (l, at + length (joined written l))
  unfolding rows joined
  rows_back [] a zero s line at t q e o = ap (λ (p : ℕ). Ok ([], p)) (omega arith)
  rows_back [] a (suc f) s line at t q e o = let z : at + 0 ≡ at = omega arith in rw (rw z at o, z)
  rows_back (x ∷ l) a zero s line at t q e o =
      let k = row_room x a.0 s at (joined written l ++ t) (e ∙ append_assoc (written x) (joined written l) t) in
      absurd (omega (arith, k.0, k.1))
  rows_back (x ∷ l) a (suc f) s line at t q e o =
      let c : drop at s ≡ written x ++ (joined written l ++ t) = e ∙ append_assoc (written x) (joined written l) t in
      let k = row_room x a.0 s at (joined written l ++ t) c in
      let p : ℕ = at + length (written x) in
      let z : p + length (joined written l) ≡ at + length (written x ++ joined written l) = simp length-append (omega arith) in
      let d : (n : ℕ) → rows read f s n p (over s) ≡ Ok (l, p + length (joined written l)) = λ n. rows_back l a.1 f s n p t (omega (arith, k.0)) (past s at (written x) (joined written l ++ t) c) (rw z o) in
      let b : (r : Refusal) → read r s at ≡ Ok (x, p) = λ r. table.reader.back r x a.0 s at (joined written l ++ t) c in
      rw (table.going x a.0 s at (joined written l ++ t) c, b, d) (ap (λ (n : ℕ). Ok (x ∷ l, n)) z)

  pub rows-read : (f : ℕ) (s : List ℕ) (line at : ℕ) (l : List X) (p : ℕ) → at ≤ length s → length s < f + at → rows read f s line at (over s) ≡ Ok (l, p) → RowsRead over written Writable s at l p
  unfolding rows joined
  rows-read zero s line at l p a b e = absurd (omega arith)
  rows-read (suc f) s line at l p a b e =
      by-test (over s at) _ _ (Ok (l, p)) e
      (λ o g. subst (λ (y : Placed (List X)). RowsRead over written Writable s at y.0 y.1) (same_good ([], at) (l, p) g) (record { stand = refl; writable = tt; within = a; ended = o }))
      (λ o g.
      let c = bound {X = Placed X} _ _ (l, p) g in
      let d = bound {X = Placed (List X)} _ _ (l, p) c.rest in
      let x : X = c.value.0 in
      let q : ℕ = c.value.1 in
      let m : List X = d.value.0 in
      let n : ℕ = d.value.1 in
      let h = table.reader.stands _ s at x q c.came in
      let k = row_room x h.writable s at (drop q s) h.stand in
      let i = rows-read f s _ q m n h.within (omega (arith, k.0, ap length h.stand, length-append (written x) (drop q s), length-drop at s, length-drop q s, h.within)) d.came in
      subst (λ (y : Placed (List X)). RowsRead over written Writable s at y.0 y.1) (same_good (x ∷ m, n) (l, p) d.rest) (record {
        stand = h.stand ∙ ap (λ (y : List ℕ). written x ++ y) i.stand ∙ sym (append_assoc (written x) (joined written m) (drop n s));
        writable = (h.writable, i.writable);
        within = i.within;
        ended = i.ended;
      }))

-- ---- the branches, up to an empty line
pub first-at : (s : List ℕ) (at : ℕ) → get_or s at 0 ≡ get_or (drop at s) 0 0
first-at s at = let z : at + 0 ≡ at = omega arith in sym (rw z at (get_or-drop at s 0 0))

pub branch-rows : Table branch_row empty_line branch_text BranchWritable
branch-rows = record {
  reader = branch-reader;
  going = λ b h s at t e. rw (first-at s at, e) (branch-reader.first b h t);
  seen = λ s at t p q o. rw (first-at t p, sym (same_first (drop at s) (drop p t) q), sym (first-at s at)) o;
}

-- ---- the loads, up to the end of the file
pub load-rows : Table load_row file_end load_text LoadWritable
load-rows = record {
  reader = load-reader;
  going = λ l h s at t e. ne_eqb at (length s) (λ q. omega (arith, one-some (load_text l) (load-reader.line l h), ap length e, length-append (load_text l) t, length-drop at s));
  seen = λ s at t p q o. ne_eqb p (length t) (λ z. omega (arith, same_some (drop at s) (drop p t) q, length-drop p t));
}

-- the bound of the rows never ends a table: with as many rows as the table has bytes, of which the line of names has some, each table is read up to where it is over
pub rows-over : (s : List ℕ) (line at : ℕ) → 0 < at → at ≤ length s
    → ((l : List BranchRow) (p : ℕ) → rows branch_row (length s) s line at (empty_line s) ≡ Ok (l, p) → empty_line s p ≡ true)
    × ((l : List LoadRow) (p : ℕ) → rows load_row (length s) s line at (file_end s) ≡ Ok (l, p) → file_end s p ≡ true)
rows-over s line at a b = (
  λ l p e. (rows-read branch-rows (length s) s line at l p b (omega arith) e).ended,
  λ l p e. (rows-read load-rows (length s) s line at l p b (omega arith) e).ended,
)
