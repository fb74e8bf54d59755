-- A file that is read is the one that its rows are written as, and these can be written: the format has one text for each feeder. Assumes nothing.
use Rattle.std.specs.Prelude.{List, [], ◌++◌, ◌∷◌, ◌≡◌, refl, ◌<◌, ◌≤◌, ℕ, drop, get_or, length, Ok}
use Rattle.std.proofs.Common.{append_assoc, append-nil, ◌∙◌, ap, subst, arith, drop_of_length-le, length-append, length-drop, eqb-true}
use Prim.Native.String.{String}
use Rattle.answers.specs.AnswerLaws.{bound, same_good}
use Rattle.answers.specs.declared.Refusal.{Refusal}
use Rattle.feeder.specs.File.{BranchWritable, FileWritable, LoadWritable, branch_names, branch_text, branches_text, file_of, load_names, load_text, loads_text, row_of_source, source_names, source_text}
use Rattle.feeder.specs.FirstLines.{OneLine, one-some}
use Rattle.feeder.specs.Layout.{Rows, branch_row, branch_table, empty_line, file_end, layout, load_row, load_table, rows, source_table}
use Rattle.feeder.proofs.LineReader.{ReadAt}
use Rattle.feeder.specs.RowLine.{branch-names, empty-line, load-names}
use Rattle.feeder.proofs.TableRows.{branch-rows, load-rows, rows-read}
use Rattle.feeder.specs.declared.BranchRow.{BranchRow}
use Rattle.feeder.specs.declared.LoadRow.{LoadRow}
use Rattle.integers.specs.Lists.{All}
use Rattle.text.specs.Lines.{Row, row_text, text, word_of, Readable}
use Rattle.text.specs.RowText.{row-read, text-read, text-within}
use Rattle.text.specs.Text.{bytes, joined, Placed}

-- ---- the tables
-- the place behind a table's line of names
pub names-place : (r : Refusal) (w : String) (s : List ℕ) (p : ℕ) → OneLine (bytes w) → text r w s 0 ≡ Ok p → (0 < p) × (p ≤ length s)
names-place r w s p o e =
    let k = one-some (bytes w) o in
    let n = text-within r w s 0 p k e in
    (omega (arith, k, n, ap length (text-read r w s 0 p e), length-append (bytes w) (drop p s), length-drop p s), n)

pub source-read : (s : List ℕ) (x : Row) (p : ℕ) → source_table s ≡ Ok (x, p) → ReadAt (λ y. bytes source_names ++ (row_text y ++ bytes "\n")) (Readable 1 8) s 0 x p
unfolding source_table
source-read s x p e =
    let a = bound {X = ℕ} _ _ (x, p) e in
    let b = bound {X = Placed Row} _ _ (x, p) a.rest in
    let c = bound {X = ℕ} _ _ (x, p) b.rest in
    let y : Row = b.value.0 in
    let h = row-read _ 1 7 s a.value y b.value.1 b.came in
    let t : s ≡ bytes source_names ++ (row_text y ++ (bytes "\n" ++ drop c.value s))
    = text-read _ _ s 0 a.value a.came ∙ ap (λ (z : List ℕ). bytes source_names ++ z) (h.stand ∙ ap (λ (z : List ℕ). row_text y ++ z) (text-read _ _ s b.value.1 c.value c.came)) in
    subst (λ (z : Placed Row). ReadAt (λ y. bytes source_names ++ (row_text y ++ bytes "\n")) (Readable 1 8) s 0 z.0 z.1) (same_good (y, c.value) (x, p) c.rest)
    (record { stand = t ∙ simp append_assoc; writable = h.readable; within = text-within _ _ s b.value.1 c.value (one-some (bytes "\n") empty-line) c.came })

pub branches-read : (s : List ℕ) (l : List BranchRow) (p : ℕ) → branch_table s ≡ Ok (l, p) → ReadAt (λ m. bytes branch_names ++ (joined branch_text m ++ bytes "\n")) (All BranchWritable) s 0 l p
unfolding branch_table
branches-read s l p e =
    let a = bound {X = ℕ} _ _ (l, p) e in
    let b = bound (rows branch_row _ s _ a.value (empty_line s)) _ (l, p) a.rest in
    let c = bound {X = ℕ} _ _ (l, p) b.rest in
    let m : List BranchRow = b.value.0 in
    let n = names-place _ branch_names s a.value branch-names a.came in
    let h = rows-read branch-rows _ s _ a.value m b.value.1 n.1 (omega (arith, n.0)) b.came in
    let w : s ≡ bytes branch_names ++ (joined branch_text m ++ (bytes "\n" ++ drop c.value s))
    = text-read _ _ s 0 a.value a.came ∙ ap (λ (z : List ℕ). bytes branch_names ++ z) (h.stand ∙ ap (λ (z : List ℕ). joined branch_text m ++ z) (text-read _ _ s b.value.1 c.value c.came)) in
    subst (λ (z : Placed (List BranchRow)). ReadAt (λ m. bytes branch_names ++ (joined branch_text m ++ bytes "\n")) (All BranchWritable) s 0 z.0 z.1) (same_good (m, c.value) (l, p) c.rest)
    (record { stand = w ∙ simp append_assoc; writable = h.writable; within = text-within _ _ s b.value.1 c.value (one-some (bytes "\n") empty-line) c.came })

pub loads-read : (line : ℕ) (s : List ℕ) (l : List LoadRow) → load_table line s ≡ Ok l → All LoadWritable l × (s ≡ bytes load_names ++ joined load_text l)
unfolding load_table
loads-read line s l e =
    let a = bound {X = ℕ} _ _ l e in
    let b = bound (rows load_row _ s _ a.value (file_end s)) _ l a.rest in
    let m : List LoadRow = b.value.0 in
    let n = names-place _ load_names s a.value load-names a.came in
    let h = rows-read load-rows _ s _ a.value m b.value.1 n.1 (omega (arith, n.0)) b.came in
    let k : drop b.value.1 s ≡ [] = drop_of_length-le s {i = b.value.1} (omega (arith, eqb-true b.value.1 (length s) h.ended)) in
    let w : s ≡ bytes load_names ++ joined load_text m
    = text-read _ _ s 0 a.value a.came ∙ ap (λ (z : List ℕ). bytes load_names ++ z) (h.stand ∙ ap (λ (z : List ℕ). joined load_text m ++ z) k ∙ append-nil (joined load_text m)) in
    subst (λ (z : List LoadRow). All LoadWritable z × (s ≡ bytes load_names ++ joined load_text z)) (same_good m l b.rest) (h.writable, w)

-- ---- the file
pub one : (ws : List ℕ) → length ws ≡ 1 → ws ≡ get_or ws 0 0 ∷ []
one [] n = absurd (omega arith)
one (a ∷ []) n = refl
one (a ∷ (b ∷ l)) n = absurd (omega arith)

pub file-read : (s : List ℕ) (r : Rows) → layout s ≡ Ok r → FileWritable r × (s ≡ file_of r)
unfolding layout file_of source_text branches_text loads_text row_of_source
file-read s r e =
    let a = bound {X = Placed Row} _ _ r e in
    let b = bound {X = Placed (List BranchRow)} _ _ r a.rest in
    let c = bound {X = List LoadRow} _ _ r b.rest in
    let x : Row = a.value.0 in
    let l : List BranchRow = b.value.0 in
    let made : Rows = record { source = word_of x 0; given = x.values; branches = l; loads = c.value } in
    let f = source-read s x a.value.1 a.came in
    let g = branches-read _ l b.value.1 b.came in
    let h = loads-read _ _ c.value c.came in
    let k : x ≡ row_of_source made = ap (λ (w : List ℕ). record { words = w; values = x.values }) (one x.words f.writable.words_are) in
    let w : s ≡ file_of made
    = f.stand ∙ ap (λ (y : Row). (bytes source_names ++ (row_text y ++ bytes "\n")) ++ drop a.value.1 s) k ∙ ap (λ (z : List ℕ). source_text made ++ z) (g.stand ∙ ap (λ (z : List ℕ). branches_text made ++ z) h.1) in
    subst (λ (y : Rows). FileWritable y × (s ≡ file_of y)) (same_good made r c.rest) (record { source = subst (Readable 1 8) k f.writable; branches = g.writable; loads = h.0 }, w)
