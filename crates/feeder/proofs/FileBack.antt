-- A feeder's file that was written is read back as its rows. Assumes nothing.
use Rattle.std.specs.Prelude.{true, List, [], ◌++◌, ◌≡◌, refl, ◌+◌, ℕ, drop, length, Ok}
use Rattle.std.proofs.Common.{append_assoc, append-nil, ◌∙◌, ap, sym, arith, length-append, eq-eqb}
use Rattle.std.proofs.Math.Seq.{drop-append_seam}
use Rattle.answers.specs.AnswerLaws.{goes}
use Rattle.feeder.specs.File.{BranchWritable, FileWritable, LoadWritable, branch_names, branch_text, branches_text, file_of, load_names, load_text, loads_text, row_of_source, source_names, source_text}
use Rattle.feeder.specs.FirstLines.{one-some}
use Rattle.feeder.specs.Layout.{Rows, branch_row, branch_table, empty_line, file_end, layout, load_row, load_table, rows, source_table}
use Rattle.feeder.specs.RowLine.{branch-names, load-names}
use Rattle.feeder.proofs.TableRows.{branch-rows, first-at, load-rows, rows_back}
use Rattle.feeder.specs.declared.BranchRow.{BranchRow}
use Rattle.feeder.specs.declared.LoadRow.{LoadRow}
use Rattle.integers.specs.Lists.{All}
use Rattle.text.specs.Lines.{Row, row, row_text, text, Readable}
use Rattle.text.specs.RowText.{past, row_back, text-back}
use Rattle.text.specs.Text.{bytes, joined}

feed-ends : (s : List ℕ) (at : ℕ) (t : List ℕ) → drop at s ≡ bytes "\n" ++ t → empty_line s at ≡ true
unfolding bytes
feed-ends s at t e = rw (first-at s at, e) refl

pub source-back : (x : Row) → Readable 1 8 x → (t : List ℕ) →
    source_table ((bytes source_names ++ (row_text x ++ bytes "\n")) ++ t) ≡ Ok (x, length (bytes source_names ++ (row_text x ++ bytes "\n")))
unfolding source_table
source-back x h t =
    let s : List ℕ = (bytes source_names ++ (row_text x ++ bytes "\n")) ++ t in
    let p : ℕ = 0 + length (bytes source_names) in
    let q : ℕ = p + length (row_text x) in
    let c : drop 0 s ≡ bytes source_names ++ (row_text x ++ (bytes "\n" ++ t)) = simp append_assoc in
    let d : drop p s ≡ row_text x ++ (bytes "\n" ++ t) = past s 0 (bytes source_names) _ c in
    let e : drop q s ≡ bytes "\n" ++ t = past s p (row_text x) (bytes "\n" ++ t) d in
    let end : q + length (bytes "\n") ≡ length (bytes source_names ++ (row_text x ++ bytes "\n")) = simp length-append (omega arith) in
    goes (text _ _ s 0) _ _ _ (text-back _ _ s 0 _ c)
    (goes (row _ 1 8 s p) _ _ _ (row_back _ 1 8 x h s p (bytes "\n" ++ t) d)
    (goes (text _ _ s q) _ _ _ (text-back _ _ s q t e) (ap (λ (n : ℕ). Ok (x, n)) end)))

pub branches-back : (l : List BranchRow) → All BranchWritable l → (t : List ℕ) →
    branch_table ((bytes branch_names ++ (joined branch_text l ++ bytes "\n")) ++ t) ≡ Ok (l, length (bytes branch_names ++ (joined branch_text l ++ bytes "\n")))
unfolding branch_table
branches-back l h t =
    let y : List ℕ = joined branch_text l in
    let s : List ℕ = (bytes branch_names ++ (y ++ bytes "\n")) ++ t in
    let p : ℕ = 0 + length (bytes branch_names) in
    let q : ℕ = p + length y in
    let c : drop 0 s ≡ bytes branch_names ++ (y ++ (bytes "\n" ++ t)) = simp append_assoc in
    let d : drop p s ≡ y ++ (bytes "\n" ++ t) = past s 0 (bytes branch_names) _ c in
    let e : drop q s ≡ bytes "\n" ++ t = past s p y (bytes "\n" ++ t) d in
    let end : q + length (bytes "\n") ≡ length (bytes branch_names ++ (y ++ bytes "\n")) = simp length-append (omega arith) in
    goes (text _ _ s 0) _ _ _ (text-back _ _ s 0 _ c)
    (goes (rows branch_row _ s _ p (empty_line s)) _ _ _ (rows_back branch-rows l h _ s _ p (bytes "\n" ++ t) (omega (arith, one-some (bytes branch_names) branch-names)) d (feed-ends s q t e))
    (goes (text _ _ s q) _ _ _ (text-back _ _ s q t e) (ap (λ (n : ℕ). Ok (l, n)) end)))

loads-back : (line : ℕ) (l : List LoadRow) → All LoadWritable l → load_table line (bytes load_names ++ joined load_text l) ≡ Ok l
unfolding load_table
loads-back line l h =
    let y : List ℕ = joined load_text l in
    let s : List ℕ = bytes load_names ++ y in
    let p : ℕ = 0 + length (bytes load_names) in
    let d : drop p s ≡ y ++ [] = past s 0 (bytes load_names) y refl ∙ sym (append-nil y) in
    let o = eq-eqb (p + length y) (length s) (simp length-append (omega arith)) in
    goes (text _ _ s 0) _ _ _ (text-back _ load_names s 0 y refl)
    (goes (rows load_row _ s _ p (file_end s)) _ _ _ (rows_back load-rows l h _ s _ p [] (omega (arith, one-some (bytes load_names) load-names)) d o) refl)

-- the file is read back as the rows
pub file-back : (r : Rows) → FileWritable r → layout (file_of r) ≡ Ok r
unfolding layout file_of source_text branches_text loads_text row_of_source
file-back r h =
    let t : List ℕ = branches_text r ++ loads_text r in
    let d : drop (length (source_text r)) (source_text r ++ t) ≡ t = drop-append_seam (source_text r) t in
    let e : drop (length (branches_text r)) t ≡ loads_text r = drop-append_seam (branches_text r) (loads_text r) in
    goes (source_table _) _ _ _ (source-back (row_of_source r) h.source t)
    (goes (branch_table _) _ _ _ (ap branch_table d ∙ branches-back r.branches h.branches (loads_text r))
    (goes (load_table _ _) _ _ _ (ap (load_table _) (ap (drop (length (branches_text r))) d ∙ e) ∙ loads-back _ r.loads h.loads) refl))
