-- Where each table, and the file, is refused: the line that is told is the one that is read, and the lines before it go on as a file. Assumes nothing.
use Rattle.std.specs.Prelude.{true, List, [], ◌++◌, ◌∷◌, ◌≡◌, refl, ◌+◌, ◌<◌, ℕ, eqb, pos, drop, get_or, length, Ok, Err}
use Rattle.std.proofs.Common.{append_assoc, append-nil, ◌∙◌, ap, subst, sym, arith, eqb-true}
use Rattle.std.proofs.Math.Seq.{drop-append_seam}
use Rattle.answers.specs.AnswerLaws.{not_good, stopped}
use Rattle.answers.specs.declared.Refusal.{Refusal}
use Rattle.feeder.specs.File.{BranchWritable, LoadWritable, WellLaid, branch_names, branch_text, branches_text, file_of, line_feeds, load_names, load_text, loads_text, row_of_source, source_names, source_text}
use Rattle.feeder.proofs.FileBack.{branches-back, source-back}
use Rattle.feeder.proofs.FileRead.{branches-read, names-place, one, source-read}
use Rattle.feeder.specs.FirstLines.{Ended, one-some}
use Rattle.feeder.specs.Layout.{branch_row, branch_table, empty_line, file_end, layout, load_row, load_table, rows, source_table}
use Rattle.feeder.proofs.LayoutFault.{Fault, behind, here, line-again, rows-fault, text-again, text-told, told_at, wider}
use Rattle.feeder.proofs.LineReader.{row-reader}
use Rattle.feeder.specs.RowLine.{branch-names, empty-line, lines-many, load-names, source-names, table-lines}
use Rattle.feeder.proofs.TableRows.{branch-rows, first-at, load-rows, rows-read}
use Rattle.feeder.specs.declared.BranchRow.{BranchRow}
use Rattle.feeder.specs.declared.LoadRow.{LoadRow}
use Rattle.integers.specs.Bools.{clash}
use Rattle.integers.specs.ListLaws.{all_map}
use Rattle.integers.specs.Lists.{All}
use Rattle.text.specs.Lines.{Row, row, row_text, text, word_of, Readable}
use Rattle.text.specs.RowText.{past, row_back, text-back, text-read}
use Rattle.text.specs.Text.{bytes, joined, letters}

-- ---- rows that can be written, as one text
abbrev tables : Row → List BranchRow → List LoadRow → List ℕ
tables x l m = bytes source_names ++ (row_text x ++ (bytes "\n" ++ (bytes branch_names ++ (joined branch_text l ++ (bytes "\n" ++ (bytes load_names ++ joined load_text m))))))

laid : (x : Row) → Readable 1 8 x → (l : List BranchRow) → All BranchWritable l → (m : List LoadRow) → All LoadWritable m → WellLaid (tables x l m)
unfolding file_of source_text branches_text loads_text row_of_source
laid x h l a m b =
    let k : x ≡ record { words = word_of x 0 ∷ []; values = x.values } = ap (λ (w : List ℕ). record { words = w; values = x.values }) (one x.words h.words_are) in
    record {
      rows = record { source = word_of x 0; given = x.values; branches = l; loads = m };
      writable = record { source = subst (Readable 1 8) k h; branches = a; loads = b };
      text = ap (λ (y : Row). tables y l m) k ∙ simp append_assoc;
    }

-- a source row
some_source : Row
some_source = record { words = 83 ∷ []; values = pos 0 ∷ pos 0 ∷ pos 0 ∷ pos 0 ∷ pos 0 ∷ pos 0 ∷ pos 0 ∷ pos 0 ∷ [] }

some-source : Readable 1 8 some_source
unfolding letters some_source
some-source = let z : 0 < 1000000000000000000 = omega arith in record { proper = (record { some = omega arith; fits = omega arith; made = (refl, tt) }, tt); small = (z, (z, (z, (z, (z, (z, (z, (z, tt)))))))); words_are = refl; values-are = refl; some = omega arith }

-- ---- the tables
-- what stands behind the last branch, where no load comes
abbrev no_loads : List ℕ
no_loads = bytes "\n" ++ (bytes load_names ++ joined load_text [])

abbrev no_branches : List ℕ
no_branches = bytes branch_names ++ (joined branch_text [] ++ no_loads)

source-fault : (s : List ℕ) (y : Refusal) → source_table s ≡ Err y → Fault (λ t. source_table t ≡ Err y) WellLaid 1 s y
unfolding source_table
source-fault s y e =
    let names : List ℕ = bytes source_names in
    let after : ℕ = 0 + length names in
    let more : List ℕ = row_text some_source ++ (bytes "\n" ++ no_branches) in
    let g = laid some_source some-source [] tt [] tt in
    let named : (t : List ℕ) (r : Refusal) → text r source_names (names ++ t) 0 ≡ Ok after = λ t r. text-back r source_names (names ++ t) 0 t refl in
    stopped (text _ source_names s 0) _ y e
    (λ c.
    let a = text-told _ _ s 0 y c in
    here 1 s (told_at y _ 1 a (omega arith)) (λ t q. rw (text-again _ _ s 0 y source-names c t q t 0 refl, a)) (names ++ more) g)
    (λ p c d. behind names source-names.ended 1 2 (omega (arith, source-names.one)) s (drop p s) (text-read _ _ s 0 p c) (stopped (row _ 1 8 s p) _ y d
    (λ i.
    let a = (row-reader 0 7).told _ s p y i in
    here 2 (drop p s) (told_at y _ 2 a (omega arith)) (λ t q. rw (named t, line-again (row-reader 0 7) _ s p y i t q (names ++ t) after (past (names ++ t) 0 names t refl), a)) more g)
    (λ v i j.
    let x : Row = v.0 in
    let h = (row-reader 0 7).stands _ s p x v.1 i in
    let o = (row-reader 0 7).line x h.writable in
    let before : (t : List ℕ) → drop after (names ++ (row_text x ++ t)) ≡ row_text x ++ t = λ t. past (names ++ (row_text x ++ t)) 0 names (row_text x ++ t) refl in
    let rowed : (t : List ℕ) (r : Refusal) → row r 1 8 (names ++ (row_text x ++ t)) after ≡ Ok (x, after + length (row_text x))
    = λ t r. row_back r 1 8 x h.writable (names ++ (row_text x ++ t)) after t (before t) in
    behind (row_text x) o.ended 2 3 (omega (arith, o.one)) (drop p s) (drop v.1 s) h.stand (stopped (text _ "\n" s v.1) _ y j
    (λ k.
    let a = text-told _ _ s v.1 y k in
    here 3 (drop v.1 s) (told_at y _ 3 a (omega arith))
    (λ t q. rw (named (row_text x ++ t), rowed t, text-again _ _ s v.1 y empty-line k t q (names ++ (row_text x ++ t)) (after + length (row_text x)) (past (names ++ (row_text x ++ t)) after (row_text x) t (before t)), a))
    (bytes "\n" ++ no_branches) (laid x h.writable [] tt [] tt))
    (λ n k l. not_good _ y l)))))

feed-stands : (s : List ℕ) (at : ℕ) → empty_line s at ≡ true → (t : List ℕ) × (drop at s ≡ bytes "\n" ++ t)
unfolding bytes
feed-stands s at e = go (drop at s) (rw (first-at s at) at e)
  where
    go : (u : List ℕ) → eqb (get_or u 0 0) 10 ≡ true → (t : List ℕ) × (u ≡ 10 ∷ t)
    go [] e = clash true refl (sym e)
    go (b ∷ t) e = (t, ap (λ (c : ℕ). c ∷ t) (eqb-true b 10 e))

branch-fault : (Good : List ℕ → Type 0) (s : List ℕ) (y : Refusal) → branch_table s ≡ Err y → ((l : List BranchRow) → All BranchWritable l → Good (bytes branch_names ++ (joined branch_text l ++ no_loads))) →
    Fault (λ t. branch_table t ≡ Err y) Good 4 s y
unfolding branch_table
branch-fault Good s y e g =
    let names : List ℕ = bytes branch_names in
    let after : ℕ = 0 + length names in
    let named : (t : List ℕ) (r : Refusal) → text r branch_names (names ++ t) 0 ≡ Ok after = λ t r. text-back r branch_names (names ++ t) 0 t refl in
    stopped (text _ branch_names s 0) _ y e
    (λ c.
    let a = text-told _ _ s 0 y c in
    here 4 s (told_at y _ 4 a (omega arith)) (λ t q. rw (text-again _ _ s 0 y branch-names c t q t 0 refl, a)) (names ++ (joined branch_text [] ++ no_loads)) (g [] tt))
    (λ p c d.
    let n = names-place _ branch_names s p branch-names c in
    behind names branch-names.ended 4 5 (omega (arith, branch-names.one)) s (drop p s) (text-read _ _ s 0 p c)
    (stopped (rows branch_row _ s _ p (empty_line s)) _ y d
    (λ i. wider 5 (drop p s) (rows-fault branch-rows y (λ t. Good (names ++ t)) _ s 5 _ p (omega (arith, n.0)) i (omega arith) no_loads g)
    (λ t h. rw (named t, h (names ++ t) after (past (names ++ t) 0 names t refl) (length (names ++ t)) (omega (arith, one-some names branch-names)))))
    (λ v i j.
    let h = rows-read branch-rows _ s _ p v.0 v.1 n.1 (omega (arith, n.0)) i in
    let k = feed-stands s v.1 h.ended in
    stopped (text _ _ s v.1) _ y j (λ f. not_good _ y (sym (text-back _ _ s v.1 k.0 k.1) ∙ f)) (λ m f w. not_good _ y w))))

load-fault : (Good : List ℕ → Type 0) (n line : ℕ) (s : List ℕ) (y : Refusal) → load_table line s ≡ Err y → line ≡ n → ((m : List LoadRow) → All LoadWritable m → Good (bytes load_names ++ joined load_text m)) →
    Fault (λ t. load_table line t ≡ Err y) Good n s y
unfolding load_table
load-fault Good n line s y e z g =
    let names : List ℕ = bytes load_names in
    let after : ℕ = 0 + length names in
    let named : (t : List ℕ) (r : Refusal) → text r load_names (names ++ t) 0 ≡ Ok after = λ t r. text-back r load_names (names ++ t) 0 t refl in
    stopped (text _ load_names s 0) _ y e
    (λ c.
    let a = text-told _ _ s 0 y c in
    here n s (told_at y _ n a (omega arith)) (λ t q. rw (text-again _ _ s 0 y load-names c t q t 0 refl, a)) (names ++ joined load_text []) (g [] tt))
    (λ p c d.
    let k = names-place _ load_names s p load-names c in
    behind names load-names.ended n (n + 1) (omega (arith, load-names.one)) s (drop p s) (text-read _ _ s 0 p c)
    (stopped (rows load_row _ s _ p (file_end s)) _ y d
    (λ i. wider (n + 1) (drop p s) (rows-fault load-rows y (λ t. Good (names ++ t)) _ s (n + 1) _ p (omega (arith, k.0)) i (omega arith) [] (λ m a. rw (append-nil (joined load_text m)) (g m a)))
    (λ t h. rw (named t, h (names ++ t) after (past (names ++ t) 0 names t refl) (length (names ++ t)) (omega (arith, one-some names load-names)))))
    (λ v i j. not_good _ y j)))

-- ---- the file
-- the lines of a whole table
pub source_lines : (x : Row) → Readable 1 8 x → Ended (bytes source_names ++ (row_text x ++ bytes "\n")) × (line_feeds (bytes source_names ++ (row_text x ++ bytes "\n")) ≡ 3)
source_lines x h =
    let k = (row-reader 0 7).line x h in
    let w = table-lines (bytes source_names) (row_text x) source-names k.ended in
    (w.0, omega (arith, w.1, k.one))

pub branch-lines : (l : List BranchRow) → All BranchWritable l →
    Ended (bytes branch_names ++ (joined branch_text l ++ bytes "\n")) × (line_feeds (bytes branch_names ++ (joined branch_text l ++ bytes "\n")) ≡ length l + 2)
branch-lines l h =
    let k = lines-many branch_text l (all_map l branch-rows.reader.line h) in
    let w = table-lines (bytes branch_names) (joined branch_text l) branch-names k.0 in
    (w.0, omega (arith, w.1, k.1))

pub layout-fault : (s : List ℕ) (y : Refusal) → layout s ≡ Err y → Fault (λ t. layout t ≡ Err y) WellLaid 1 s y
unfolding layout
layout-fault s y e =
    stopped (source_table s) _ y e
    (λ c. wider 1 s (source-fault s y c) (λ t h. rw h))
    (λ v c d.
    let x : Row = v.0 in
    let u : List ℕ = bytes source_names ++ (row_text x ++ bytes "\n") in
    let f = source-read s x v.1 c in
    let k = source_lines x f.writable in
    behind u k.0 1 4 (omega (arith, k.1)) s (drop v.1 s) f.stand (stopped (branch_table (drop v.1 s)) _ y d
    (λ i. wider 4 (drop v.1 s) (branch-fault (λ t. WellLaid (u ++ t)) (drop v.1 s) y i (λ l a. simp append_assoc (laid x f.writable l a [] tt)))
    (λ t h. rw (source-back x f.writable t, drop-append_seam u t, h)))
    (λ z i j.
    let l : List BranchRow = z.0 in
    let w : List ℕ = bytes branch_names ++ (joined branch_text l ++ bytes "\n") in
    let g = branches-read (drop v.1 s) l z.1 i in
    let m = branch-lines l g.writable in
    behind w m.0 4 (length l + 6) (omega (arith, m.1)) (drop v.1 s) (drop z.1 (drop v.1 s)) g.stand (stopped (load_table _ (drop z.1 (drop v.1 s))) _ y j
    (λ h. wider (length l + 6) (drop z.1 (drop v.1 s))
    (load-fault (λ t. WellLaid (u ++ (w ++ t))) (length l + 6) _ (drop z.1 (drop v.1 s)) y h (omega arith) (λ m a. simp append_assoc (laid x f.writable l g.writable m a)))
    (λ t i. rw (source-back x f.writable (w ++ t), drop-append_seam u (w ++ t), branches-back l g.writable t, drop-append_seam w t, i)))
    (λ h i k. not_good _ y k)))))
