-- A report that is read is the one text that its names and numbers are written as. Assumes nothing.
use Rattle.std.specs.Prelude.{Bool, false, not, true, List, [], ◌++◌, ◌∷◌, map, ◌≡◌, refl, suc, zero, ℕ, drop, length, Ok}
use Rattle.std.proofs.Common.{append_assoc, append-nil, ◌∙◌, ap, subst, sym, arith, length-drop, eqb-true}
use Prim.Native.String.{String}
use Rattle.answers.specs.AnswerLaws.{bound, not-if, same_good}
use Rattle.answers.specs.declared.Refusal.TheVariants.{ReportLayout}
use Rattle.feeder.specs.Feeder.{Feeder, regulators, row_count}
use Rattle.feeder.specs.Layout.{file_end}
use Rattle.report.specs.Report.{Reported, branch_header, filed_text, node_header, report_of, reported_text, rows_just, table_of, table_text, tap_header, tap_rows, tap_table, totals_header, totals_row}
use Rattle.report.proofs.ReportRows.{TapsRead, report-parts, taps-read}
use Rattle.text.specs.Lines.{Readable, Row, row, row_text, text}
use Rattle.text.specs.RowText.{row-read, text-read}
use Rattle.text.specs.Text.{bytes, decimal, joined, line, Placed}

-- a table, and the last one, as they stand in the text
rows-read : (k m n : ℕ) (s : List ℕ) (at : ℕ) (l : List Row) (p : ℕ) → rows_just k m (suc n) s at ≡ Ok (l, p) → drop at s ≡ joined row_text l ++ drop p s
unfolding rows_just joined
rows-read zero m n s at l p e = subst (λ (y : Placed (List Row)). drop at s ≡ joined row_text y.0 ++ drop y.1 s) (same_good ([], at) (l, p) e) refl
rows-read (suc k) m n s at l p e =
    let a = bound (row ReportLayout m (suc n) s at) _ (l, p) e in
    let x : Row = a.value.0 in
    let b = bound (rows_just k m (suc n) s a.value.1) _ (l, p) a.rest in
    let xs : List Row = b.value.0 in
    let t : drop at s ≡ (row_text x ++ joined row_text xs) ++ drop b.value.1 s
    = (row-read ReportLayout m n s at x a.value.1 a.came).stand
    ∙ ap (λ (y : List ℕ). row_text x ++ y) (rows-read k m n s a.value.1 xs b.value.1 b.came)
    ∙ sym (append_assoc (row_text x) (joined row_text xs) (drop b.value.1 s)) in
    subst (λ (y : Placed (List Row)). drop at s ≡ joined row_text y.0 ++ drop y.1 s) (same_good (x ∷ xs, b.value.1) (l, p) b.rest) t

table-read : (header : String) (k m n : ℕ) (s : List ℕ) (l : List Row) (p : ℕ) → table_of header k m (suc n) s ≡ Ok (l, p) → s ≡ table_text row_text header l ++ drop p s
unfolding table_of
table-read header k m n s l p e =
    let a = bound (text ReportLayout header s 0) _ (l, p) e in
    let b = bound (rows_just k m (suc n) s a.value) _ (l, p) a.rest in
    let y : List Row = b.value.0 in
    let c = bound (text ReportLayout "\n" s b.value.1) _ (l, p) b.rest in
    let t : s ≡ bytes header ++ (joined row_text y ++ (bytes "\n" ++ drop c.value s))
    = text-read ReportLayout header s 0 a.value a.came
    ∙ ap (λ (z : List ℕ). bytes header ++ z) (rows-read k m n s a.value y b.value.1 b.came
    ∙ ap (λ (z : List ℕ). joined row_text y ++ z) (text-read ReportLayout "\n" s b.value.1 c.value c.came)) in
    subst (λ (z : Placed (List Row)). s ≡ table_text row_text header z.0 ++ drop z.1 s) (same_good (y, c.value) (l, p) c.rest) (t ∙ simp append_assoc)

-- an empty list, and nothing behind a place
none : {X : Type 0} (l : List X) → length l ≡ 0 → l ≡ []
none [] e = refl
none (x ∷ l) e = absurd (omega arith)

ended : (s : List ℕ) (p : ℕ) → not (file_end s p) ≡ false → drop p s ≡ []
ended s p e = let q = eqb-true p (length s) (not-no (file_end s p) e) in none (drop p s) (simp length-drop (omega arith))
  where
    not-no : (c : Bool) → not c ≡ false → c ≡ true
    not-no true e = refl
    not-no false e = sym e

-- a row of numbers alone
pub numbers-row : (n : ℕ) (x : Row) → Readable 0 n x → row_text x ≡ line (map decimal x.values)
unfolding row_text
numbers-row n x h = let w : x.words ≡ [] = none x.words h.words_are in (λ i. row_text (record { words = w i; values = x.values }))

-- the totals, and what stands behind them
totals-read : (s : List ℕ) (x : Row) (q : ℕ) → totals_row s ≡ Ok (x, q) → s ≡ bytes totals_header ++ (line (map decimal x.values) ++ drop q s)
unfolding totals_row
totals-read s x q e =
    let a = bound (text ReportLayout totals_header s 0) _ (x, q) e in
    let h = row-read ReportLayout 0 6 s a.value x q a.rest in
    text-read ReportLayout totals_header s 0 a.value a.came
    ∙ ap (λ (z : List ℕ). bytes totals_header ++ z) (h.stand ∙ ap (λ (z : List ℕ). z ++ drop q s) (numbers-row 7 x h.readable))

-- the last table, with nothing behind it
tap-table-read : (k : ℕ) (s : List ℕ) (l : List Row) → tap_table k s ≡ Ok l → s ≡ bytes tap_header ++ joined row_text l
unfolding tap_table
tap-table-read k s l e =
    let a = bound (text ReportLayout tap_header s 0) _ l e in
    let b = bound (rows_just k 1 3 s a.value) _ l a.rest in
    let y : List Row = b.value.0 in
    let c = not-if (not (file_end s b.value.1)) ReportLayout (Ok y) l b.rest in
    let t : s ≡ bytes tap_header ++ joined row_text y
    = text-read ReportLayout tap_header s 0 a.value a.came
    ∙ ap (λ (z : List ℕ). bytes tap_header ++ z) (rows-read k 1 2 s a.value y b.value.1 b.came ∙ ap (λ (z : List ℕ). joined row_text y ++ z) (ended s b.value.1 c.0) ∙ append-nil (joined row_text y)) in
    subst (λ (z : List Row). s ≡ bytes tap_header ++ joined row_text z) (same_good y l c.1) t

-- what stands behind the totals
last-read : (f : Feeder) (s : List ℕ) (at : ℕ) (l : List Row) → tap_rows f s at ≡ Ok l → drop at s ≡ filed_text (not (file_end s at)) l
last-read f s at l e = go (not (file_end s at)) refl (taps-read f s at l e)
  where
    go : (c : Bool) → not (file_end s at) ≡ c → TapsRead f s at (not (file_end s at)) l → drop at s ≡ filed_text c l
    go true z w =
        let t = w.table z in
        text-read ReportLayout "\n" s at t.0 t.1.0 ∙ ap (λ (y : List ℕ). bytes "\n" ++ y) (tap-table-read (length (regulators f)) (drop t.0 s) l t.1.1)
    go false z w = ended s at z

-- a report that is read is just the text of its names and numbers: no other text is read as these
pub report-is : (f : Feeder) (s : List ℕ) (r : Reported) → report_of f s ≡ Ok r → s ≡ reported_text r
unfolding reported_text
report-is f s r e =
    let w = report-parts f s r e in
    let t : List ℕ = drop w.behind-nodes s in
    let u : List ℕ = drop w.behind-branches t in
    let last : drop w.behind-totals u ≡ filed_text r.filed r.taps = last-read f u w.behind-totals r.taps w.taps ∙ ap (λ c. filed_text c r.taps) w.filed-is in
    table-read node_header (suc (row_count f)) 1 5 s r.nodes w.behind-nodes w.nodes
    ∙ ap (λ (z : List ℕ). table_text row_text node_header r.nodes ++ z) (table-read branch_header (row_count f) 2 7 t r.branches w.behind-branches w.branches
    ∙ ap (λ (z : List ℕ). table_text row_text branch_header r.branches ++ z) (totals-read u w.totals-row w.behind-totals w.totals
    ∙ (λ i. bytes totals_header ++ (line (map decimal (w.totals-are i)) ++ last i))))

-- two reports with the same names and numbers are the same bytes, also where they are read for two feeders
pub same-report : (f g : Feeder) (s t : List ℕ) (r : Reported) → report_of f s ≡ Ok r → report_of g t ≡ Ok r → s ≡ t
same-report f g s t r a b = report-is f s r a ∙ sym (report-is g t r b)

-- and so are two whose rows of nodes, rows of branches, totals and rows of taps agree one by one, both with the last table or both without
pub same_tables : (f g : Feeder) (s t : List ℕ) (r q : Reported) → report_of f s ≡ Ok r → report_of g t ≡ Ok q
    → r.nodes ≡ q.nodes → r.branches ≡ q.branches → r.totals ≡ q.totals → r.filed ≡ q.filed → r.taps ≡ q.taps → s ≡ t
same_tables f g s t r q a b n l m c u = report-is f s r a ∙ (λ i. reported_text (record { nodes = n i; branches = l i; totals = m i; filed = c i; taps = u i })) ∙ sym (report-is g t q b)
