-- Line n of a report is the text of the row that stands in line n (ReportFaults). Assumes nothing.
use Rattle.std.specs.Prelude.{not, true, List, [], ◌∷◌, map, ◌≡◌, refl, ◌+◌, suc, zero, ℕ, ℤ, drop, length, take, Ok}
use Rattle.std.proofs.Common.{◌∙◌, ap, subst, arith}
use Prim.Native.String.{String}
use Rattle.answers.specs.AnswerLaws.{bound, not-if, same_good}
use Rattle.answers.specs.declared.Refusal.TheVariants.{ReportLayout}
use Rattle.feeder.specs.Faults.{Stands}
use Rattle.feeder.specs.Feeder.{Feeder, regulators, row_count}
use Rattle.feeder.specs.File.{line_at, line_feeds}
use Rattle.feeder.specs.FirstLines.{Ended, OneLine, one_line}
use Rattle.feeder.specs.Layout.{file_end}
use Rattle.feeder.specs.RowLine.{empty-line, lines-many, row_line, table-lines}
use Rattle.feeder.proofs.LineOfRow.{LineIs, before-lines, behind-lines, line-is, row-line-is}
use Rattle.integers.specs.Lists.{All}
use Rattle.report.specs.Report.{Reported, branch_header, node_header, report_of, reported_text, rows_just, table_of, table_text, tap_header, tap_table, totals_header, totals_row}
use Rattle.report.proofs.ReportRead.{numbers-row, report-is}
use Rattle.report.proofs.ReportRows.{TapsRead, report-parts, taps-read}
use Rattle.verdicts.specs.ReportFaults.{InReportLine, ReportRow, of_branches, of_nodes, of_taps, report_written_as}
use Rattle.text.specs.Lines.{Row, row, row_text, text}
use Rattle.text.specs.RowText.{row-read}
use Rattle.text.specs.Text.{bytes, decimal, joined, line, Placed}

-- ---- the rows that are read are lines
abbrev Line : Row → Type 0
Line y = OneLine (row_text y)

rows-are-lines : (k m n : ℕ) (s : List ℕ) (at : ℕ) (l : List Row) (p : ℕ) → rows_just k m (suc n) s at ≡ Ok (l, p) → All Line l
unfolding rows_just
rows-are-lines zero m n s at l p e = subst (λ (y : Placed (List Row)). All Line y.0) (same_good ([], at) (l, p) e) tt
rows-are-lines (suc k) m n s at l p e =
    let a = bound (row ReportLayout m (suc n) s at) _ (l, p) e in
    let b = bound (rows_just k m (suc n) s a.value.1) _ (l, p) a.rest in
    let x : Row = a.value.0 in
    let first = row_line m (suc n) x (row-read ReportLayout m n s at x a.value.1 a.came).readable in
    subst (λ (y : Placed (List Row)). All Line y.0) (same_good (x ∷ b.value.0, b.value.1) (l, p) b.rest)
    (first, rows-are-lines k m n s a.value.1 b.value.0 b.value.1 b.came)

table-is-lines : (header : String) (k m n : ℕ) (s : List ℕ) (l : List Row) (p : ℕ) → table_of header k m (suc n) s ≡ Ok (l, p) → All Line l
unfolding table_of
table-is-lines header k m n s l p e =
    let a = bound (text ReportLayout header s 0) _ (l, p) e in
    let b = bound (rows_just k m (suc n) s a.value) _ (l, p) a.rest in
    let c = bound (text ReportLayout "\n" s b.value.1) _ (l, p) b.rest in
    subst (λ (y : Placed (List Row)). All Line y.0) (same_good (b.value.0, c.value) (l, p) c.rest)
    (rows-are-lines k m n s a.value b.value.0 b.value.1 b.came)

tap-table-is-lines : (k : ℕ) (s : List ℕ) (l : List Row) → tap_table k s ≡ Ok l → All Line l
unfolding tap_table
tap-table-is-lines k s l e =
    let a = bound (text ReportLayout tap_header s 0) _ l e in
    let b = bound (rows_just k 1 3 s a.value) _ l a.rest in
    let c = not-if (not (file_end s b.value.1)) ReportLayout (Ok b.value.0) l b.rest in
    subst (λ (y : List Row). All Line y) (same_good b.value.0 l c.1) (rows-are-lines k 1 2 s a.value b.value.0 b.value.1 b.came)

-- ---- the tables' names
node-names : OneLine (bytes node_header)
unfolding bytes line_feeds
node-names = one_line (take 40 (bytes node_header)) refl

branch-names : OneLine (bytes branch_header)
unfolding bytes line_feeds
branch-names = one_line (take 57 (bytes branch_header)) refl

-- a row of a table with its names before it, and the lines of such a table
table-line : {l : List Row} {k : ℕ} {y : Row} (header : String) → OneLine (bytes header) → All Line l → Stands l k y
    → LineIs (table_text row_text header l) (suc k) (row_text y)
table-line {k = k} header one a h =
    let e : suc k ≡ line_feeds (bytes header) + k = omega (arith, one.one) in
    rw e (behind-lines (bytes header) one.ended (before-lines (bytes "\n") (row-line-is row_text a h)))

rows-lines : (header : String) (l : List Row) → OneLine (bytes header) → All Line l → Ended (table_text row_text header l) × (line_feeds (table_text row_text header l) ≡ length l + 2)
rows-lines header l one a =
    let k = lines-many row_text l a in
    let w = table-lines (bytes header) (joined row_text l) one k.0 in
    (w.0, omega (arith, w.1, k.1))

-- the totals: their names, and their row
totals-names : OneLine (bytes totals_header)
unfolding bytes line_feeds
totals-names = one_line (take 54 (bytes totals_header)) refl

tap-names : OneLine (bytes tap_header)
unfolding bytes line_feeds
tap-names = one_line (take 20 (bytes tap_header)) refl

-- what is known of the lines of a report that is read
record Lined (x : Reported) : Type 0 where
  nodes : All Line x.nodes
  branches : All Line x.branches
  totals : OneLine (line (map decimal x.totals))
  taps : x.filed ≡ true → All Line x.taps

report-line : (x : Reported) → Lined x → (y : ReportRow) (n : ℕ) → InReportLine x y n → LineIs (reported_text x) n (report_written_as y)
unfolding reported_text
report-line x a (of_nodes k y) n h = let e : n ≡ suc (suc k) = omega (arith, h.1) in rw e (before-lines _ (table-line node_header node-names a.nodes h.0))
report-line x a (of_branches k y) n h =
    let w = rows-lines node_header x.nodes node-names a.nodes in
    let e : n ≡ line_feeds (table_text row_text node_header x.nodes) + suc k = omega (arith, h.1, w.1) in
    rw e (behind-lines (table_text row_text node_header x.nodes) w.0 (before-lines _ (table-line branch_header branch-names a.branches h.0)))
report-line x a (of_taps k y) n h =
    let w = rows-lines node_header x.nodes node-names a.nodes in
    let v = rows-lines branch_header x.branches branch-names a.branches in
    let t : List ℕ = line (map decimal x.totals) in
    let l = a.taps h.0 in
    let e : n ≡ line_feeds (table_text row_text node_header x.nodes) + (line_feeds (table_text row_text branch_header x.branches) + (line_feeds (bytes totals_header) + (line_feeds t + (line_feeds (bytes "\n") + (line_feeds (bytes tap_header) + k)))))
    = omega (arith, h.1.1, w.1, v.1, totals-names.one, a.totals.one, empty-line.one, tap-names.one) in
    rw (e, h.0) (behind-lines (table_text row_text node_header x.nodes) w.0 (behind-lines (table_text row_text branch_header x.branches) v.0
    (behind-lines (bytes totals_header) totals-names.ended (behind-lines t a.totals.ended (behind-lines (bytes "\n") empty-line.ended (behind-lines (bytes tap_header) tap-names.ended
    (row-line-is row_text l h.1.0)))))))

report-lined : (f : Feeder) (t : List ℕ) (x : Reported) → report_of f t ≡ Ok x → Lined x
unfolding totals_row
report-lined f t x e =
    let w = report-parts f t x e in
    let last : List ℕ = drop w.behind-branches (drop w.behind-nodes t) in
    let a = bound (text ReportLayout totals_header last 0) _ (w.totals-row, w.behind-totals) w.totals in
    let r = row-read ReportLayout 0 6 last a.value w.totals-row w.behind-totals a.rest in
    let u : TapsRead f last w.behind-totals x.filed x.taps = subst (λ c. TapsRead f last w.behind-totals c x.taps) w.filed-is (taps-read f last w.behind-totals x.taps w.taps) in
    record {
      nodes = table-is-lines node_header (suc (row_count f)) 1 5 t x.nodes w.behind-nodes w.nodes;
      branches = table-is-lines branch_header (row_count f) 2 7 (drop w.behind-nodes t) x.branches w.behind-branches w.branches;
      totals = subst OneLine (numbers-row 7 w.totals-row r.readable ∙ ap (λ (z : List ℤ). line (map decimal z)) w.totals-are) (row_line 0 7 w.totals-row r.readable);
      taps = λ z. tap-table-is-lines (length (regulators f)) (drop (u.table z).0 last) x.taps (u.table z).1.1;
    }

-- "Lines count from 1, empty ones too"
pub line-of-report-row : (f : Feeder) (t : List ℕ) (x : Reported) → report_of f t ≡ Ok x → (y : ReportRow) (n : ℕ) → InReportLine x y n → line_at n t ≡ report_written_as y
line-of-report-row f t x e y n h = ap (line_at n) (report-is f t x e) ∙ line-is (report-line x (report-lined f t x e) y n h)
