-- A report that is read has as many rows as its feeder has nodes, branches and regulators; one that is not read is refused by 50 and by nothing else. Assumes nothing.
use Rattle.std.specs.Prelude.{Bool, cond, false, not, true, List, [], ◌∷◌, map, ◌≡◌, refl, suc, zero, ℕ, pos, drop, length, take, Ok}
use Rattle.std.proofs.Common.{◌∙◌, ap, subst, sym, arith}
use Prim.Native.String.{String}
use Rattle.std.proofs.lemmas.List.{length-map}
use Rattle.answers.specs.AnswerLaws.{bound, not-if, same_good}
use Rattle.answers.specs.Answers.{Outcome, ◌>>=◌, ◌>>◌, refuse_if}
use Rattle.answers.specs.Only.{Only, after-only, good-only, if-only, then-only}
use Rattle.answers.specs.declared.Refusal.{Refusal}
use Rattle.answers.specs.declared.Refusal.TheVariants.{ReportLayout}
use Rattle.feeder.specs.Feeder.{Feeder, between, branch_at, level_of, regulators, row_count, rows_of}
use Rattle.feeder.specs.Layout.{file_end}
use Rattle.integers.specs.Bools.{clash}
use Rattle.integers.specs.Lists.{all, any}
use Rattle.integers.specs.Pairs.{inside}
use Rattle.report.specs.Report.{Reported, branch_header, node_header, report_of, rows_just, table_of, tap_header, tap_row, tap_rows, tap_table, taps_fit, taps_given, totals_header, totals_row, unfiled_taps}
use Rattle.text.specs.Text.{Placed}
use Rattle.text.specs.Lines.{Row, nth, row, text}
use Rattle.text.specs.RowRefused.{row-only, text-only}

-- ---- the rows are as many as the feeder's
pub record RowsMatch (f : Feeder) (r : Reported) : Type 0 where
  pub nodes : length r.nodes ≡ suc (row_count f)
  pub branches : length r.branches ≡ row_count f
  pub taps : length r.taps ≡ length (regulators f)
  pub own : r.filed ≡ false → (any (λ k. not (inside 0 (level_of (branch_at f k).device))) (rows_of f) ≡ false) × (r.taps ≡ map (tap_row f) (regulators f))

length-is : (x : Placed (List Row)) (l : List Row) (p : ℕ) → ◌≡◌ {A = Outcome (Placed (List Row))} (Ok x) (Ok (l, p)) → length x.0 ≡ length l
length-is x l p e = ap (λ (y : Placed (List Row)). length y.0) (same_good x (l, p) e)

rows-count : (k m n : ℕ) (s : List ℕ) (at : ℕ) (l : List Row) (p : ℕ) → rows_just k m n s at ≡ Ok (l, p) → length l ≡ k
unfolding rows_just
rows-count zero m n s at l p e = omega (arith, length-is ([], at) l p e)
rows-count (suc k) m n s at l p e =
    let a = bound (row ReportLayout m n s at) _ (l, p) e in
    let b = bound (rows_just k m n s a.value.1) _ (l, p) a.rest in
    omega (arith, length-is (a.value.0 ∷ b.value.0, b.value.1) l p b.rest, rows-count k m n s a.value.1 b.value.0 b.value.1 b.came)

table-count : (header : String) (k m n : ℕ) (s : List ℕ) (l : List Row) (p : ℕ) → table_of header k m n s ≡ Ok (l, p) → length l ≡ k
unfolding table_of
table-count header k m n s l p e =
    let a = bound (text ReportLayout header s 0) _ (l, p) e in
    let b = bound (rows_just k m n s a.value) _ (l, p) a.rest in
    let c = bound (text ReportLayout "\n" s b.value.1) _ (l, p) b.rest in
    omega (arith, length-is (b.value.0, c.value) l p c.rest, rows-count k m n s a.value b.value.0 b.value.1 b.came)

tap-table-count : (k : ℕ) (s : List ℕ) (l : List Row) → tap_table k s ≡ Ok l → length l ≡ k
unfolding tap_table
tap-table-count k s l e =
    let a = bound (text ReportLayout tap_header s 0) _ l e in
    let b = bound (rows_just k 1 3 s a.value) _ l a.rest in
    let c = not-if (not (file_end s b.value.1)) ReportLayout _ l b.rest in
    let z : length b.value.0 ≡ length l = ap length (same_good b.value.0 l c.1) in
    omega (arith, rows-count k 1 3 s a.value b.value.0 b.value.1 b.came)

-- the tests behind the tables: "voltage or current beyond ±2,000,000, sweeps outside 1 to the limit"; 02: "a tap beyond ±16 or on an absent phase"
abbrev pub nodes_beyond : List Row → Bool
nodes_beyond l = not (all (λ r. all (inside 2000000) r.values) l)

abbrev pub branches_beyond : List Row → Bool
branches_beyond l = not (all (λ r. all (inside 2000000) (take 6 r.values)) l)

abbrev pub sweeps_outside : Feeder → Row → Bool
sweeps_outside f t = not (between (pos 1) (pos f.limit) (nth t.values 1))

abbrev pub taps_outside : Feeder → List Row → Bool
taps_outside f l = not (all (λ k. taps_fit (branch_at f k).phases (taps_given f l k)) (regulators f))

-- what a report that is read was read from
pub record ReportParts (f : Feeder) (s : List ℕ) (r : Reported) : Type 0 where
  pub behind-nodes : ℕ
  pub behind-branches : ℕ
  pub behind-totals : ℕ
  pub totals-row : Row
  pub nodes : table_of node_header (suc (row_count f)) 1 6 s ≡ Ok (r.nodes, behind-nodes)
  pub branches : table_of branch_header (row_count f) 2 8 (drop behind-nodes s) ≡ Ok (r.branches, behind-branches)
  pub totals : totals_row (drop behind-branches (drop behind-nodes s)) ≡ Ok (totals-row, behind-totals)
  pub totals-are : totals-row.values ≡ r.totals
  pub taps : tap_rows f (drop behind-branches (drop behind-nodes s)) behind-totals ≡ Ok r.taps
  pub filed-is : not (file_end (drop behind-branches (drop behind-nodes s)) behind-totals) ≡ r.filed
  pub taps-in : taps_outside f r.taps ≡ false

pub report-parts : (f : Feeder) (s : List ℕ) (r : Reported) → report_of f s ≡ Ok r → ReportParts f s r
unfolding report_of
report-parts f s r e =
    let a = bound (table_of node_header (suc (row_count f)) 1 6 s) _ r e in
    let rest : List ℕ = drop a.value.1 s in
    let b = bound (table_of branch_header (row_count f) 2 8 rest) _ r a.rest in
    let last : List ℕ = drop b.value.1 rest in
    let c = bound (totals_row last) _ r b.rest in
    let d = bound (tap_rows f last c.value.1) _ r c.rest in
    let h = not-if (nodes_beyond a.value.0) ReportLayout _ r d.rest in
    let k = not-if (branches_beyond b.value.0) ReportLayout _ r h.1 in
    let l = not-if (sweeps_outside f c.value.0) ReportLayout _ r k.1 in
    let m = not-if (taps_outside f d.value) ReportLayout _ r l.1 in
    let made : record { nodes = a.value.0; branches = b.value.0; totals = c.value.0.values; filed = not (file_end last c.value.1); taps = d.value } ≡ r = same_good _ r m.1 in
    record {
      behind-nodes = a.value.1;
      behind-branches = b.value.1;
      behind-totals = c.value.1;
      totals-row = c.value.0;
      nodes = a.came ∙ ap (λ (y : Reported). Ok (y.nodes, a.value.1)) made;
      branches = b.came ∙ ap (λ (y : Reported). Ok (y.branches, b.value.1)) made;
      totals = c.came;
      totals-are = ap (λ (y : Reported). y.totals) made;
      taps = d.came ∙ ap (λ (y : Reported). Ok y.taps) made;
      filed-is = ap (λ (y : Reported). y.filed) made;
      taps-in = subst (λ (y : Reported). taps_outside f y.taps ≡ false) made m.0;
    }

-- the rows of the last table: read, where it is there, or the feeder's own where no level is above 0
pub record TapsRead (f : Feeder) (s : List ℕ) (at : ℕ) (filed : Bool) (l : List Row) : Type 0 where
  pub table : filed ≡ true → (p : ℕ) × ((text ReportLayout "\n" s at ≡ Ok p) × (tap_table (length (regulators f)) (drop p s) ≡ Ok l))
  pub own : filed ≡ false → (any (λ k. not (inside 0 (level_of (branch_at f k).device))) (rows_of f) ≡ false) × (l ≡ map (tap_row f) (regulators f))

pub taps-read : (f : Feeder) (s : List ℕ) (at : ℕ) (l : List Row) → tap_rows f s at ≡ Ok l → TapsRead f s at (not (file_end s at)) l
unfolding tap_rows unfiled_taps
taps-read f s at l e = go (file_end s at) refl e
  where
    go : (c : Bool) → file_end s at ≡ c → cond c (unfiled_taps f) (text ReportLayout "\n" s at >>= λ p. tap_table (length (regulators f)) (drop p s)) ≡ Ok l → TapsRead f s at (not c) l
    go true z h = record {
      table = λ n. clash true refl (sym n);
      own = λ n. let w = not-if (any (λ k. not (inside 0 (level_of (branch_at f k).device))) (rows_of f)) ReportLayout (Ok (map (tap_row f) (regulators f))) l h in (w.0, sym (same_good _ l w.1));
    }
    go false z h = record {
      table = λ n. let w = bound (text ReportLayout "\n" s at) (λ p. tap_table (length (regulators f)) (drop p s)) l h in (w.value, (w.came, w.rest));
      own = λ n. clash true refl n;
    }

pub rows-match : (f : Feeder) (s : List ℕ) (r : Reported) → report_of f s ≡ Ok r → RowsMatch f r
rows-match f s r e =
    let w = report-parts f s r e in
    let last : List ℕ = drop w.behind-branches (drop w.behind-nodes s) in
    let t : TapsRead f last w.behind-totals r.filed r.taps = subst (λ c. TapsRead f last w.behind-totals c r.taps) w.filed-is (taps-read f last w.behind-totals r.taps w.taps) in
    record {
      nodes = table-count node_header (suc (row_count f)) 1 6 s r.nodes w.behind-nodes w.nodes;
      branches = table-count branch_header (row_count f) 2 8 (drop w.behind-nodes s) r.branches w.behind-branches w.branches;
      taps = by r.filed refl t;
      own = t.own;
    }
  where
    by : {l : List ℕ} {p : ℕ} (c : Bool) → r.filed ≡ c → TapsRead f l p r.filed r.taps → length r.taps ≡ length (regulators f)
    by true z t = tap-table-count _ _ _ (t.table z).1.1
    by false z t = ap length (t.own z).1 ∙ length-map (regulators f) (tap_row f)

-- ---- 50 is the one refusal of a report that is not read
abbrev Is50 : Refusal → Type 0
Is50 y = y ≡ ReportLayout

rows-only : (k m n : ℕ) (s : List ℕ) (at : ℕ) → Only Is50 (rows_just k m n s at)
unfolding rows_just
rows-only zero m n s at = good-only ([], at)
rows-only (suc k) m n s at = then-only (row ReportLayout m n s at) _ (row-only ReportLayout refl m n s at)
    (λ a e. then-only (rows_just k m n s a.1) _ (rows-only k m n s a.1) (λ b f. good-only _))

table-only : (header : String) (k m n : ℕ) (s : List ℕ) → Only Is50 (table_of header k m n s)
unfolding table_of
table-only header k m n s = then-only (text ReportLayout header s 0) _ (text-only ReportLayout refl header s 0)
    (λ p e. then-only (rows_just k m n s p) _ (rows-only k m n s p)
    (λ a f. then-only (text ReportLayout "\n" s a.1) _ (text-only ReportLayout refl "\n" s a.1) (λ q g. good-only _)))

test-only : {X : Type 0} (c : Bool) (o : Outcome X) → Only Is50 o → Only Is50 (refuse_if c ReportLayout >> o)
test-only c o = after-only (refuse_if c ReportLayout) o (if-only c ReportLayout refl)

totals-only : (s : List ℕ) → Only Is50 (totals_row s)
unfolding totals_row
totals-only s = then-only (text ReportLayout totals_header s 0) _ (text-only ReportLayout refl totals_header s 0) (λ p e. row-only ReportLayout refl 0 7 s p)

tap-table-only : (k : ℕ) (s : List ℕ) → Only Is50 (tap_table k s)
unfolding tap_table
tap-table-only k s = then-only (text ReportLayout tap_header s 0) _ (text-only ReportLayout refl tap_header s 0)
    (λ p e. then-only (rows_just k 1 3 s p) _ (rows-only k 1 3 s p) (λ a f. test-only (not (file_end s a.1)) _ (good-only a.0)))

taps-only : (f : Feeder) (s : List ℕ) (at : ℕ) → Only Is50 (tap_rows f s at)
unfolding tap_rows unfiled_taps
taps-only f s at = go (file_end s at)
  where
    go : (c : Bool) → Only Is50 (cond c (unfiled_taps f) (text ReportLayout "\n" s at >>= λ p. tap_table (length (regulators f)) (drop p s)))
    go true = test-only (any (λ k. not (inside 0 (level_of (branch_at f k).device))) (rows_of f)) _ (good-only _)
    go false = then-only (text ReportLayout "\n" s at) _ (text-only ReportLayout refl "\n" s at) (λ p e. tap-table-only (length (regulators f)) (drop p s))

pub only-50 : (f : Feeder) (s : List ℕ) → Only Is50 (report_of f s)
unfolding report_of
only-50 f s = then-only (table_of node_header (suc (row_count f)) 1 6 s) _ (table-only node_header (suc (row_count f)) 1 6 s)
    (λ a e. then-only (table_of branch_header (row_count f) 2 8 (drop a.1 s)) _ (table-only branch_header (row_count f) 2 8 (drop a.1 s))
    (λ b g. then-only (totals_row (drop b.1 (drop a.1 s))) _ (totals-only (drop b.1 (drop a.1 s)))
    (λ c h. then-only (tap_rows f (drop b.1 (drop a.1 s)) c.1) _ (taps-only f (drop b.1 (drop a.1 s)) c.1)
    (λ d k. test-only (nodes_beyond a.0) _ (test-only (branches_beyond b.0) _ (test-only (sweeps_outside f c.0) _ (test-only (taps_outside f d) _ (good-only _))))))))
