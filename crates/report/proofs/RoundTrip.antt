-- The report's text is read back as the rows that were written, it is not too long, and its rows hold the names, voltages, currents, losses and totals. Assumes nothing.
use Rattle.std.specs.Prelude.{Bool, cond, false, ◌≡◌, nat_abs, pos, ℤ, get_or, take, Ok}
use Rattle.std.proofs.Math.Bool.{true}
use mathlib.Core.List.{List, [], ◌++◌, ◌∷◌, append_assoc, append-nil, map}
use Rattle.std.proofs.Common.{◌∙◌, length-drop}
use Rattle.std.proofs.Math.Path.{ap, refl, sym}
use Prim.Native.String.{String}
use Prim.Native.Nat.{◌*◌, ◌+◌, ◌<◌, ◌≤◌, suc, zero, ℕ}
use native.Mathlib.Omega.{arith}
use Rattle.std.proofs.Math.Dec.{eqb}
use Rattle.std.proofs.Math.ListN.{drop, length, length-append, length-map}
use Rattle.std.proofs.Math.Seq.{drop-append_seam, ext_get_or}
use borrow.Author.Tests.{eq-eqb, le-leb, le-ltb, ne_eqb}
use Rattle.answers.specs.declared.Refusal.TheVariants.{ReportLayout}
use Rattle.equations.specs.Equations.{drawn_power, loss_of, lost_power, source_power, zero3}
use Rattle.equations.specs.Sizes.{Within3}
use Rattle.feeder.specs.Feeder.{Feeder, between, branch_at, has, pair_at, parent, regulates, regulators, row_count, rows_of, tap_at, taps_on, three_at, too_long}
use Rattle.feeder.specs.RowLaws.{true-each}
use Rattle.feeder.proofs.TapLaws.{Retapped, TapsIn, all-chosen, few-regulators, phases-same, regulators-same}
use Rattle.feeder.specs.declared.Phase.{Phase}
use Rattle.feeder.specs.declared.Phase.TheVariants.{A, B, C}
use Rattle.feeder.specs.Phased.{Phases, Taps, Three}
use Rattle.integers.specs.Bools.{joined as and-true}
use Rattle.integers.specs.ListLaws.{all-count, all-image, get_or_map, get_or-tab, length-tab, true-all}
use Rattle.integers.specs.Lists.{All, all, count, tab}
use Rattle.integers.specs.PairLaws.{Within, within_more}
use Rattle.integers.specs.Pairs.{0c, inside}
use Rattle.integers.specs.declared.Pair.{Pair}
use Rattle.report.specs.LinesBack.{WrittenAs, row-short, row-short-by, rows_back, rows_short, table-back}
use Rattle.report.specs.Report.{Reported, branch_header, branch_line, branches_text, name_text, no_row, node_header, node_line, nodes_text, report_of, report_text, reported_currents, reported_drawn, reported_losses, reported_lost, reported_source, reported_voltages, table_of, tap_header, tap_line, tap_row, tap_rows, tap_table, taps_fit, taps_given, taps_text, totals_header, totals_line, totals_row, totals_text, with_reported}
use Rattle.text.specs.Lines.{Readable, Row, nth, row_text}
use Rattle.text.specs.RowText.{past, row_back, text-back}
use Rattle.text.specs.Text.{Proper, Small, bytes, decimal, joined}
use Rattle.report.proofs.ReportTaps.{given-rows, rows-feeder}
use Rattle.text.specs.NumberText.{decimal-short}

-- ---- the rows
abbrev pub values2 : Pair → List ℤ
values2 x = x.re ∷ x.im ∷ []

abbrev pub values3 : Three → List ℤ
values3 x = values2 x.a ++ (values2 x.b ++ values2 x.c)

unfoldable pub row_of_node : Feeder → List Three → ℕ → Row
row_of_node f v k = record { words = get_or f.nodes k 0 ∷ []; values = values3 (get_or v k zero3) }

unfoldable pub row_of_branch : Feeder → List Three → ℕ → Row
row_of_branch f i k = record { words = get_or f.nodes (parent f k) 0 ∷ get_or f.nodes k 0 ∷ []; values = values3 (get_or i k zero3) ++ values2 (loss_of f i k) }

unfoldable pub row_of_totals : Feeder → List Three → List Three → ℕ → Row
row_of_totals f v i k = record { words = []; values = pos k ∷ values2 (source_power f i) ++ (values2 (drawn_power f v) ++ values2 (lost_power f i)) }

unfoldable pub report_rows : Feeder → List Three → List Three → ℕ → Reported
report_rows f v i k = record { nodes = map (row_of_node f v) (0 ∷ rows_of f); branches = map (row_of_branch f i) (rows_of f); totals = (row_of_totals f v i k).values; filed = true; taps = map (tap_row f) (regulators f) }

-- what has to be known of a solution, so that its report can be read: names, voltages, currents and taps within their limits, losses and totals of at most 18 digits
pub record Writable (f : Feeder) (v i : List Three) (k : ℕ) : Type 0 where
  pub names : (j : ℕ) → j < suc (row_count f) → Proper (get_or f.nodes j 0)
  pub parents : (j : ℕ) → j < suc (row_count f) → parent f j < suc (row_count f)
  pub voltages : (j : ℕ) → j < suc (row_count f) → Within3 2000000 (get_or v j zero3)
  pub currents : (j : ℕ) → j < row_count f → Within3 2000000 (get_or i (suc j) zero3)
  pub losses : (j : ℕ) → j < row_count f → Within 999999999999999999 (loss_of f i (suc j))
  pub source : Within 999999999999999999 (source_power f i)
  pub drawn : Within 999999999999999999 (drawn_power f v)
  pub lost : Within 999999999999999999 (lost_power f i)
  pub taps : (j : ℕ) → j < row_count f → TapsIn (branch_at f (suc j)).phases (taps_on (branch_at f (suc j)).device)
  pub first : 1 ≤ k
  pub last : k ≤ f.limit
  pub few-sweeps : f.limit ≤ 100
  pub few-rows : row_count f ≤ 200

-- ---- numbers of a row
all_append : {X : Type 0} (P : X → Type 0) (l m : List X) → All P l → All P m → All P (l ++ m)
all_append P [] m a b = b
all_append P (x ∷ l) m a b = (a.0, all_append P l m a.1 b)

small2 : {x : Pair} → Within 999999999999999999 x → All Small (values2 x)
small2 h = (omega (arith, h.re), (omega (arith, h.im), tt))

small6 : {x y z : Pair} → Within 999999999999999999 x → Within 999999999999999999 y → Within 999999999999999999 z → All Small (values2 x ++ (values2 y ++ values2 z))
small6 {x} {y} {z} a b c = all_append Small (values2 x) (values2 y ++ values2 z) (small2 a) (all_append Small (values2 y) (values2 z) (small2 b) (small2 c))

small3 : {x : Three} → Within3 2000000 x → All Small (values3 x)
small3 {x} h = small6 (within_more h.a tt) (within_more h.b tt) (within_more h.c tt)

inside3 : {x : Three} → Within3 2000000 x → all (inside 2000000) (values3 x) ≡ true
unfolding inside
inside3 {x} h = true-all (inside 2000000) (values3 x)
    (le-leb _ _ h.a.re, (le-leb _ _ h.a.im, (le-leb _ _ h.b.re, (le-leb _ _ h.b.im, (le-leb _ _ h.c.re, (le-leb _ _ h.c.im, tt))))))

module _ (f : Feeder) (v i : List Three) (k : ℕ) (w : Writable f v i k) where
  -- ---- each line
  node-written : (j : ℕ) → j < suc (row_count f) → WrittenAs (node_line f v) (row_of_node f v) 1 6 j
  unfolding node_line name_text row_of_node row_text
  node-written j q = record {
    text = refl;
    readable = record { proper = (w.names j q, tt); small = small3 (w.voltages j q); words_are = refl; values-are = refl; some = omega arith };
  }

  branch-written : (j : ℕ) → j < row_count f → WrittenAs (branch_line f i) (row_of_branch f i) 2 8 (suc j)
  unfolding branch_line name_text row_of_branch row_text
  branch-written j q = record {
    text = refl;
    readable = record {
      proper = (w.names _ (w.parents (suc j) (omega arith)), (w.names (suc j) (omega arith), tt));
      small = all_append Small (values3 (get_or i (suc j) zero3)) (values2 (loss_of f i (suc j))) (small3 (w.currents j q)) (small2 (w.losses j q));
      words_are = refl;
      values-are = refl;
      some = omega arith;
    };
  }

  totals-readable : Readable 0 7 (row_of_totals f v i k)
  unfolding row_of_totals
  totals-readable = record {
    proper = tt;
    small = (omega (arith, w.last, w.few-sweeps), small6 w.source w.drawn w.lost);
    words_are = refl;
    values-are = refl;
    some = omega arith;
  }

  totals-written : totals_line f v i k ≡ row_text (row_of_totals f v i k)
  unfolding totals_line row_of_totals row_text
  totals-written = refl

  tap-written : (j : ℕ) → j < row_count f → WrittenAs (tap_line f) (tap_row f) 1 3 (suc j)
  unfolding tap_line name_text tap_row row_text
  tap-written j q =
      let t = w.taps j q in
      record {
        text = refl;
        readable = record {
          proper = (w.names (suc j) (omega arith), tt);
          small = (omega (arith, t.small A), (omega (arith, t.small B), (omega (arith, t.small C), tt)));
          words_are = refl;
          values-are = refl;
          some = omega arith;
        };
      }

  nodes-written : All (WrittenAs (node_line f v) (row_of_node f v) 1 6) (0 ∷ rows_of f)
  nodes-written = (node-written 0 (omega arith), all-count _ 1 (row_count f) (λ j q. node-written (1 + j) (omega arith)))

  branches-written : All (WrittenAs (branch_line f i) (row_of_branch f i) 2 8) (rows_of f)
  branches-written = all-count _ 1 (row_count f) (λ j q. let z : 1 + j ≡ suc j = omega arith in rw z (branch-written j q))

  taps-written : All (WrittenAs (tap_line f) (tap_row f) 1 3) (regulators f)
  unfolding regulators
  taps-written = all-chosen (WrittenAs (tap_line f) (tap_row f) 1 3) (λ j. regulates (branch_at f j).device) (rows_of f) (all-count _ 1 (row_count f) (λ j q e. let z : 1 + j ≡ suc j = omega arith in rw z (tap-written j q)))

  -- ---- the four tables
  abbrev last : List ℕ
  last = totals_text f v i k ++ taps_text f

  abbrev rest : List ℕ
  rest = branches_text f i ++ last

  nodes-back : table_of node_header (suc (row_count f)) 1 6 (nodes_text f v ++ rest) ≡ Ok (map (row_of_node f v) (0 ∷ rows_of f), length (nodes_text f v))
  unfolding nodes_text count
  nodes-back = rw (length-tab (λ (j : ℕ). j) 1 (row_count f)) at (table-back (node_line f v) (row_of_node f v) 1 6 node_header (0 ∷ rows_of f) nodes-written rest)

  branches-back : table_of branch_header (row_count f) 2 8 rest ≡ Ok (map (row_of_branch f i) (rows_of f), length (branches_text f i))
  unfolding branches_text count
  branches-back = rw (length-tab (λ (j : ℕ). j) 1 (row_count f)) at (table-back (branch_line f i) (row_of_branch f i) 2 8 branch_header (rows_of f) branches-written last)

  abbrev behind : ℕ
  behind = 0 + length (bytes totals_header) + length (row_text (row_of_totals f v i k))

  after-header : drop (0 + length (bytes totals_header)) last ≡ row_text (row_of_totals f v i k) ++ (bytes "\n" ++ taps_text f)
  unfolding totals_text
  after-header = past last 0 (bytes totals_header) (row_text (row_of_totals f v i k) ++ (bytes "\n" ++ taps_text f)) (simp (append_assoc, totals-written))

  after-totals : drop behind last ≡ bytes "\n" ++ taps_text f
  after-totals = past last (0 + length (bytes totals_header)) (row_text (row_of_totals f v i k)) (bytes "\n" ++ taps_text f) after-header

  totals-back : totals_row last ≡ Ok (row_of_totals f v i k, behind)
  unfolding totals_row totals_text
  totals-back =
      let h : String = totals_header in
      simp (text-back ReportLayout h last 0 (totals_line f v i k ++ bytes "\n" ++ taps_text f) (simp append_assoc), row_back ReportLayout 0 7 (row_of_totals f v i k) totals-readable last (0 + length (bytes h)) (bytes "\n" ++ taps_text f) after-header)

  tap-table-back : tap_table (length (regulators f)) (taps_text f) ≡ Ok (map (tap_row f) (regulators f))
  unfolding tap_table taps_text
  tap-table-back =
      let h : String = tap_header in
      let s : List ℕ = bytes h ++ joined (tap_line f) (regulators f) in
      let p : ℕ = 0 + length (bytes h) in
      let d : drop p s ≡ joined (tap_line f) (regulators f) ++ [] = past s 0 (bytes h) (joined (tap_line f) (regulators f)) refl ∙ sym (append-nil (joined (tap_line f) (regulators f))) in
      let n : eqb (p + length (joined (tap_line f) (regulators f))) (length s) ≡ true = eq-eqb (p + length (joined (tap_line f) (regulators f))) (length s) (omega (arith, length-append (bytes h) (joined (tap_line f) (regulators f)))) in
      simp (text-back ReportLayout h s 0 (joined (tap_line f) (regulators f)) refl, rows_back (tap_line f) (tap_row f) 1 3 (regulators f) taps-written s p [] d, n)

  -- ---- the limits of 50
  nodes-in : all (λ r. all (inside 2000000) r.values) (map (row_of_node f v) (0 ∷ rows_of f)) ≡ true
  unfolding row_of_node
  nodes-in = true-all _ _ (all-image (λ r. all (inside 2000000) r.values ≡ true) (row_of_node f v) (0 ∷ rows_of f)
      (inside3 (w.voltages 0 (omega arith)), all-count _ 1 (row_count f) (λ j q. inside3 (w.voltages (1 + j) (omega arith)))))

  branches-in : all (λ r. all (inside 2000000) (take 6 r.values)) (map (row_of_branch f i) (rows_of f)) ≡ true
  unfolding row_of_branch
  branches-in = true-all _ _ (all-image (λ r. all (inside 2000000) (take 6 r.values) ≡ true) (row_of_branch f i) (rows_of f)
      (all-count _ 1 (row_count f) (λ j q. let z : 1 + j ≡ suc j = omega arith in rw z (inside3 (w.currents j q)))))

  sweeps-in : between (pos 1) (pos f.limit) (nth (row_of_totals f v i k).values 1) ≡ true
  unfolding row_of_totals
  sweeps-in = and-true (le-leb 1 k w.first) (le-leb k f.limit w.last)

  -- ---- 9: 201 node lines of at most 63 bytes, 200 branch lines of at most 178, 200 tap lines of at most 21
  number_short : (z : ℤ) → nat_abs z ≤ 2000000 → length (decimal z) ≤ 8
  number_short z h = decimal-short 6 z (omega arith)

  tap-short : (z : ℤ) → nat_abs z ≤ 16 → length (decimal z) ≤ 3
  tap-short z h = decimal-short 1 z (omega arith)

  node-short : (j : ℕ) → j < suc (row_count f) → length (node_line f v j) ≤ 63
  unfolding row_of_node
  node-short j q =
      let e = node-written j q in
      let x = w.voltages j q in
      rw e.text (row-short-by 8 (row_of_node f v j) e.readable (number_short _ x.a.re, (number_short _ x.a.im, (number_short _ x.b.re, (number_short _ x.b.im, (number_short _ x.c.re, (number_short _ x.c.im, tt)))))))

  branch-short : (j : ℕ) → j < row_count f → length (branch_line f i (suc j)) ≤ 178
  branch-short j q = let e = branch-written j q in rw e.text (row-short (row_of_branch f i (suc j)) e.readable)

  tap-line-short : (j : ℕ) → j < row_count f → length (tap_line f (suc j)) ≤ 21
  unfolding tap_row
  tap-line-short j q =
      let e = tap-written j q in
      let t = w.taps j q in
      rw e.text (row-short-by 3 (tap_row f (suc j)) e.readable (tap-short _ (t.small A), (tap-short _ (t.small B), (tap-short _ (t.small C), tt))))

  pub report-short : too_long (report_text f v i k) ≡ false
  unfolding report_text nodes_text branches_text totals_text taps_text bytes count regulators
  report-short =
      let n : length (count 1 (row_count f)) ≡ row_count f = length-tab (λ (j : ℕ). j) 1 (row_count f) in
      let a : length (joined (node_line f v) (0 ∷ rows_of f)) ≤ suc (length (rows_of f)) * 63 = rows_short (node_line f v) 63 (0 ∷ rows_of f)
      (node-short 0 (omega arith), all-count (λ j. length (node_line f v j) ≤ 63) 1 (row_count f) (λ j q. node-short (1 + j) (omega arith))) in
      let b : length (joined (branch_line f i) (rows_of f)) ≤ length (rows_of f) * 178 = rows_short (branch_line f i) 178 (rows_of f)
      (all-count (λ j. length (branch_line f i j) ≤ 178) 1 (row_count f) (λ j q. let z : 1 + j ≡ suc j = omega arith in rw z (branch-short j q))) in
      let c : length (totals_line f v i k) ≤ 140 = rw totals-written (row-short (row_of_totals f v i k) totals-readable) in
      let d : length (joined (tap_line f) (regulators f)) ≤ length (regulators f) * 21 = rows_short (tap_line f) 21 (regulators f)
      (all-chosen (λ j. length (tap_line f j) ≤ 21) (λ j. regulates (branch_at f j).device) (rows_of f) (all-count _ 1 (row_count f) (λ j q e. let z : 1 + j ≡ suc j = omega arith in rw z (tap-line-short j q)))) in
      le-ltb 65536 (length (report_text f v i k)) (simp length-append (omega (arith, w.few-rows, few-regulators f)))

-- ---- the report of f, read by a feeder that f is with other taps
in-fits : {f : Phases} {t : Taps} → TapsIn f t → taps_fit f t ≡ true
unfolding taps_fit inside
in-fits {f} {t} h = true-each _ (λ p. and-true (le-leb _ _ (h.small p)) (go p (has f p) (h.off p)))
  where
    go : (p : Phase) (c : Bool) → (c ≡ false → tap_at t p ≡ pos 0) → cond c true (inside 0 (tap_at t p)) ≡ true
    go p true k = refl
    go p false k = rw (k refl)

one_byte : length (bytes "\n") ≡ 1
unfolding bytes
one_byte = refl

module _ (e f : Feeder) (h : Retapped e f) (v i : List Three) (k : ℕ) (w : Writable f v i k) where
  -- the table of the taps stands, and is read
  there : eqb (behind f v i k w) (length (last f v i k w)) ≡ false
  there = ne_eqb (behind f v i k w) (length (last f v i k w))
      (λ z. omega (arith, length-drop (behind f v i k w) (last f v i k w), ap length (after-totals f v i k w), length-append (bytes "\n") (taps_text f), one_byte))

  taps-back : tap_rows e (last f v i k w) (behind f v i k w) ≡ Ok (map (tap_row f) (regulators f))
  unfolding tap_rows
  taps-back =
      let s : List ℕ = last f v i k w in
      let n : ℕ = behind f v i k w in
      let d : drop n s ≡ bytes "\n" ++ taps_text f = after-totals f v i k w in
      let past-line : drop (n + length (bytes "\n")) s ≡ taps_text f = past s n (bytes "\n") (taps_text f) d in
      simp (there, text-back ReportLayout "\n" s n (taps_text f) d, past-line, ← regulators-same h, tap-table-back f v i k w)

  fits : all (λ j. taps_fit (branch_at e j).phases (taps_given e (map (tap_row f) (regulators f)) j)) (regulators e) ≡ true
  unfolding regulators
  fits = true-all _ _ (all-chosen _ (λ j. regulates (branch_at e j).device) (rows_of e) (all-count _ 1 (row_count e) (λ j q r. let z : 1 + j ≡ suc j = omega arith in rw z (one j q (rw z at r)))))
    where
      one : (j : ℕ) → j < row_count e → regulates (branch_at e (suc j)).device ≡ true → taps_fit (branch_at e (suc j)).phases (taps_given e (map (tap_row f) (regulators f)) (suc j)) ≡ true
      one j q r = let n : j < row_count f = rw h.rows q in rw (given-rows e f h j q r, ← phases-same h (suc j)) (in-fits (w.taps j n))

  -- the feeder with the taps that the report has
  pub reported-feeder : with_reported e (report_rows f v i k) ≡ f
  unfolding report_rows
  reported-feeder = rows-feeder e f h (report_rows f v i k) refl

  pub report-read : report_of e (report_text f v i k) ≡ Ok (report_rows f v i k)
  unfolding report_of report_text report_rows
  report-read =
      let nodes : table_of node_header (suc (row_count e)) 1 6 (nodes_text f v ++ rest f v i k w) ≡ Ok (map (row_of_node f v) (0 ∷ rows_of f), length (nodes_text f v)) = rw (← h.rows) (nodes-back f v i k w) in
      let branches : table_of branch_header (row_count e) 2 8 (rest f v i k w) ≡ Ok (map (row_of_branch f i) (rows_of f), length (branches_text f i)) = rw (← h.rows) (branches-back f v i k w) in
      let sweeps : between (pos 1) (pos e.limit) (nth (row_of_totals f v i k).values 1) ≡ true = rw (← h.limit) (sweeps-in f v i k w) in
      rw (nodes, drop-append_seam (nodes_text f v) (rest f v i k w), branches, drop-append_seam (branches_text f i) (last f v i k w), totals-back f v i k w, taps-back, there, nodes-in f v i k w, branches-in f v i k w, sweeps, fits)

-- ---- what the rows hold
row_at : {X : Type 0} (h : ℕ → X) (k n j : ℕ) (d : X) → j < n → get_or (map h (count k n)) j d ≡ h (k + j)
unfolding count
row_at h k n j d q = get_or_map h (tab (λ i. i) k n) j 0 d (let e = length-tab (λ (i : ℕ). i) k n in omega arith) ∙ ap h (get_or-tab (λ i. i) k n j 0 q)

module _ (f : Feeder) (v i : List Three) (k : ℕ) where
  abbrev r : Reported
  r = report_rows f v i k

  -- the row of a node, and of a branch
  pub node-row : (j : ℕ) (d : Row) → j < suc (row_count f) → get_or r.nodes j d ≡ row_of_node f v j
  unfolding report_rows
  node-row zero d q = refl
  node-row (suc j) d q = let z : 1 + j ≡ suc j = omega arith in rw z at (row_at (row_of_node f v) 1 (row_count f) j d (omega arith))

  pub branch-row : (j : ℕ) (d : Row) → j < row_count f → get_or r.branches j d ≡ row_of_branch f i (suc j)
  unfolding report_rows
  branch-row j d q = let z : 1 + j ≡ suc j = omega arith in rw z at (row_at (row_of_branch f i) 1 (row_count f) j d q)

  pub branch-count : length r.branches ≡ row_count f
  unfolding report_rows count
  branch-count = length-map (rows_of f) (row_of_branch f i) ∙ length-tab (λ (j : ℕ). j) 1 (row_count f)

  node-count : length r.nodes ≡ suc (row_count f)
  unfolding report_rows count
  node-count = length-map (0 ∷ rows_of f) (row_of_node f v) ∙ ap suc (length-tab (λ (j : ℕ). j) 1 (row_count f))

  pub reported-voltages : length v ≡ suc (row_count f) → reported_voltages r ≡ v
  unfolding reported_voltages row_of_node
  reported-voltages e = ext_get_or zero3 (map (λ x. three_at x.values 1) r.nodes) v (length-map r.nodes (λ x. three_at x.values 1) ∙ node-count ∙ sym e)
      (λ j q. let n : j < length r.nodes = rw (length-map r.nodes (λ x. three_at x.values 1)) at q in
      get_or_map (λ x. three_at x.values 1) r.nodes j no_row zero3 n ∙ ap (λ (x : Row). three_at x.values 1) (node-row j no_row (omega (arith, node-count))))

  pub reported-current : (j : ℕ) → j < row_count f → get_or (reported_currents r) (suc j) zero3 ≡ get_or i (suc j) zero3
  unfolding reported_currents row_of_branch
  reported-current j q = get_or_map (λ x. three_at x.values 1) r.branches j no_row zero3 (omega (arith, branch-count)) ∙ ap (λ (x : Row). three_at x.values 1) (branch-row j no_row q)

  pub reported-loss : (j : ℕ) → j < row_count f → get_or (0c ∷ reported_losses r) (suc j) 0c ≡ loss_of f i (suc j)
  unfolding reported_losses row_of_branch
  reported-loss j q = get_or_map (λ x. pair_at x.values 7) r.branches j no_row 0c (omega (arith, branch-count)) ∙ ap (λ (x : Row). pair_at x.values 7) (branch-row j no_row q)

  pub reported-totals : (reported_source r ≡ source_power f i) × ((reported_drawn r ≡ drawn_power f v) × (reported_lost r ≡ lost_power f i))
  unfolding report_rows row_of_totals
  reported-totals = (refl, (refl, refl))
