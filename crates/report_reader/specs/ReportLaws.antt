-- The report from its tables: which are refused, and what the arrays hold of one that is not. Assumes nothing.
use Rattle.std.specs.Prelude.{◌&&◌, Bool, not, [], ◌++◌, ◌∷◌, List, map, ◌≡◌, refl, ◌+◌, ◌≤◌, suc, zero, ℕ, pos, ℤ, drop, get_or, length, replicate, take, Ok, Err}
use Rattle.std.proofs.Math.Bool.{cond, false, true}
use Rattle.std.proofs.Common.{◌∙◌, subst, sym, arith, length-append}
use Rattle.std.proofs.Math.Path.{ap}
use Rattle.std.proofs.lemmas.List.{length-map}
use Rattle.answers.specs.AnswerLaws.{not_good, not-refused, same_good, same-refused}
use Rattle.answers.specs.Answers.{◌>>=◌, ◌>>◌, Outcome, refuse_if}
use Rattle.answers.specs.declared.Refusal.{Refusal}
use Rattle.answers.specs.declared.Refusal.TheVariants.{ReportLayout}
use Rattle.integers.specs.Bools.{both, clash}
use Rattle.integers.specs.ListLaws.{all-image, all_map, all_true}
use Rattle.integers.specs.Lists.{all, All, tab}
use Rattle.integers.specs.Pairs.{inside}
use Rattle.integers.specs.declared.Pair.{Pair}
use Rattle.text.specs.Text.{Placed}
use Rattle.text.specs.Lines.{Row, nth}
use Rattle.feeder.specs.Feeder.{Feeder, between, no_taps, row_count, three_at}
use Rattle.feeder.specs.Layout.{file_end}
use Rattle.feeder.specs.Network.{kept}
use Rattle.feeder.specs.NetworkLaws.{get_or_kept}
use Rattle.feeder.specs.Phased.{Taps, Three}
use Rattle.equations.specs.Equations.{zero3}
use Rattle.equations.specs.Sizes.{Within3, within3-zero}
use Rattle.report.specs.Report.{Reported, report_of, reported_currents, reported_losses, reported_taps, reported_voltages, table_of, tap_rows, taps_given, totals_row}
use Rattle.report_reader.specs.Read.{LastHeld, ReportHeld, ReportIs, ReportRead, Unread, fitting, last_taps, no_report}
use Rattle.report_reader.specs.declared.ReportArrays.{ReportArrays}
use Rattle.report_tables.specs.TablesRead.{Blank, Empty, TableHeld, TableRead, TotalsHeld, column_of, row_inside, unused, unused_count}
use Rattle.report_tables.specs.RowLaws.{row_within}
use Rattle.report_tables.specs.TableLaws.{unused-length}

abbrev pub node_table : ℕ → List ℕ → Outcome (Placed (List Row))
node_table n s = table_of "node,va_re,va_im,vb_re,vb_im,vc_re,vc_im\n" n 1 6 s

abbrev pub branch_table : ℕ → List ℕ → Outcome (Placed (List Row))
branch_table n s = table_of "from,to,ia_re,ia_im,ib_re,ib_im,ic_re,ic_im,loss_p,loss_q\n" n 2 8 s

-- ---- step by step
-- the tests behind the tables, of which that of the taps is the last; all refuse the same
abbrev tests : Bool → Bool → Bool → Bool → Reported → Outcome Reported
tests a b c d x = refuse_if (not a) ReportLayout >> (refuse_if (not b) ReportLayout >> (refuse_if (not c) ReportLayout >> (refuse_if (not d) ReportLayout >> Ok x)))

four-tests : (a b c d : Bool) (x : Reported) → d ≡ true → tests a b c d x ≡ cond (a && (b && c)) (Ok x) (Err ReportLayout)
four-tests true true true true x e = refl
four-tests true true true false x e = clash false e refl
four-tests true true false d x e = refl
four-tests true false c d x e = refl
four-tests false b c d x e = refl

last-refuses : (a b c d : Bool) (x : Reported) → d ≡ false → tests a b c d x ≡ Err ReportLayout
last-refuses true true true true x e = clash true refl e
last-refuses true true true false x e = refl
last-refuses true true false d x e = refl
last-refuses true false c d x e = refl
last-refuses false b c d x e = refl

-- what is refused before its test, or by it
taps-refuse : (o : Outcome (List Row)) (g : List Row → Bool) (a b c : Bool) (x : List Row → Reported) → (o >>= λ l. refuse_if (not (g l)) ReportLayout >> Ok l) ≡ Err ReportLayout
    → (o >>= λ l. tests a b c (g l) (x l)) ≡ Err ReportLayout
taps-refuse (Err r) g a b c x e = ap (λ (y : Refusal). Err y) (same-refused {X = List Row} r ReportLayout e)
taps-refuse (Ok l) g a b c x e = last-refuses a b c (g l) (x l) (go (g l) e)
  where
    go : (d : Bool) → (refuse_if (not d) ReportLayout >> Ok l) ≡ Err ReportLayout → d ≡ false
    go true e = not_good l ReportLayout e
    go false e = refl

module _ (f : Feeder) (s : List ℕ) where
  pub no-nodes : node_table (suc (row_count f)) s ≡ Err ReportLayout → report_of f s ≡ Err ReportLayout
  unfolding report_of
  no-nodes e = rw e

  module _ (nodes : List Row) (p : ℕ) (e : node_table (suc (row_count f)) s ≡ Ok (nodes, p)) where
    pub no-branches : branch_table (row_count f) (drop p s) ≡ Err ReportLayout → report_of f s ≡ Err ReportLayout
    unfolding report_of
    no-branches g = rw (e, g)

    module _ (branches : List Row) (q : ℕ) (g : branch_table (row_count f) (drop p s) ≡ Ok (branches, q)) where
      pub no-totals : totals_row (drop q (drop p s)) ≡ Err ReportLayout → report_of f s ≡ Err ReportLayout
      unfolding report_of
      no-totals h = rw (e, g, h)

      module _ (x : Row) (n : ℕ) (h : totals_row (drop q (drop p s)) ≡ Ok (x, n)) where
        abbrev a : Bool
        a = all (λ r. all (inside 2000000) r.values) nodes

        abbrev b : Bool
        b = all (λ r. all (inside 2000000) (take 6 r.values)) branches

        abbrev c : Bool
        c = between (pos 1) (pos f.limit) (nth x.values 1)

        abbrev made_of : List Row → Reported
        made_of l = record { nodes = nodes; branches = branches; totals = x.values; filed = not (file_end (drop q (drop p s)) n); taps = l }

        pub no-taps : last_taps f (drop q (drop p s)) n ≡ Err ReportLayout → report_of f s ≡ Err ReportLayout
        unfolding report_of last_taps
        no-taps k = rw (e, g, h) (taps-refuse (tap_rows f (drop q (drop p s)) n) (fitting f) a b c made_of k)

        pub tested : (l : List Row) → tap_rows f (drop q (drop p s)) n ≡ Ok l → fitting f l ≡ true →
            report_of f s ≡ cond (all (row_inside false) nodes && (all (row_inside true) branches && c)) (Ok (made_of l)) (Err ReportLayout)
        unfolding report_of
        tested l k t = rw (e, g, h, k) (four-tests a b c (fitting f l) (made_of l) t)

-- ---- sizes
at_default : (n : ℕ) (l : List Three) → All (Within3 n) l → (k : ℕ) → Within3 n (get_or l k zero3)
at_default n [] h k = within3-zero
at_default n (x ∷ l) h zero = h.0
at_default n (x ∷ l) h (suc k) = at_default n l h.1 k

column-within : (branch : Bool) (l : List Row) (cells : List Three) → cells ≡ column_of zero3 branch (λ y. three_at y.values 1) l → unused_count branch + length l ≤ 201 →
    all (row_inside branch) l ≡ true → (k : ℕ) → Within3 2000000 (get_or cells k zero3)
column-within branch l cells e h t k =
    let g : Row → Three = λ y. three_at y.values 1 in
    let m = unused branch zero3 ++ map g l in
    let n : length m ≤ 201 = simp (length-append, unused-length branch zero3, length-map) h in
    let a : All (Within3 2000000) (map g l) = all-image (Within3 2000000) g l (all_map l (row_within branch) (all_true (row_inside branch) l t)) in
    rw (e, get_or_kept zero3 201 m k n) (at_default 2000000 m (before branch a) k)
  where
    before : (branch : Bool) → All (Within3 2000000) (map (λ (y : Row). three_at y.values 1) l) → All (Within3 2000000) (unused branch zero3 ++ map (λ (y : Row). three_at y.values 1) l)
    before true a = (within3-zero, a)
    before false a = a

-- ---- the answer
-- the tests behind the reading
abbrev pub accepts : ℕ → TableRead → TableRead → List ℤ → Bool
accepts limit nodes branches totals = nodes.inside && (branches.inside && between (pos 1) (pos limit) (nth totals 1))

pub not-read : (rows : ℕ) (o : Outcome Reported) (r : ReportRead) → r.ok ≡ false → o ≡ Err ReportLayout → ReportIs rows o r
not-read rows o r h e = subst (λ (x : Outcome Reported). ReportIs rows x r) (sym e) (record { ok = h; layout = refl })

module _ (f : Feeder) (s : List ℕ) (nodes branches : TableRead) (totals : List ℤ) (end : ℕ) (tap_names : List ℕ) (taps : List Taps)
    (n : TableHeld false (suc (row_count f)) s (node_table (suc (row_count f)) s) nodes)
    (b : TableHeld true (row_count f) (drop nodes.next s) (branch_table (row_count f) (drop nodes.next s)) branches)
    (l : let rest = drop branches.next (drop nodes.next s) in TotalsHeld rest (totals_row rest) totals end)
    (t : LastHeld f (drop branches.next (drop nodes.next s)) end tap_names taps) where
  abbrev report : Reported
  report = record { nodes = n.list; branches = b.list; totals = totals; filed = not (file_end (drop branches.next (drop nodes.next s)) end); taps = t.list }

  by-test : report_of f s ≡ cond (accepts f.limit nodes branches totals) (Ok report) (Err ReportLayout)
  by-test =
      tested f s n.list nodes.next n.whole b.list branches.next b.whole _ end l.whole t.list t.whole t.fit
      ∙ sym (λ i. cond (n.held.inside i && (b.held.inside i && between (pos 1) (pos f.limit) (nth totals 1))) (Ok report) (Err ReportLayout))

  -- the arrays of the tables, and the numbers of the row of the totals
  abbrev made : Bool → ReportRead
  made ok = record {
    ok = ok;
    node_names = nodes.first;
    voltages = nodes.threes;
    from_names = branches.first;
    to_names = branches.second;
    currents = branches.threes;
    losses = branches.pairs;
    totals = totals;
    tap_names = tap_names;
  }

  held : row_count f ≤ 200 → accepts f.limit nodes branches totals ≡ true → ReportHeld (row_count f) report (made true)
  unfolding reported_currents reported_losses reported_voltages
  held few e =
      let d = both nodes.inside (branches.inside && between (pos 1) (pos f.limit) (nth totals 1)) e in
      let u = both branches.inside (between (pos 1) (pos f.limit) (nth totals 1)) d.1 in
      record {
        ok = refl;
        node_count = n.counted;
        branch_count = b.counted;
        total_count = l.seven;
        node_names = n.held.first;
        voltages = n.held.threes;
        from_names = b.held.first;
        to_names = b.held.second;
        currents = b.held.threes;
        losses = b.held.pairs;
        totals = refl;
        tap_names = t.named;
        small_voltages = column-within false n.list nodes.threes n.held.threes (omega (arith, n.counted)) (sym n.held.inside ∙ d.0);
        small_currents = column-within true b.list branches.threes b.held.threes (omega (arith, b.counted)) (sym b.held.inside ∙ u.0);
      }

  -- what the tests say is what the reader answers
  pub by_tests : (ok : Bool) → row_count f ≤ 200 → accepts f.limit nodes branches totals ≡ ok → ReportIs (row_count f) (report_of f s) (made ok)
  by_tests true few e =
      subst (λ (x : Outcome Reported). ReportIs (row_count f) x (made true)) (sym (by-test ∙ ap (λ (t : Bool). cond t (Ok report) (Err ReportLayout)) e)) (held few e)
  by_tests false few e = not-read (row_count f) (report_of f s) (made false) refl (by-test ∙ ap (λ (t : Bool). cond t (Ok report) (Err ReportLayout)) e)

  -- the taps of the report that was read
  pub taps-read : (x : Reported) → report_of f s ≡ Ok x → taps ≡ kept no_taps 201 (reported_taps f x)
  unfolding reported_taps
  taps-read x e = go (accepts f.limit nodes branches totals) (sym by-test ∙ e)
    where
      go : (d : Bool) → cond d (Ok report) (Err ReportLayout) ≡ Ok x → taps ≡ kept no_taps 201 (tab (taps_given f x.taps) 0 (suc (row_count f)))
      go true r = t.held ∙ ap (λ (y : Reported). kept no_taps 201 (tab (taps_given f y.taps) 0 (suc (row_count f)))) (same_good report x r)
      go false r = not-refused ReportLayout x r

-- ---- the arrays with nothing read: what their readers ask of them
pub unread : {r : ReportArrays} → r ≡ no_report → Unread r
unfolding no_report
unread e = ap (λ (x : ReportArrays). record x { totals = replicate 7 (pos 0) }) e

module _ (r : ReportArrays) (e : Unread r) where
  pub nodes-empty : Empty r.node_names r.to_names r.voltages r.losses
  unfolding no_report
  nodes-empty = record {
    first_made = ap (λ (x : ReportArrays). x.node_names) e;
    threes-made = ap (λ (x : ReportArrays). x.voltages) e;
    blank = (ap (λ (x : ReportArrays). x.to_names) e, ap (λ (x : ReportArrays). x.losses) e);
  }

  -- where the node table has stored nothing in the other two
  pub branches-empty : (second : List ℕ) (pairs : List Pair) → Blank second pairs → Empty r.from_names second r.currents pairs
  unfolding no_report
  branches-empty second pairs h = record {
    first_made = ap (λ (x : ReportArrays). x.from_names) e;
    threes-made = ap (λ (x : ReportArrays). x.currents) e;
    blank = h;
  }

  pub tap-names-empty : r.tap_names ≡ replicate 201 0
  unfolding no_report
  tap-names-empty = ap (λ (x : ReportArrays). x.tap_names) e

  pub taps-empty : r.taps ≡ replicate 201 no_taps
  unfolding no_report
  taps-empty = ap (λ (x : ReportArrays). x.taps) e
