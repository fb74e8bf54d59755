-- The tests over arrays are those of the feeder and the report that the arrays hold. Assumes nothing.
use Rattle.std.proofs.Math.Bool.{Bool, cond, not}
use Rattle.std.specs.Prelude.{◌&&◌, false, List, ◌∷◌, map, ◌≡◌, refl, eqb, get_or, length, Some, None}
use Rattle.std.proofs.Common.{◌∙◌, arith}
use Rattle.std.proofs.Math.Path.{ap, ap₂, sym}
use Prim.Native.Nat.{◌*◌, ◌+◌, ◌-◌, ◌<◌, ◌≤◌, suc, zero, ℕ}
use Rattle.std.proofs.Math.ListN
use Rattle.equations.specs.Equations.{drawn_power, loss_of, lost_power, source_power, zero3}
use Rattle.equations.proofs.TapMoves.{moved_at}
use Rattle.equations.specs.Taps.{rests_at}
use Rattle.feeder.specs.Feeder.{Feeder, branch_at, first_row, no_branch, or_else, parent, phases_of, row_count, rows_of}
use Rattle.feeder.specs.Network.{Held, branch_array, kept}
use Rattle.feeder.specs.NetworkLaws.{get_or_kept, kept-below}
use Rattle.feeder.proofs.TapLaws.{count-tapped}
use Rattle.feeder.specs.declared.Branch.{Branch}
use Rattle.feeder.specs.declared.Network.{Network}
use Rattle.feeder.specs.Phased.{Phases, Three}
use Rattle.integers.specs.ListLaws.{get_or_map, get_or-tab, length-tab}
use Rattle.integers.specs.Lists.{all, count}
use Rattle.integers.specs.Pairs.{0c, same}
use Rattle.integers.specs.declared.Pair.{Pair}
use Rattle.passes.specs.Arrays.{branch-in}
use Rattle.passes.specs.Nodes.{same_nodes}
use Rattle.radial.specs.Radial.{parent_in}
use Rattle.report.specs.Report.{Reported, no_row, reported_currents, reported_losses, reported_taps, reported_voltages, with_reported}
use Rattle.compare.specs.Differences.{current_differs, first_tap_row, name_at_node, name_differs, same3, source_differs, stays_at, tap_differs, total_differs}
use Rattle.compare.specs.declared.Powers.{Powers}
use Rattle.compare.specs.Compare.{FromNodes, absent_differs, absent_zero, losses_same, names_differ, node_name_differs, node_scan, phases_in, row_scan, same_powers, stays_in, tap_moves, tap_name_differs, tap_scan, three_differs, told_powers}
use Rattle.compare.specs.Scans.{by_number, same-all, same_rows}
use Rattle.compare.specs.TapRows.{same-tap-rows}
use Rattle.report_reader.specs.Read.{ReportHeld, ReportRead}
use Rattle.tap_table.specs.Regulators.{regulators-held}
use Rattle.text.specs.Lines.{Row, word_of}

-- what an array has at a place
at-kept : {X : Type 0} (d : X) (r l : List X) (k : ℕ) → r ≡ kept d 201 l → k < 201 → get_or r k d ≡ get_or l k d
at-kept d r l k e h = ap (λ (m : List _). get_or m k d) e ∙ kept-below d d 201 l k h

-- the regulators that an array has are the feeder's
scan-held : (f : Feeder) (bad : ℕ → ℕ → Bool) (branches : List Branch) (rows : ℕ) → branches ≡ branch_array f → row_count f ≤ 200 → rows ≡ row_count f → tap_scan bad branches rows 1 0 ≡ first_tap_row f bad
scan-held f bad branches rows e h r =
    (λ i. tap_scan bad (e i) (r i) 1 0) ∙ ap (λ (l : List ℕ). first_row bad (2 * row_count f + 9) 1 l) (regulators-held f h)

-- ---- 51 and 52: the arrays of a network and of a report
module _ (f : Feeder) (g : Network) (x : Reported) (t : ReportRead) (h : Held f g) (w : ReportHeld (row_count f) x t) where
  few : g.rows < 201
  few = omega (arith, h.rows, h.few-rows)

  branch-is : (k : ℕ) → get_or g.branches k no_branch ≡ branch_at f k
  branch-is k = branch-in f g (omega (arith, few)) (record { branches-are = h.branches; rows_are = h.rows }) k

  pub names-tied : FromNodes g.branches g.rows →
      or_else (node_scan (node_name_differs g.nodes t.node_names) g.rows) (or_else (row_scan (names_differ g.nodes g.branches t.from_names t.to_names) g.rows) (tap_scan (tap_name_differs g.nodes t.tap_names) g.branches g.rows 1 0)) ≡ name_differs f x
  unfolding name_differs
  names-tied from =
      ap₂ or_else
      (same_nodes (node_name_differs g.nodes t.node_names) node_bad g.rows node ∙ ap (λ (m : ℕ). node_scan node_bad m) h.rows)
      (ap₂ or_else
      (ap (λ (m : ℕ). row_scan named m) (h.rows ∙ sym w.branch_count) ∙ by_number named row_bad (length x.branches + 4) no_row x.branches row ∙ ap (λ (m : ℕ). first_row row_bad (m + 4) 1 x.branches) w.branch_count)
      (same-tap-rows (tap_name_differs g.nodes t.tap_names) tap_bad g.branches g.rows tap ∙ scan-held f tap_bad g.branches g.rows h.branches h.few-rows h.rows))
    where
      named : ℕ → Bool
      named = names_differ g.nodes g.branches t.from_names t.to_names

      node_bad : ℕ → Bool
      node_bad k = not (eqb (word_of (get_or x.nodes k no_row) 0) (name_at_node f k))

      row_bad : ℕ → Row → Bool
      row_bad k y = not (eqb (word_of y 0) (name_at_node f (parent f k)) && eqb (word_of y 1) (name_at_node f k))

      tap_bad : ℕ → ℕ → Bool
      tap_bad j k = not (eqb (word_of (get_or x.taps (j - 1) no_row) 0) (name_at_node f k))

      name : (k : ℕ) → k < 201 → get_or g.nodes k 0 ≡ name_at_node f k
      name k s = at-kept 0 g.nodes f.nodes k h.nodes s

      node : (k : ℕ) → k < suc g.rows → node_name_differs g.nodes t.node_names k ≡ node_bad k
      node k s =
          let a : get_or t.node_names k 0 ≡ word_of (get_or x.nodes k no_row) 0 = at-kept 0 t.node_names (map (λ y. word_of y 0) x.nodes) k w.node_names (omega (arith, few)) ∙ get_or_map (λ y. word_of y 0) x.nodes k no_row 0 (omega (arith, h.rows, w.node_count)) in
          rw (a, name k (omega (arith, few)))

      row : (i : ℕ) → i < length x.branches → names_differ g.nodes g.branches t.from_names t.to_names (suc i) ≡ row_bad (suc i) (get_or x.branches i no_row)
      row i s =
          let l : suc i < g.rows + 1 = omega (arith, h.rows, w.branch_count) in
          let a : get_or t.from_names (suc i) 0 ≡ word_of (get_or x.branches i no_row) 0 = at-kept 0 t.from_names (0 ∷ map (λ y. word_of y 0) x.branches) (suc i) w.from_names (omega (arith, few)) ∙ get_or_map (λ y. word_of y 0) x.branches i no_row 0 s in
          let b : get_or t.to_names (suc i) 0 ≡ word_of (get_or x.branches i no_row) 1 = at-kept 0 t.to_names (0 ∷ map (λ y. word_of y 1) x.branches) (suc i) w.to_names (omega (arith, few)) ∙ get_or_map (λ y. word_of y 1) x.branches i no_row 0 s in
          let c : get_or g.nodes (parent_in g.branches (suc i)) 0 ≡ name_at_node f (parent f (suc i)) = name _ (from (suc i) l) ∙ ap (λ (b : Branch). name_at_node f b.from) (branch-is (suc i)) in
          rw (a, b, c, name (suc i) (omega (arith, few)))

      tap : (i k : ℕ) → i < k → k ≤ g.rows → tap_name_differs g.nodes t.tap_names (i + 1) k ≡ tap_bad (i + 1) k
      tap i k l s =
          let z : i + 1 - 1 ≡ i = omega arith in
          let a : get_or t.tap_names i 0 ≡ word_of (get_or x.taps i no_row) 0 = at-kept 0 t.tap_names (map (λ y. word_of y 0) x.taps) i w.tap_names (omega (arith, few)) ∙ ListN.get_or-map (λ (y : Row). word_of y 0) x.taps i no_row in
          rw (z, a, name k (omega (arith, few)))

  pub source-tied : (voltages : List Three) → voltages ≡ t.voltages →
      or_else (cond (same3 (get_or voltages 0 zero3) g.source) None (Some 2)) (node_scan (absent_differs g.branches voltages) g.rows) ≡ source_differs f x
  unfolding source_differs phases_of
  source-tied voltages e =
      ap₂ or_else
      (ap₂ (λ (a b : Three). cond (same3 a b) None (Some 2)) (voltage 0 (omega arith)) h.source)
      (same_nodes (absent_differs g.branches voltages) bad g.rows node ∙ ap (λ (m : ℕ). node_scan bad m) h.rows)
    where
      bad : ℕ → Bool
      bad k = not (absent_zero (phases_of f k) (get_or (reported_voltages x) k zero3))

      voltage : (k : ℕ) → k < 201 → get_or voltages k zero3 ≡ get_or (reported_voltages x) k zero3
      voltage k l = at-kept zero3 voltages (reported_voltages x) k (e ∙ w.voltages) l

      phases : (k : ℕ) → phases_in g.branches k ≡ phases_of f k
      phases zero = refl
      phases (suc k) = ap (λ (b : Branch). b.phases) (branch-is (suc k))

      node : (k : ℕ) → k < suc g.rows → absent_differs g.branches voltages k ≡ bad k
      node k l = ap₂ (λ (a : Phases) (b : Three). not (absent_zero a b)) (phases k) (voltage k (omega (arith, few)))

-- ---- 53 and 55: the arrays of a report, and what is worked
module _ (f : Feeder) (x : Reported) (t : ReportRead) (w : ReportHeld (row_count f) x t) (rows : ℕ) (few : rows < 201) (rows_are : rows ≡ row_count f) where
  pub current-tied : (i reported worked : List Three) → reported ≡ t.currents → worked ≡ kept zero3 201 i → row_scan (three_differs reported worked) rows ≡ current_differs f x i
  unfolding current_differs
  current-tied i reported worked e d =
      same_rows (three_differs reported worked) bad (rows + 4) rows row ∙ ap (λ (m : ℕ). row_scan bad m) rows_are
    where
      bad : ℕ → Bool
      bad k = not (same3 (get_or (reported_currents x) k zero3) (get_or i k zero3))

      row : (k : ℕ) → k < rows → three_differs reported worked (suc k) ≡ bad (suc k)
      row k l = ap₂ (λ (a b : Three). not (same3 a b)) (at-kept zero3 reported (reported_currents x) (suc k) (e ∙ w.currents) (omega (arith, few))) (at-kept zero3 worked i (suc k) d (omega (arith, few)))

  pub totals-tied : (v i : List Three) (worked : List Pair) (p : Powers) → worked ≡ kept 0c 201 (0c ∷ map (loss_of f i) (rows_of f)) → p.source ≡ source_power f i → p.drawn ≡ drawn_power f v → p.lost ≡ lost_power f i →
      not (all (losses_same t.losses worked) (count 1 rows) && same_powers (told_powers t.totals) p) ≡ total_differs f x v i
  unfolding total_differs count
  totals-tied v i worked p d a b c =
      λ j. not ((same-all (losses_same t.losses worked) fine rows row ∙ ap (λ (n : ℕ). all fine (count 1 n)) rows_are) j && same_powers (told_powers (w.totals j)) (record { source = a j; drawn = b j; lost = c j }))
    where
      fine : ℕ → Bool
      fine k = same (get_or (0c ∷ reported_losses x) k 0c) (loss_of f i k)

      worked-is : (k : ℕ) → k < rows → get_or worked (suc k) 0c ≡ loss_of f i (suc k)
      worked-is k l =
          let s : 1 + k ≡ suc k = omega arith in
          at-kept 0c worked (0c ∷ map (loss_of f i) (rows_of f)) (suc k) d (omega (arith, few)) ∙ get_or_map (loss_of f i) (rows_of f) k 0 0c (omega (arith, rows_are, length-tab (λ (j : ℕ). j) 1 (row_count f))) ∙
          ap (loss_of f i) (get_or-tab (λ (j : ℕ). j) 1 (row_count f) k 0 (omega (arith, rows_are)) ∙ s)

      row : (k : ℕ) → k < rows → losses_same t.losses worked (suc k) ≡ fine (suc k)
      row k l = ap₂ same (at-kept 0c t.losses (0c ∷ reported_losses x) (suc k) w.losses (omega (arith, few))) (worked-is k l)

-- ---- 56: the arrays of a report, of the feeder's branches, and of these with the reported taps
branch_held : (f : Feeder) (l : List Branch) (k : ℕ) → l ≡ branch_array f → row_count f ≤ 200 → get_or l k no_branch ≡ branch_at f k
unfolding branch_at
branch_held f l k e h = ap (λ (m : List Branch). get_or m k no_branch) e ∙ get_or_kept no_branch 201 (no_branch ∷ f.branches) k (omega arith)

pub taps-tied : (f : Feeder) (x : Reported) (t : ReportRead) (rows : ℕ) (branches own : List Branch) → branches ≡ branch_array f → own ≡ branch_array (with_reported f x) → row_count f ≤ 200 → rows ≡ row_count f →
    ReportHeld (row_count f) x t → tap_scan (tap_moves branches own t.voltages t.currents) branches rows 1 0 ≡ tap_differs f x
unfolding tap_differs stays_at rests_at with_reported
taps-tied f x t rows branches own e d h r w =
    same-tap-rows (tap_moves branches own t.voltages t.currents) (λ (j k : ℕ). not (stays_at f x k)) branches rows (λ j k q s. ap not (row k (omega arith))) ∙ scan-held f (λ (j k : ℕ). not (stays_at f x k)) branches rows e h r
  where
    g : Feeder
    g = with_reported f x

    same_count : row_count g ≡ row_count f
    same_count = count-tapped (reported_taps f x) f

    row : (k : ℕ) → k ≤ rows → stays_in branches own t.voltages t.currents k ≡ stays_at f x k
    row k s =
        rw (branch_held f branches k e h, branch_held g own k d (omega (arith, same_count)), at-kept zero3 t.voltages (reported_voltages x) k w.voltages (omega arith), at-kept zero3 t.currents (reported_currents x) k w.currents (omega arith), moved_at g (reported_voltages x) (reported_currents x) k (omega (arith, same_count)))

-- ---- 52 as the code tests it: at a node behind the source, by the branch that feeds it
pub absent-at : (branches : List Branch) (v : List Three) (k : ℕ) {r : Bool} → 0 < k → r ≡ absent_zero (get_or branches k no_branch).phases (get_or v k zero3) → absent_differs branches v k ≡ not r
absent-at branches v zero h e = absurd (omega arith)
absent-at branches v (suc k) h e = ap not (sym e)

pub source-present : (branches : List Branch) (v : List Three) → absent_differs branches v 0 ≡ false
unfolding all
source-present branches v = refl
