-- A feeder and its report in memory, with the currents worked at the reported voltages: what the tests over them ask for. Assumes nothing.
use Rattle.std.specs.Prelude.{◌&&◌, ◌≡◌, ◌+◌, ◌<◌, ◌≤◌, suc, zero, ℕ, nat_abs, length, Option, None, Result}
use Rattle.std.proofs.Math.Bool.{cond, false, not, true}
use mathlib.Core.List.{List, ◌∷◌, map}
use Rattle.std.proofs.Common.{◌∙◌, subst, arith}
use Rattle.std.proofs.Math.Path.{ap, ap₂, sym}
use Rattle.std.proofs.Math.ListN.{get_or, length-map}
use Rattle.std.proofs.lemmas.Result.{on_ok_weaker}
use Rattle.equations.specs.Equations.{current_beyond, currents, downward, drawn_power, loss_of, lost_power, power, source_power, voltages, zero3}
use Rattle.feeder.specs.Feeder.{Feeder, branch_at, first_row, no_branch, parent, row_count, rows_of, tap_at, taps_on, three_at}
use Rattle.feeder.specs.Network.{Held, branch_array, kept}
use Rattle.feeder.specs.RowLaws.{held, or-none}
use Rattle.feeder.specs.declared.Network.{Network}
use Rattle.feeder.specs.Phased.{Taps, Three}
use Rattle.integers.specs.Pairs.{0c}
use Rattle.integers.specs.declared.Pair.{Pair}
use Rattle.deviations.specs.Deviations.{Comparable, differ, first_off}
use Rattle.passes.specs.Passes.{LossesAre}
use Rattle.passes.specs.Same.{Same, currents-same, drawn-same, load-beyond-same, loss-same, lost-same, same-currents, same_kept, voltages-same, zero-voltage-same}
use Rattle.radial.specs.Radial.{parent_in}
use Rattle.report.specs.Report.{Reported, reported_taps, reported_voltages, taps_given, with_reported}
use Rattle.compare.specs.Differences.{source_differs}
use Rattle.verdicts.specs.Check.{below_off, off, voltage_off}
use Rattle.verdicts.specs.ReportFaults.{worked_currents}
use Rattle.verdicts.proofs.Tests.{same3-true}
use Rattle.report_reader.specs.Read.{ReportHeld, ReportRead, TapsHeld}
use Rattle.sweeps.specs.Sweeps.{Known, WorkedIs, work_of}
use Rattle.sweeps.specs.declared.WorkError.{WorkError}
use Rattle.feeder.proofs.TapLaws.{Retapped, retapped-self, retapped-with}
use Rattle.feeder.specs.declared.Branch.{Branch}
use Rattle.feeder.specs.declared.Phase.{Phase}
use Rattle.equations.specs.Limits.{DeviceOk}
use Rattle.integers.specs.ListLaws.{length-tab}
use Rattle.sweeps.specs.Retapped.{retapped-held, retapped-known, with_branches}
use Rattle.sweeps.specs.SweepsLaws.{branch_held}

-- g has a feeder, and t a report of it
pub record Met (g : Network) (t : ReportRead) : Type 0 where
  pub known : Known g
  pub report : Reported
  pub read : ReportHeld (row_count known.feeder) report t

-- and the reported taps, within ±16, by node number
pub record MetTaps (g : Network) (t : ReportRead) (taps : List Taps) : Type 0 where
  pub known : Known g
  pub report : Reported
  pub read : ReportHeld (row_count known.feeder) report t
  pub taps-held : TapsHeld known.feeder report taps
  pub small : (k : ℕ) → k < row_count known.feeder → (p : Phase) → nat_abs (tap_at (taps_on (branch_at (with_reported known.feeder report) (suc k)).device) p) ≤ 16

-- f in g, its report x in t, the currents worked at the reported voltages in i, and the power drawn there
pub record InHand (f : Feeder) (x : Reported) (g : Network) (t : ReportRead) (i : List Three) (drawn : Pair) : Type 0 where
  pub held : Held f g
  pub read : ReportHeld (row_count f) x t
  pub currents-are : i ≡ kept zero3 201 (worked_currents f x)
  pub drawn-is : drawn ≡ drawn_power f (reported_voltages x)

-- ---- the voltages of a report at each place
module _ (f : Feeder) (g : Network) (x : Reported) (t : ReportRead) (h : Held f g) (w : ReportHeld (row_count f) x t) where
  pub voltages-held : Same t.voltages (reported_voltages x)
  unfolding reported_voltages
  voltages-held = record {
    place = λ k. ap (λ (l : List Three). get_or l k zero3) w.voltages ∙ (same_kept 201 (reported_voltages x) (omega (arith, h.few-rows, w.node_count, length-map x.nodes (λ y. three_at y.values 1)))).place k;
  }

  -- 52 has the source's voltages equal
  pub source_first : source_differs f x ≡ None → get_or t.voltages 0 zero3 ≡ g.source
  unfolding source_differs
  source_first e = voltages-held.place 0 ∙ same3-true _ _ (held _ 2 (or-none _ _ e).0) ∙ sym h.source

  -- what is worked at the array is worked at the report's voltages
  pub work-held : (r : Result Pair WorkError) (i : List Three) → WorkedIs f t.voltages r i → WorkedIs f (reported_voltages x) r i
  work-held r i k = record {
    work-is = k.work-is ∙ (λ j. work_of (zero-voltage-same f voltages-held j) (load-beyond-same f voltages-held j) (current_beyond f (currents-same f voltages-held j)) (drawn-same f voltages-held j));
    currents-are = on_ok_weaker r (λ (e : i ≡ kept zero3 201 (currents f t.voltages)). e ∙ ap (kept zero3 201) (currents-same f voltages-held)) k.currents-are;
  }

-- 54's values are in their limits
pub comparable : (g : Network) (t : ReportRead) (m : Met g t) → source_differs m.known.feeder m.report ≡ None → Comparable g.source t.voltages g.tol
comparable g t m e = record {
  first = source_first m.known.feeder g m.report t m.known.held m.read e;
  each = m.read.small_voltages;
  small = omega (arith, m.known.held.tol, m.known.fit.tol);
}

-- ---- what is worked with the currents
module _ (f : Feeder) (x : Reported) (g : Network) (t : ReportRead) (i : List Three) (drawn : Pair) (h : InHand f x g t i drawn) where
  pub currents-held : Same i (worked_currents f x)
  currents-held = record { place = λ k. ap (λ (l : List Three). get_or l k zero3) h.currents-are ∙ (same-currents f (reported_voltages x) h.held.few-rows).place k }

  pub losses-held : (each : List Pair) (sum : Pair) → LossesAre f i each sum → each ≡ kept 0c 201 (0c ∷ map (loss_of f (worked_currents f x)) (rows_of f))
  losses-held each sum k = k.each-is ∙ (λ j. kept 0c 201 (0c ∷ map (λ m. loss-same f currents-held m j) (rows_of f)))

  pub lost-held : (each : List Pair) (sum : Pair) → LossesAre f i each sum → sum ≡ lost_power f (worked_currents f x)
  lost-held each sum k = k.sum_is ∙ lost-same f currents-held

  pub sent-held : (p : Pair) → p ≡ power g.source (get_or i 0 zero3) → p ≡ source_power f (worked_currents f x)
  unfolding source_power
  sent-held p e = e ∙ ap₂ power h.held.source (currents-held.place 0)

  -- 54 of the arrays is 54 of the report
  pub off-held : {r : Option ℕ} → r ≡ first_off f g.tol (voltages f i) t.voltages → r ≡ voltage_off f x (voltages f (worked_currents f x))
  unfolding voltage_off off below_off
  off-held e =
      let tol = h.held.tol in
      let u = voltages-same f currents-held in
      let v = voltages-held f g x t h.held h.read in
      e ∙ (λ j. first_row (λ (a k : ℕ). differ (tol j) (get_or (u j) k zero3) (v.place k j) && not (downward (λ m b. cond (differ (tol j) (get_or (u j) (parent f m) zero3) (v.place (parent f m) j)) true b) false (parent f) (row_count f) k)) 1 1 (0 ∷ rows_of f))

-- a branch's parent has a place in the arrays
pub parents-in : {g : Network} → Known g → (k : ℕ) → k < g.rows + 1 → parent_in g.branches k < 201
parents-in k i q = omega (arith, k.arranged.linked.from i q, k.arranged.linked.few)

-- and each branch is in its limits
pub devices-in : {g : Network} → Known g → (k : ℕ) → 0 < k → k < g.rows + 1 → DeviceOk (get_or g.branches k no_branch).device
devices-in w zero p q = absurd (omega arith)
devices-in w (suc k) p q = subst (λ (b : Branch). DeviceOk b.device) (sym (branch_held w.held (suc k))) (w.fit.devices k (omega (arith, w.held.rows)))

-- ---- the feeder with the reported taps
pub only-taps : (f : Feeder) (x : Reported) → Retapped f (with_reported f x)
unfolding with_reported
only-taps f x = retapped-with f f (reported_taps f x) (retapped-self f)

pub taps-many : (f : Feeder) (x : Reported) → row_count f ≤ 200 → length (reported_taps f x) ≤ 201
unfolding reported_taps
taps-many f x h = omega (arith, length-tab (taps_given f x.taps) 0 (suc (row_count f)))

-- g with the branches bs, which have the reported taps
module _ (g : Network) (bs : List Branch) (few_rows : g.rows ≤ 200) (few_loads : g.count ≤ 300) where
  pub own-held : (f : Feeder) (x : Reported) → bs ≡ branch_array (with_reported f x) → Held f g → Held (with_reported f x) (with_branches bs g few_rows few_loads)
  own-held f x e h = retapped-held g bs few_rows few_loads f (with_reported f x) (only-taps f x) e h

  module _ (t : ReportRead) (taps : List Taps) (m : MetTaps g t taps) (e : bs ≡ branch_array (with_reported m.known.feeder m.report)) where
    pub own-known : Known (with_branches bs g few_rows few_loads)
    own-known = retapped-known g bs few_rows few_loads m.known (with_reported m.known.feeder m.report) (only-taps m.known.feeder m.report) m.small e

    pub own-met : Met (with_branches bs g few_rows few_loads) t
    own-met = record { known = own-known; report = m.report; read = subst (λ (n : ℕ). ReportHeld n m.report t) (sym m.known.held.rows ∙ own-known.held.rows) m.read }
