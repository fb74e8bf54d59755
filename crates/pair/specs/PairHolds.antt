-- The pair law holds: the report that the study writes meets each test of the check. Assumes nothing.
use Rattle.std.proofs.Math.Bool.{Bool, cond, false, not, true}
use Rattle.std.specs.Prelude.{◌&&◌, List, ◌≡◌, ◌-ℤ◌, get_or, None, Ok}
use Rattle.std.proofs.Common.{◌∙◌, subst, sym}
use Rattle.std.proofs.Math.Path.{ap, refl}
use Prim.Native.Nat.{◌*◌, ◌+◌, ◌-◌, ◌<◌, suc, zero, ℕ}
use native.Mathlib.Omega.{arith}
use Rattle.std.proofs.Math.Dec.{eqb}
use Rattle.std.proofs.Math.IntN.{+ℤ_invr}
use Rattle.std.proofs.Math.ListN.{length}
use borrow.Author.Tests.{eq-eqb}
use Rattle.answers.specs.AnswerLaws.{bound, same_good}
use Rattle.answers.specs.Answers.{Outcome, ◌>>=◌, done}
use Rattle.equations.specs.Equations.{at, currents, far_voltage, voltages, zero3}
use Rattle.equations.specs.Meets.{voltages-meet, voltages-source}
use Rattle.equations.specs.ThreeLaws.{Close3, at-masked}
use Rattle.equations.proofs.TapMoves.{rests-by}
use Rattle.equations.specs.Taps.{at_rest, rests_at, same_taps}
use Rattle.feeder.specs.Feeder.{Feeder, branch_at, has, level_of, parent, phases_of, reading, regulates, regulators, row_count, rows_of, tap_at, taps_on}
use Rattle.feeder.proofs.FeederLaws.{sound}
use Rattle.feeder.proofs.RowFacts.{Formed}
use Rattle.feeder.specs.RowLaws.{none_found, none-nodes, none_or, true-each}
use Rattle.feeder.proofs.TapLaws.{all-chosen, sound-taps}
use Rattle.feeder.specs.declared.Phase.{Phase}
use Rattle.feeder.specs.declared.Phase.TheVariants.{A, B, C}
use Rattle.feeder.specs.Phased.{Taps, Three}
use Rattle.integers.specs.Bools.{clash, joined}
use Rattle.integers.specs.ListLaws.{all-at, all-count, count-true, get_or_map, length-tab}
use Rattle.integers.specs.PairLaws.{Close}
use Rattle.integers.specs.Pairs.{0c, inside}
use Rattle.integers.specs.declared.Pair.{Pair}
use Rattle.iteration.specs.Ladder.{Solution}
use Rattle.iteration.proofs.LadderLaws.{Solved, settled-close, solved}
use Rattle.ladder.specs.Study.{Report, report}
use Rattle.pair.specs.Pair.{PairLaw}
use Rattle.pair.specs.SolutionSizes.{ended-formed, ended-writable}
use Rattle.report.specs.Report.{Reported, no_row, report_text, reported_currents, reported_voltages, tap_row, with_reported}
use Rattle.report.proofs.RoundTrip.{Writable, branch-count, branch-row, node-row, report-read, report-short, report_rows, reported-current, reported-feeder, reported-loss, reported-totals, reported-voltages, row_of_branch, row_of_node}
use Rattle.compare.specs.Differences.{name_at_node, name_differs, stays_at, tap_differs}
use Rattle.verdicts.specs.Check.{checked}
use Rattle.verdicts.proofs.Passed.{Passed, found-passes}
use Rattle.verdicts.proofs.Tests.{TotalsSame, meets52, meets53, meets54, meets55}
use Rattle.rounds.specs.Rounds.{Regulated, regulated}
use Rattle.rounds.proofs.RoundsLaws.{Ended, regulated-end}
use Rattle.text.specs.Lines.{Row, word_of}
use Rattle.integers.specs.Lists.{All}

-- what is equal is close
close-self : {tol : ℕ} {x y : Pair} → x ≡ y → Close tol x y
close-self {x = x} {y = y} e = rw e (record { re = rw (+ℤ_invr y.re) (omega arith); im = rw (+ℤ_invr y.im) (omega arith) })

module _ (f : Feeder) (x : Solution) (form : Formed f) (w : Solved f x) where
  abbrev v : List Three
  v = x.voltages

  abbrev i : List Three
  i = x.currents

  abbrev r : Reported
  r = report_rows f x.voltages x.currents x.sweeps

  -- the reported V are V(k−1), and the I worked from them are the reported ones
  voltages-back : reported_voltages r ≡ v
  unfolding voltages
  voltages-back = reported-voltages f v i x.sweeps (ap length w.voltages-are ∙ length-tab _ 0 (suc (row_count f)))

  currents-back : currents f (reported_voltages r) ≡ i
  currents-back = ap (currents f) voltages-back ∙ sym w.currents-are

  -- 51: each row has its nodes' names
  names_same : name_differs f r ≡ None
  unfolding name_differs row_of_node row_of_branch report_rows tap_row
  names_same = none_or
      (none-nodes (λ k. not (eqb (word_of (get_or r.nodes k no_row) 0) (name_at_node f k))) 1 (row_count f)
      (λ k q. ap not (ap (λ (y : Row). eqb (word_of y 0) (name_at_node f k)) (node-row f v i x.sweeps k no_row q) ∙ eq-eqb (name_at_node f k) (name_at_node f k) refl)))
      (none_or (none_found (λ k y. not (names_of k y)) (row_count f + 4) 1 r.branches
      (λ j d q. let z : 1 + j ≡ suc j = omega arith in rw z (ap not (ap (names_of (suc j)) (branch-row f v i x.sweeps j d (omega (arith, branch-count f v i x.sweeps)))
      ∙ joined (eq-eqb (name_at_node f (parent f (suc j))) (name_at_node f (parent f (suc j))) refl) (eq-eqb (name_at_node f (suc j)) (name_at_node f (suc j)) refl)))))
      (none_found (λ j k. not (eqb (word_of (get_or r.taps (j - 1) no_row) 0) (name_at_node f k))) (2 * row_count f + 9) 1 (regulators f) tap-name))
    where
      names_of : ℕ → Row → Bool
      names_of k y = eqb (word_of y 0) (name_at_node f (parent f k)) && eqb (word_of y 1) (name_at_node f k)

      tap-name : (j d : ℕ) → j < length (regulators f) → not (eqb (word_of (get_or r.taps ((1 + j) - 1) no_row) 0) (name_at_node f (get_or (regulators f) j d))) ≡ false
      tap-name j d q =
          let z : (1 + j) - 1 ≡ j = omega arith in
          rw (z, get_or_map (tap_row f) (regulators f) j d no_row q) (ap not (eq-eqb (name_at_node f (get_or (regulators f) j d)) (name_at_node f (get_or (regulators f) j d)) refl))

  -- 52: absent phases are 0
  absent-zero : (k : ℕ) → k < suc (row_count f) → (p : Phase) → has (phases_of f k) p ≡ false → at (get_or v k zero3) p ≡ 0c
  unfolding phases_of far_voltage
  absent-zero zero q A n = clash true refl n
  absent-zero zero q B n = clash true refl n
  absent-zero zero q C n = clash true refl n
  absent-zero (suc k) q p n =
      rw (w.voltages-are, voltages-meet f form w.before k (omega arith)) (at-masked (branch_at f (suc k)).phases _ p ∙ rw n)

  -- 54: the voltages worked from the reported I are V(k), and no one moved more than tol
  all_settled : (k : ℕ) → k < suc (row_count f) → Close3 f.tol (get_or (voltages f i) k zero3) (get_or v k zero3)
  all_settled zero q p =
      let equal : get_or (voltages f i) 0 zero3 ≡ get_or v 0 zero3 = voltages-source f form i ∙ sym (ap (λ (l : List Three). get_or l 0 zero3) w.voltages-are ∙ voltages-source f form w.before) in
      close-self (ap (λ (y : Three). at y p) equal)
  all_settled (suc k) q p = settled-close f v (voltages f i) w.stopped k (omega arith) p

  -- 55: losses and totals
  totals-meet : TotalsSame f r v i
  totals-meet =
      let t = reported-totals f v i x.sweeps in
      record {
        losses = all-count _ 1 (row_count f) (λ j q. let z : 1 + j ≡ suc j = omega arith in rw z (reported-loss f v i x.sweeps j q));
        source = t.0;
        drawn = t.1.0;
        lost = t.1.1;
      }

  pub report-meets : Passed f r
  report-meets = record {
    t51 = names_same;
    t52 = meets52 f r (rw (voltages-back, w.voltages-are) (voltages-source f form w.before)) (λ k q p n. rw voltages-back (absent-zero k q p n));
    t30 = rw voltages-back w.t30;
    t31 = rw voltages-back w.t31;
    t32 = rw currents-back w.t32;
    t53 = rw currents-back (meets53 f r i (reported-current f v i x.sweeps));
    t54 = rw currents-back (meets54 f r (voltages f i) (λ k q. rw voltages-back (all_settled k q)));
    t55 = rw (currents-back, voltages-back) (meets55 f r v i totals-meet);
  }

-- 56: the taps are at rest, and the feeder's own where level is 0
module _ (e : Feeder) (y : Regulated) (h : Ended e y) (form : Formed y.feeder) (w : Writable y.feeder y.solution.voltages y.solution.currents y.solution.sweeps) where
  abbrev f : Feeder
  f = y.feeder

  abbrev x : Solution
  x = y.solution

  abbrev written : Reported
  written = report_rows y.feeder y.solution.voltages y.solution.currents y.solution.sweeps

  abbrev back : with_reported e written ≡ f
  back = reported-feeder e f h.retapped x.voltages x.currents x.sweeps w

  same-taps : (t : Taps) → same_taps t t ≡ true
  unfolding inside
  same-taps t = true-each (λ p. inside 0 (tap_at t p -ℤ tap_at t p)) (λ p. rw (+ℤ_invr (tap_at t p)))

  at-rest : (j : ℕ) → j < row_count e → rests_at f (reported_voltages written) (reported_currents written) (suc j) ≡ true
  unfolding at_rest
  at-rest j q =
      let n : j < row_count f = rw h.retapped.rows q in
      let z : 1 + j ≡ suc j = omega arith in
      let v : reported_voltages written ≡ x.voltages = voltages-back f x form (solved f x h.solved-as) in
      rw v (rests-by f x.voltages (reported_currents written) x.currents (suc j) (omega arith) (reported-current f x.voltages x.currents x.sweeps j n)
      ∙ rw z at (count-true (rests_at f x.voltages x.currents) 1 (row_count f) h.rest j n))

  stays : (j : ℕ) → j < row_count e → stays_at e written (suc j) ≡ true
  unfolding stays_at
  stays j q = rw back (go (inside 0 (level_of (branch_at e (suc j)).device)) refl)
    where
      go : (c : Bool) → inside 0 (level_of (branch_at e (suc j)).device) ≡ c
          → cond c (same_taps (taps_on (branch_at f (suc j)).device) (taps_on (branch_at e (suc j)).device)) (rests_at f (reported_voltages written) (reported_currents written) (suc j)) ≡ true
      go true n = rw (h.fixed j q n) (same-taps (taps_on (branch_at e (suc j)).device))
      go false n = at-rest j q

  pub taps-stay : tap_differs e written ≡ None
  unfolding tap_differs regulators
  taps-stay =
      let all_stay : All (λ k. stays_at e written k ≡ true) (regulators e) = all-chosen _ (λ k. regulates (branch_at e k).device) (rows_of e) (all-count _ 1 (row_count e) (λ j q r. let z : 1 + j ≡ suc j = omega arith in rw z (stays j q))) in
      none_found (λ j k. not (stays_at e written k)) (2 * row_count e + 9) 1 (regulators e) (λ j d q. ap not (all-at (λ k. stays_at e written k ≡ true) (regulators e) all_stay j d q))

-- "passes every report that the study writes"
pub pair-law : PairLaw
unfolding report
pair-law s t e =
    let whole : Regulated → Outcome Report = λ y. Ok (record { text = report_text y.feeder y.solution.voltages y.solution.currents y.solution.sweeps; sweeps = y.solution.sweeps }) in
    let a = bound (reading s) (λ f. regulated f >>= whole) t e in
    let f : Feeder = a.value in
    let b = bound (regulated f) whole t a.rest in
    let y : Regulated = b.value in
    let g : Feeder = y.feeder in
    let x : Solution = y.solution in
    let h : Ended f y = regulated-end f y (sound-taps s f (sound s f a.came)) b.came in
    let k : Writable g x.voltages x.currents x.sweeps = ended-writable s f y a.came h in
    subst (λ (t : Report). checked s t.text ≡ Ok done) (same_good _ t b.rest)
    (found-passes s (report_text g x.voltages x.currents x.sweeps) (record {
      t9 = report-short g x.voltages x.currents x.sweeps k;
      feeder = f;
      report = report_rows g x.voltages x.currents x.sweeps;
      feeder-read = a.came;
      report-read = report-read f g h.retapped x.voltages x.currents x.sweeps k;
      met = rw (reported-feeder f g h.retapped x.voltages x.currents x.sweeps k) (report-meets g x (ended-formed s f y a.came h) (solved g x h.solved-as));
      t56 = taps-stay f y h (ended-formed s f y a.came h) k;
    }))
