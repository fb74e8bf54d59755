-- The check points at the first row with a fault, in the feeder's file and in the report, in the order in which it tries them (ReportFaults). Assumes nothing.
use Rattle.std.specs.Prelude.{false, not, List, map, ◌≡◌, ◌≤◌, suc, ℕ, length, Option, Ok, Err}
use Rattle.std.proofs.Common.{◌∙◌, subst, arith}
use Rattle.std.proofs.Math.Path.{ap, refl, sym}
use borrow.Author.Tests.{le-ltb, ltb-false}
use Rattle.answers.specs.AnswerLaws.{not-refused, same_good, same-refused, stopped}
use Rattle.answers.specs.Answers.{Done, Outcome, ◌>>=◌, ◌>>◌, done, refuse_at, refuse_if}
use Rattle.answers.specs.declared.Refusal.{Refusal}
use Rattle.answers.specs.declared.Refusal.TheVariants.{CurrentBeyond, CurrentDiffers, LoadBeyond, NameDiffers, SourceDiffers, TapDiffers, TooLong, TotalDiffers, VoltageOff, ZeroVoltage}
use Rattle.compare.specs.Differences.{current_differs, name_differs, source_differs, tap_differs, total_differs}
use Rattle.equations.specs.Equations.{current_beyond, load_beyond, voltages, zero_voltage}
use Rattle.feeder.specs.Faults.{NoLine, PointsAt}
use Rattle.feeder.specs.Feeder.{Feeder, branch_at, level_of, reading, regulators, rows_of, too_long}
use Rattle.feeder.proofs.FeederPoints.{ByReading, points-into-feeder, reading-short, reading-turn}
use Rattle.feeder.specs.Pointing.{Finds, Late, Link, finds-same, late-at, late-good, late-if, next-if, relink, step, turn}
use Rattle.feeder.specs.Phased.{Three}
use Rattle.report.specs.Report.{Reported, report_of, reported_voltages, tap_row, with_reported}
use Rattle.report.proofs.ReportRows.{RowsMatch, only-50, rows-match}
use Rattle.verdicts.specs.Check.{checked, compared, voltage_off}
use Rattle.verdicts.specs.CheckChain.{checked-then, from30, from51, from52, from53, from54, from55, from56}
use Rattle.verdicts.specs.ReportFaults.{CheckPoints, Fault51, Fault52, Fault53, Fault54, Fault56, ForTaps, Free32, Free51, Free52, Free53, Free55, PointsIntoReport, ReportFaultAt, ReportRow, ReportRowAt, worked_currents}
use Rattle.verdicts.proofs.ReportFinds.{finds-51, finds-52, finds-53, finds-54}
use Rattle.verdicts.proofs.ReportLines.{line-of-report-row}
use Rattle.feeder.proofs.FeederLaws.{Sound, sound}
use Rattle.feeder.proofs.RowFacts.{Formed, formed}
use Rattle.feeder.proofs.TapLaws.{Retapped, regulators-same, retapped-self}
use Rattle.integers.specs.Lists.{any}
use Rattle.integers.specs.Pairs.{inside}
use Rattle.report.proofs.ReportTaps.{reported-formed, reported-retapped, rows-feeder}
use Rattle.verdicts.proofs.TapFinds.{finds-56}

module _ (s t : List ℕ) where
  abbrev Tells : Refusal → Type 0
  Tells y = checked s t ≡ Err y

  -- what comes behind 9 of the report
  behind9 : Outcome Done
  behind9 = reading s >>= λ f. report_of f t >>= λ x. compared (with_reported f x) x >> (refuse_at TapDiffers (tap_differs f x) >> Ok done)

  link9 : Link Tells 1 17 (length t ≤ 65536) behind9
  unfolding checked behind9
  link9 = relink (λ h. ltb-false 65536 (length t) h.1) (λ h. (tt, le-ltb 65536 (length t) h)) (next-if 0 17 (too_long t) TooLong behind9 refl whole)
    where
      whole : Link Tells 0 17 (Unit {0}) (checked s t)
      whole = record { into = λ h y e. e; back = λ y p q h. (tt, h) }

  -- ---- the feeder or the report is not read: no row of it has a fault, and none of 51 to 54 and 56 is told
  module _ (y : Refusal) (early : turn y ≤ 8) (stops : behind9 ≡ Err y)
      (none : (Fault : Feeder → Reported → ReportRow → Type 0) → NoLine (ReportFaultAt Fault s t)) where
    silent : (c : Refusal) → 9 ≤ turn c → turn c ≤ 17 → Tells c → ⊥
    silent c p q h = let w = link9.back c (omega arith) q h in let e = ap turn (same-refused y c (sym stops ∙ w.1)) in omega arith

    nowhere : {Fault : Feeder → Reported → ReportRow → Type 0} {free : Type 0} (c : ℕ → Refusal) → ((n : ℕ) → 9 ≤ turn (c n)) → ((n : ℕ) → turn (c n) ≤ 17)
        → PointsAt (λ n. Tells (c n)) (ReportFaultAt Fault s t) free
    nowhere {Fault} c p q = record {
      first = λ n h. absurd (silent (c n) (p n) (q n) h);
      only-where-free = λ n h. absurd (silent (c n) (p n) (q n) h);
      told = λ h n w. absurd (none Fault n w);
    }

    points-nowhere : PointsIntoReport s t Tells
    points-nowhere = record {
      at-51 = nowhere NameDiffers (λ n. omega arith) (λ n. omega arith);
      at-52 = nowhere SourceDiffers (λ n. omega arith) (λ n. omega arith);
      at-53 = nowhere CurrentDiffers (λ n. omega arith) (λ n. omega arith);
      at-54 = nowhere VoltageOff (λ n. omega arith) (λ n. omega arith);
      at-56 = nowhere TapDiffers (λ n. omega arith) (λ n. omega arith);
    }

  -- ---- both are read: the rest is a chain of tests
  module _ (f : Feeder) (x : Reported) (feeder-read : reading s ≡ Ok f) (report-read : report_of f t ≡ Ok x) where
    -- the feeder and the report that a fault speaks of are these two
    same_read : (P : Feeder → Reported → Type 0) (g : Feeder) (y : Reported) → reading s ≡ Ok g → report_of g t ≡ Ok y → (P g y → P f x) × (P f x → P g y)
    same_read P g y p q =
        let e : g ≡ f = same_good g f (sym p ∙ feeder-read) in
        let v : y ≡ x = same_good y x (sym q ∙ ap (λ (k : Feeder). report_of k t) e ∙ report-read) in
        (λ h. subst (P f) v (subst (λ (k : Feeder). P k y) e h), λ h. subst (λ (k : Feeder). P k y) (sym e) (subst (P f) (sym v) h))

    in-texts : (Fault : Feeder → Reported → ReportRow → Type 0) (n : ℕ) → ReportRowAt Fault f x n → ReportFaultAt Fault s t n
    in-texts Fault n w = record { feeder = f; report = x; feeder-read = feeder-read; report-read = report-read; here = w; written = line-of-report-row f t x report-read w.row n w.in-line }

    in_tables : (Fault : Feeder → Reported → ReportRow → Type 0) (n : ℕ) → ReportFaultAt Fault s t n → ReportRowAt Fault f x n
    in_tables Fault n w = (same_read (λ g y. ReportRowAt Fault g y n) w.feeder w.report w.feeder-read w.report-read).0 w.here

    -- the feeder with the reported taps, of which all but 56 speaks
    abbrev g : Feeder
    g = with_reported f x

    for-taps : (Fault : Feeder → Reported → ReportRow → Type 0) (n : ℕ) → ReportRowAt Fault g x n → ReportRowAt (ForTaps Fault) f x n
    for-taps Fault n w = record { row = w.row; in-line = w.in-line; faulty = w.faulty }

    of-taps : (Fault : Feeder → Reported → ReportRow → Type 0) (n : ℕ) → ReportRowAt (ForTaps Fault) f x n → ReportRowAt Fault g x n
    of-taps Fault n w = record { row = w.row; in-line = w.in-line; faulty = w.faulty }

    same-but-taps : Retapped f g
    same-but-taps = reported-retapped f t x report-read

    feeder-sound : Sound s f
    feeder-sound = sound s f feeder-read

    form : Formed g
    form = reported-formed f t x report-read (formed s f feeder-sound)

    sizes : RowsMatch f x
    sizes = rows-match f t x report-read

    taps-sizes : RowsMatch g x
    taps-sizes = record {
      nodes = sizes.nodes ∙ ap suc (sym same-but-taps.rows);
      branches = sizes.branches ∙ sym same-but-taps.rows;
      taps = sizes.taps ∙ ap length (sym (regulators-same same-but-taps));
      own = λ n. subst (λ (k : Feeder). (any (λ j. not (inside 0 (level_of (branch_at k j).device))) (rows_of k) ≡ false) × (x.taps ≡ map (tap_row k) (regulators k)))
          (sym (rows-feeder f f (retapped-self f) x (sizes.own n).1)) (sizes.own n);
    }

    -- the tests come in their order
    abbrev v : List Three
    v = reported_voltages x

    abbrev i : List Three
    i = worked_currents g x

    abbrev last : Outcome Done
    last = from56 f x

    abbrev from32 : Outcome Done
    from32 = refuse_if (current_beyond g i) (CurrentBeyond 0) >> from53 last g x

    abbrev from31 : Outcome Done
    from31 = refuse_if (load_beyond g v) (LoadBeyond 0) >> from32

    late56 : Late 17 last
    unfolding from56
    late56 = late-at 17 TapDiffers (tap_differs f x) (Ok done) (λ n. refl) (late-good 18 done)

    late55 : Late 16 (from55 last g x)
    unfolding from55
    late55 = late-if 16 (total_differs g x v i) TotalDiffers last refl late56

    late54 : Late 15 (from54 last g x)
    unfolding from54
    late54 = late-at 15 VoltageOff (voltage_off g x (voltages g i)) (from55 last g x) (λ n. refl) late55

    late53 : Late 14 (from53 last g x)
    unfolding from53
    late53 = late-at 14 CurrentDiffers (current_differs g x i) (from54 last g x) (λ n. refl) late54

    late30 : Late 11 (from30 last g x)
    unfolding from30
    late30 = late-if 11 (zero_voltage g v) (ZeroVoltage 0) from31 refl (late-if 12 (load_beyond g v) (LoadBeyond 0) from32 refl (late-if 13 (current_beyond g i) (CurrentBeyond 0) (from53 last g x) refl late53))

    late52 : Late 10 (from52 last g x)
    unfolding from52
    late52 = late-at 10 SourceDiffers (source_differs g x) (from30 last g x) (λ n. refl) late30

    late51 : Late 9 (compared g x >> (refuse_at TapDiffers (tap_differs f x) >> Ok done))
    unfolding from51
    late51 = rw (checked-then f x) (late-at 9 NameDiffers (name_differs g x) (from52 last g x) (λ n. refl) late52)

    -- what is found of the tables is found of the texts
    text-finds : {Fault : Feeder → Reported → ReportRow → Type 0} {l : Option ℕ} → Finds l (ReportRowAt Fault g x) → Finds l (ReportFaultAt (ForTaps Fault) s t)
    text-finds {Fault} = finds-same (λ n w. in-texts (ForTaps Fault) n (for-taps Fault n w)) (λ n w. of-taps Fault n (in_tables (ForTaps Fault) n w))

    link51 : Link Tells 9 17 (length t ≤ 65536) (refuse_at NameDiffers (name_differs g x) >> from52 last g x)
    unfolding behind9 from51
    link51 =
        let e : behind9 ≡ (refuse_at NameDiffers (name_differs g x) >> from52 last g x) = rw (feeder-read, report-read) (checked-then f x) in
        record { into = λ h y w. link9.into h y (e ∙ w); back = λ y p q w. let b = link9.back y (omega arith) q w in (b.0, sym e ∙ b.1) }

    step51 : PointsAt (λ n. Tells (NameDiffers n)) (ReportFaultAt (ForTaps Fault51) s t) (length t ≤ 65536) × Link Tells 10 17 (Free51 s t) (from52 last g x)
    step51 = step 9 17 NameDiffers (name_differs g x) (from52 last g x) (λ n. refl) (λ n. refl) (omega arith) late52 (λ h. text-finds (finds-51 g x taps-sizes)) link51

    step52 : PointsAt (λ n. Tells (SourceDiffers n)) (ReportFaultAt (ForTaps Fault52) s t) (Free51 s t) × Link Tells 11 17 (Free52 s t) (from30 last g x)
    unfolding from52
    step52 = step 10 17 SourceDiffers (source_differs g x) (from30 last g x) (λ n. refl) (λ n. refl) (omega arith) late30 (λ h. text-finds (finds-52 g x taps-sizes)) step51.1

    link53 : Link Tells 14 17 (Free32 s t) (from53 last g x)
    unfolding from30
    link53 =
        let link31 = next-if 11 17 (zero_voltage g v) (ZeroVoltage 0) from31 refl step52.1 in
        let link32 = next-if 12 17 (load_beyond g v) (LoadBeyond 0) from32 refl link31 in
        relink
        (λ h. record {
          before = h.0.0.0;
          not-30 = λ k y p q. (same_read (λ k y. zero_voltage (with_reported k y) (reported_voltages y) ≡ false) k y p q).1 h.0.0.1;
          not-31 = λ k y p q. (same_read (λ k y. load_beyond (with_reported k y) (reported_voltages y) ≡ false) k y p q).1 h.0.1;
          not-32 = λ k y p q. (same_read (λ k y. current_beyond (with_reported k y) (worked_currents (with_reported k y) y) ≡ false) k y p q).1 h.1;
        })
        (λ h. (((h.before, h.not-30 f x feeder-read report-read), h.not-31 f x feeder-read report-read), h.not-32 f x feeder-read report-read))
        (next-if 13 17 (current_beyond g i) (CurrentBeyond 0) (from53 last g x) refl link32)

    step53 : PointsAt (λ n. Tells (CurrentDiffers n)) (ReportFaultAt (ForTaps Fault53) s t) (Free32 s t) × Link Tells 15 17 (Free53 s t) (from54 last g x)
    unfolding from53
    step53 = step 14 17 CurrentDiffers (current_differs g x i) (from54 last g x) (λ n. refl) (λ n. refl) (omega arith) late54 (λ h. text-finds (finds-53 g x taps-sizes)) link53

    step54 : PointsAt (λ n. Tells (VoltageOff n)) (ReportFaultAt (ForTaps Fault54) s t) (Free53 s t) × Link Tells 16 17 (Free53 s t × NoLine (ReportFaultAt (ForTaps Fault54) s t)) (from55 last g x)
    unfolding from54
    step54 = step 15 17 VoltageOff (voltage_off g x (voltages g i)) (from55 last g x) (λ n. refl) (λ n. refl) (omega arith) late55 (λ h. text-finds (finds-54 g x taps-sizes form)) step53.1

    link56 : Link Tells 17 17 (Free55 s t) last
    unfolding from55
    link56 = relink
        (λ h. record { before = h.0; not-55 = λ k y p q. (same_read (λ k y. total_differs (with_reported k y) y (reported_voltages y) (worked_currents (with_reported k y) y) ≡ false) k y p q).1 h.1 })
        (λ h. (h.before, h.not-55 f x feeder-read report-read))
        (next-if 16 17 (total_differs g x v i) TotalDiffers last refl step54.1)

    step56 : PointsAt (λ n. Tells (TapDiffers n)) (ReportFaultAt Fault56 s t) (Free55 s t)
    unfolding from56
    step56 = (step 17 17 TapDiffers (tap_differs f x) (Ok done) (λ n. refl) (λ n. refl) (omega arith) (late-good 18 done)
        (λ h. finds-same (in-texts Fault56) (in_tables Fault56) (finds-56 s f feeder-sound x sizes)) link56).0

    points-at-rows : PointsIntoReport s t Tells
    points-at-rows = record { at-51 = step51.0; at-52 = step52.0; at-53 = step53.0; at-54 = step54.0; at-56 = step56 }

check-points-report : (s t : List ℕ) → PointsIntoReport s t (λ y. checked s t ≡ Err y)
unfolding behind9
check-points-report s t = feeder (reading s) refl
  where
    report : (f : Feeder) → reading s ≡ Ok f → (o : Outcome Reported) → report_of f t ≡ o → PointsIntoReport s t (λ y. checked s t ≡ Err y)
    report f e (Ok x) w = points-at-rows s t f x e w
    report f e (Err y) w =
        let z = ap turn ((only-50 f t).each y w) in
        points-nowhere s t y (omega arith) (rw (e, w)) (λ F n h.
        let g : f ≡ h.feeder = same_good f h.feeder (sym e ∙ h.feeder-read) in
        not-refused y h.report (sym w ∙ ap (λ (k : Feeder). report_of k t) g ∙ h.report-read))

    feeder : (o : Outcome Feeder) → reading s ≡ o → PointsIntoReport s t (λ y. checked s t ≡ Err y)
    feeder (Ok f) e = report f e (report_of f t) refl
    feeder (Err y) e =
        let z = (reading-turn s).each y e in
        points-nowhere s t y (omega arith) (rw e) (λ F n h. not-refused y h.feeder (sym e ∙ h.feeder-read))

-- ---- and it goes by the reading of the feeder
check-reads : (s t : List ℕ) → ByReading s ((length s ≤ 65536) × (length t ≤ 65536)) (λ y. checked s t ≡ Err y)
unfolding behind9
check-reads s t = record {
  short = λ h. h.0;
  into = λ h y e. (link9 s t).into h.1 y (rw e);
  back = λ y p q h.
      let b = (link9 s t).back y (omega arith) (omega arith) h in
      stopped (reading s) (λ f. report_of f t >>= λ x. compared (with_reported f x) x >> (refuse_at TapDiffers (tap_differs f x) >> Ok done)) y b.1
      (λ e. ((reading-short s y e (omega arith), b.0), e))
      (λ f e g. stopped (report_of f t) (λ x. compared (with_reported f x) x >> (refuse_at TapDiffers (tap_differs f x) >> Ok done)) y g
      (λ w. let z = ap turn ((only-50 f t).each y w) in absurd (omega arith))
      (λ x w v. let z = (late51 s t f x e w).each y v in absurd (omega arith)));
}

pub check-points : (s t : List ℕ) {v : Outcome Done} → v ≡ checked s t → CheckPoints s t v
check-points s t e = rw e (record { feeder = points-into-feeder s (check-reads s t); report = check-points-report s t })
