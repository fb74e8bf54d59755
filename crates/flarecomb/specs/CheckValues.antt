-- The check: the value of each of its refusals. Assumes nothing.
use mathlib.Core.List.{List, ◌∷◌}
use Rattle.std.proofs.Common.{◌∙◌, subst, sym, arith}
use Rattle.std.specs.Prelude.{◌≡◌, refl, ◌*◌, ◌+◌, ◌≤◌, ℕ, get_or, length, Err}
use Rattle.answers.specs.Answers.{done, refuse_at, refuse_if, value_of}
use Rattle.answers.specs.Only.{after-only, good-only, if-only, then-only}
use Rattle.answers.specs.declared.Refusal.{Refusal}
use Rattle.answers.specs.declared.Refusal.TheVariants.{CurrentBeyond, CurrentDiffers, LoadBeyond, NameDiffers, SourceDiffers, TapDiffers, TooLong, TotalDiffers, VoltageOff, ZeroVoltage}
use Rattle.equations.specs.Equations.{current_beyond, currents, load_beyond, voltages, zero3, zero_voltage}
use Rattle.equations.specs.Fit.{fit}
use Rattle.feeder.specs.Feeder.{Feeder, reading, regulators, row_count, rows_of, too_long}
use Rattle.feeder.specs.Phased.{Three}
use Rattle.flarecomb.specs.ReadingValues.{reading-up-to}
use Rattle.flarecomb.specs.Values.{LineUpTo, UpTo, at-up-to, first-up-to, or-up-to, unless-up-to}
use Rattle.integers.specs.ListLaws.{length-tab}
use Rattle.integers.specs.Lists.{count}
use Rattle.report.specs.Report.{Reported, report_of, reported_voltages, with_reported}
use Rattle.report.proofs.ReportRows.{only-50, rows-match}
use Rattle.compare.specs.Differences.{current_differs, name_differs, same3, source_differs, tap_differs, total_differs}
use Rattle.verdicts.specs.Check.{checked, compared, voltage_off}
use Rattle.feeder.proofs.TapLaws.{few-regulators}
use Rattle.report.proofs.ReportTaps.{reported-retapped}

-- ---- 50 has no value
report-up-to : {z : ℕ} (f : Feeder) (s : List ℕ) → UpTo z (report_of f s)
report-up-to {z} f s = record { each = λ y e. subst (λ (x : Refusal). value_of x ≤ z) (sym ((only-50 f s).each y e)) (omega arith) }

-- ---- 51 to 54 and 56: a line of the report
rows-many : (f : Feeder) → length (rows_of f) ≡ row_count f
unfolding count
rows-many f = length-tab (λ (j : ℕ). j) 1 (row_count f)

module _ {n : ℕ} (f : Feeder) (q : 3 * row_count f + 9 ≤ n) where
  name-line : (r : Reported) → length r.branches ≡ row_count f → LineUpTo n (name_differs f r)
  unfolding name_differs
  name-line r e = let k = rows-many f in or-up-to _ _ (first-up-to _ 1 1 (0 ∷ rows_of f) (omega arith)) (or-up-to _ _ (first-up-to _ (row_count f + 4) 1 r.branches (omega arith)) (first-up-to _ (2 * row_count f + 9) 1 (regulators f) (omega (arith, few-regulators f))))

  source-line : (r : Reported) → LineUpTo n (source_differs f r)
  unfolding source_differs
  source-line r = let k = rows-many f in or-up-to _ _ (unless-up-to (same3 (get_or (reported_voltages r) 0 zero3) f.source) 2 (omega arith)) (first-up-to _ 1 1 (0 ∷ rows_of f) (omega arith))

  current-line : (r : Reported) (i : List Three) → LineUpTo n (current_differs f r i)
  unfolding current_differs
  current-line r i = let k = rows-many f in first-up-to _ (row_count f + 4) 1 (rows_of f) (omega arith)

  voltage-line : (r : Reported) (u : List Three) → LineUpTo n (voltage_off f r u)
  unfolding voltage_off
  voltage-line r u = let k = rows-many f in first-up-to _ 1 1 (0 ∷ rows_of f) (omega arith)

  tap-line : (r : Reported) → LineUpTo n (tap_differs f r)
  unfolding tap_differs
  tap-line r = first-up-to _ (2 * row_count f + 9) 1 (regulators f) (omega (arith, few-regulators f))

  compared-up-to : (r : Reported) → length r.branches ≡ row_count f → UpTo n (compared f r)
  unfolding compared
  compared-up-to r e =
      let v : List Three = reported_voltages r in
      let i : List Three = currents f v in
      let u : List Three = voltages f i in
      after-only (refuse_at NameDiffers (name_differs f r)) _ (at-up-to (name_differs f r) NameDiffers (λ m. refl) (name-line r e))
      (after-only (refuse_at SourceDiffers (source_differs f r)) _ (at-up-to (source_differs f r) SourceDiffers (λ m. refl) (source-line r))
      (after-only (refuse_if (zero_voltage f v) (ZeroVoltage 0)) _ (if-only (zero_voltage f v) (ZeroVoltage 0) (omega arith))
      (after-only (refuse_if (load_beyond f v) (LoadBeyond 0)) _ (if-only (load_beyond f v) (LoadBeyond 0) (omega arith))
      (after-only (refuse_if (current_beyond f i) (CurrentBeyond 0)) _ (if-only (current_beyond f i) (CurrentBeyond 0) (omega arith))
      (after-only (refuse_at CurrentDiffers (current_differs f r i)) _ (at-up-to (current_differs f r i) CurrentDiffers (λ m. refl) (current-line r i))
      (after-only (refuse_at VoltageOff (voltage_off f r u)) _ (at-up-to (voltage_off f r u) VoltageOff (λ m. refl) (voltage-line r u))
      (after-only (refuse_if (total_differs f r v i) TotalDiffers) _ (if-only (total_differs f r v i) TotalDiffers (omega arith))
      (good-only done))))))))

checked-up-to : (s t : List ℕ) → UpTo 131078 (checked s t)
unfolding checked
checked-up-to s t = after-only (refuse_if (too_long t) TooLong) _ (if-only (too_long t) TooLong (omega arith))
    (then-only (reading s) _ (reading-up-to s)
    (λ f e. then-only (report_of f t) _ (report-up-to f t)
    (λ r g. let k = (fit s f e).few-rows in let h = reported-retapped f t r g in
    after-only (compared (with_reported f r) r) _ (compared-up-to (with_reported f r) (omega (arith, h.rows)) r ((rows-match f t r g).branches ∙ sym h.rows))
    (after-only (refuse_at TapDiffers (tap_differs f r)) _ (at-up-to (tap_differs f r) TapDiffers (λ m. refl) (tap-line f (omega arith) r)) (good-only done)))))

-- of the answer
pub check-value : (s t : List ℕ) (x : Refusal) → checked s t ≡ Err x → value_of x ≤ 131078
check-value s t x e = (checked-up-to s t).each x e
