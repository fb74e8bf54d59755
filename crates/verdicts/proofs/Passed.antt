-- A pass: what the check has found of the two texts, each test one by one; and the tests give the pass back. Assumes nothing.
use Rattle.std.specs.Prelude.{false, List, ◌≡◌, refl, ℕ, None, Ok, Err}
use Rattle.answers.specs.AnswerLaws.{bound, not_at, not-if, not-refused}
use Rattle.answers.specs.Answers.{Done, Outcome, ◌>>=◌, ◌>>◌, done, refuse_at}
use Rattle.answers.specs.declared.Refusal.TheVariants.{TapDiffers, TooLong}
use Rattle.equations.specs.Equations.{current_beyond, currents, load_beyond, voltages, zero_voltage}
use Rattle.feeder.specs.Feeder.{Feeder, reading, too_long}
use Rattle.report.specs.Report.{Reported, report_of, reported_voltages, with_reported}
use Rattle.compare.specs.Differences.{current_differs, name_differs, source_differs, tap_differs, total_differs}
use Rattle.verdicts.specs.Check.{CheckTold, checked, compared, voltage_off}

-- the tests that a report has met
pub record Passed (f : Feeder) (r : Reported) : Type 0 where
  pub t51 : name_differs f r ≡ None
  pub t52 : source_differs f r ≡ None
  pub t30 : zero_voltage f (reported_voltages r) ≡ false
  pub t31 : load_beyond f (reported_voltages r) ≡ false
  pub t32 : current_beyond f (currents f (reported_voltages r)) ≡ false
  pub t53 : current_differs f r (currents f (reported_voltages r)) ≡ None
  pub t54 : voltage_off f r (voltages f (currents f (reported_voltages r))) ≡ None
  pub t55 : total_differs f r (reported_voltages r) (currents f (reported_voltages r)) ≡ false

-- 51 to 55 and 30 to 32, of a report that is found equal
pub passed : (f : Feeder) (r : Reported) → compared f r ≡ Ok done → Passed f r
unfolding compared
passed f r e =
    let a = not_at _ _ _ _ e in
    let b = not_at _ _ _ _ a.1 in
    let c = not-if _ _ _ _ b.1 in
    let d = not-if _ _ _ _ c.1 in
    let g = not-if _ _ _ _ d.1 in
    let h = not_at _ _ _ _ g.1 in
    let i = not_at _ _ _ _ h.1 in
    let j = not-if _ _ _ _ i.1 in
    record { t51 = a.0; t52 = b.0; t30 = c.0; t31 = d.0; t32 = g.0; t53 = h.0; t54 = i.0; t55 = j.0 }

-- and a report that meets them is passed
pub passed-compares : (f : Feeder) (r : Reported) → Passed f r → compared f r ≡ Ok done
unfolding compared
passed-compares f r w = rw (w.t51, w.t52, w.t30, w.t31, w.t32, w.t53, w.t54, w.t55)

-- a pass: there are a feeder and a report in the two texts, and they have met the tests
pub record PassFound (s t : List ℕ) : Type 0 where
  pub t9 : too_long t ≡ false
  pub feeder : Feeder
  pub report : Reported
  pub feeder-read : reading s ≡ Ok feeder
  pub report-read : report_of feeder t ≡ Ok report
  pub met : Passed (with_reported feeder report) report
  pub t56 : tap_differs feeder report ≡ None

-- what a pass has found
pub pass-found : (s t : List ℕ) → checked s t ≡ Ok done → PassFound s t
unfolding checked
pass-found s t e =
    let last : Feeder → Reported → Outcome Done = λ f r. compared (with_reported f r) r >> (refuse_at TapDiffers (tap_differs f r) >> Ok done) in
    let a = not-if (too_long t) TooLong (reading s >>= λ f. report_of f t >>= last f) done e in
    let b = bound (reading s) (λ f. report_of f t >>= last f) done a.1 in
    let c = bound (report_of b.value t) (last b.value) done b.rest in
    let d = after (compared (with_reported b.value c.value) c.value) _ c.rest in
    record { t9 = a.0; feeder = b.value; report = c.value; feeder-read = b.came; report-read = c.came; met = passed (with_reported b.value c.value) c.value d.0; t56 = (not_at _ _ _ _ d.1).0 }
  where
    after : (x y : Outcome Done) → (x >> y) ≡ Ok done → (x ≡ Ok done) × (y ≡ Ok done)
    after (Ok d) y e = (refl, e)
    after (Err r) y e = not-refused r done e

-- and where they are found so, the check passes
pub found-passes : (s t : List ℕ) → PassFound s t → checked s t ≡ Ok done
unfolding checked
found-passes s t w = rw (w.t9, w.feeder-read, w.report-read, passed-compares (with_reported w.feeder w.report) w.report w.met, w.t56)

-- every answer tells its own number and value
self-told : (o : Outcome Done) → CheckTold o o
self-told (Ok d) = record { number = refl; value = refl }
self-told (Err r) = record { number = refl; value = refl }

pub check-told : (s t : List ℕ) {v : Outcome Done} → v ≡ checked s t → CheckTold (checked s t) v
check-told s t e = rw e (self-told (checked s t))
