-- The check in its steps, and the answers of the two readers by cases. Assumes nothing.
use Rattle.std.specs.Prelude.{Bool, false, true, List, ◌≡◌, refl, ℕ, Option, Some, None, Ok, Err, IsErrAnd, MatchResult, Result}
use Rattle.std.proofs.Common.{◌∙◌, ap, sym, arith}
use Rattle.account.specs.Account.{PowerAccount}
use Rattle.answers.specs.AnswerLaws.{not-refused, not_good}
use Rattle.answers.specs.Answers.{Done, Outcome, ◌>>=◌, ◌>>◌, done, refuse_at, refuse_if}
use Rattle.answers.specs.declared.Refusal.{Refusal}
use Rattle.answers.specs.declared.Refusal.TheVariants.{CurrentBeyond, LoadBeyond, ReportLayout, TooLong, ZeroVoltage}
use Rattle.equations.specs.Equations.{current_beyond, load_beyond, zero_voltage}
use Rattle.feeder.specs.Feeder.{Feeder, reading, too_long}
use Rattle.integers.specs.declared.Pair.{Pair}
use Rattle.report.specs.Report.{Reported, report_of, reported_voltages, with_reported}
use Rattle.verdicts.specs.Check.{CheckTold, checked, compared}
use Rattle.verdicts.specs.CheckChain.{from30, from53, from56}
use Rattle.verdicts.proofs.Demand.{demand3}
use Rattle.verdicts.proofs.Passed.{check-told}
use Rattle.verdicts.specs.ReportFaults.{CheckPoints, worked_currents}
use Rattle.verdicts.proofs.ReportPoints.{check-points}
use Rattle.report_reader.specs.Read.{ReportHeld, ReportIs, ReportRead}
use Rattle.sweeps.specs.Sweeps.{refusal_of, work_of}
use Rattle.sweeps.specs.declared.WorkError.{WorkError}
use Rattle.sweeps.specs.declared.WorkError.TheVariants.{CurrentBeyond as WorkOver, LoadBeyond as WorkLoad, ZeroVoltage as WorkZero}

-- a report that is read: 51 to 55 for the reported taps, then 56
unfoldable pub behind50 : Feeder → Reported → Outcome Done
behind50 f x = compared (with_reported f x) x >> from56 f x

-- 50, and what follows
unfoldable pub from50 : Feeder → List ℕ → Outcome Done
from50 f t = report_of f t >>= λ r. behind50 f r

-- a test that finds a line, and one that finds none
pub fails-at : {t : Option ℕ} {n : ℕ} (r : ℕ → Refusal) (o : Outcome Done) → t ≡ Some n → Err (r n) ≡ (refuse_at r t >> o)
fails-at r o e = rw e

pub goes_on : {t : Option ℕ} {v : Outcome Done} (r : ℕ → Refusal) (o : Outcome Done) → t ≡ None → v ≡ o → v ≡ (refuse_at r t >> o)
goes_on r o e h = rw e h

pub fails-if : {t : Bool} (r : Refusal) (o : Outcome Done) → t ≡ true → Err r ≡ (refuse_if t r >> o)
fails-if r o e = rw e

pub passes : {t : Bool} (r : Refusal) → t ≡ false → Ok done ≡ (refuse_if t r >> Ok done)
passes r e = rw e

-- ---- what `map_err` leaves as it is, and what it makes of an error
module _ {X Y Z : Type 0} (P : Y → Z → Type 0) (r : Result X Y) (s : Result X Z) where
  pub mapped-ok : (x : X) → MatchResult r (λ y. s ≡ Ok y) (λ e. IsErrAnd s (P e)) → s ≡ Ok x → r ≡ Ok x
  mapped-ok x h e = go r h
    where
      go : (r : Result X Y) → MatchResult r (λ y. s ≡ Ok y) (λ e. IsErrAnd s (P e)) → r ≡ Ok x
      go (Ok y) h = let q = sym h ∙ e in let z : y ≡ x = cc in ap Ok z
      go (Err y) h = absurd (rw e at h)

  pub mapped-err : (z : Z) → MatchResult r (λ y. s ≡ Ok y) (λ e. IsErrAnd s (P e)) → s ≡ Err z → (e : Y) × ((r ≡ Err e) × P e z)
  mapped-err z h e = go r h
    where
      go : (r : Result X Y) → MatchResult r (λ y. s ≡ Ok y) (λ e. IsErrAnd s (P e)) → (e : Y) × ((r ≡ Err e) × P e z)
      go (Ok y) h = let q = sym h ∙ e in cc
      go (Err y) h = (y, (refl, rw e at h))

-- ---- 30 to 32, by what was worked
fails-by : (a b c : Bool) (p : Pair) (e : WorkError) (o : Outcome Done) → Err e ≡ work_of a b c p →
    Err (refusal_of e 0) ≡ (refuse_if a (ZeroVoltage 0) >> (refuse_if b (LoadBeyond 0) >> (refuse_if c (CurrentBeyond 0) >> o)))
fails-by true b c p e o q = let z : e ≡ WorkZero = cc in ap (λ (y : WorkError). Err (refusal_of y 0)) z
fails-by false true c p e o q = let z : e ≡ WorkLoad = cc in ap (λ (y : WorkError). Err (refusal_of y 0)) z
fails-by false false true p e o q = let z : e ≡ WorkOver = cc in ap (λ (y : WorkError). Err (refusal_of y 0)) z
fails-by false false false p e o q = let z : ◌≡◌ {A = ℕ} 0 1 = cc in absurd (omega arith)

module _ (f : Feeder) (x : Reported) where
  abbrev zero : Bool
  zero = zero_voltage f (reported_voltages x)

  abbrev large : Bool
  large = load_beyond f (reported_voltages x)

  abbrev over : Bool
  over = current_beyond f (worked_currents f x)

  pub fails30 : (p : Pair) (e : WorkError) → Err e ≡ work_of zero large over p → Err (refusal_of e 0) ≡ from30 (Ok done) f x
  unfolding from30
  fails30 p e q = fails-by zero large over p e (from53 (Ok done) f x) q

  pub goes30 : {v : Outcome Done} → zero ≡ false → large ≡ false → over ≡ false → v ≡ from53 (Ok done) f x → v ≡ from30 (Ok done) f x
  unfolding from30
  goes30 a b c h = rw (a, b, c) h

-- ---- the report that is read, or 50
pub record ReportFound (rows : ℕ) (o : Outcome Reported) (t : ReportRead) : Type 0 where
  pub report : Reported
  pub came : o ≡ Ok report
  pub held : ReportHeld rows report t

pub report-read : (rows : ℕ) (o : Outcome Reported) (t : ReportRead) → ReportIs rows o t → t.ok ≡ true → ReportFound rows o t
report-read rows (Ok x) t h e = record { report = x; came = refl; held = h }
report-read rows (Err y) t h e = let q : true ≡ false = sym e ∙ h.ok in let z : ◌≡◌ {A = ℕ} 0 1 = cc in absurd (omega arith)

pub report-refused : (rows : ℕ) (o : Outcome Reported) (t : ReportRead) → ReportIs rows o t → t.ok ≡ false → o ≡ Err ReportLayout
report-refused rows (Ok x) t h e = let q : true ≡ false = sym h.ok ∙ e in let z : ◌≡◌ {A = ℕ} 0 1 = cc in absurd (omega arith)
report-refused rows (Err y) t h e = ap Err h.layout

pub refused50 : (f : Feeder) (t : List ℕ) → report_of f t ≡ Err ReportLayout → Err ReportLayout ≡ from50 f t
unfolding from50
refused50 f t e = rw e

pub goes50 : {v : Outcome Done} (f : Feeder) (t : List ℕ) (x : Reported) → report_of f t ≡ Ok x → v ≡ behind50 f x → v ≡ from50 f t
unfolding from50
goes50 f t x e h = rw e h

-- ---- 56 comes behind a pass of all the others
pub fails-before : {v : Outcome Done} {y : Refusal} (o last : Outcome Done) → v ≡ o → v ≡ Err y → Err y ≡ (o >> last)
fails-before {y = y} (Ok d) last e h = not_good d y (sym e ∙ h)
fails-before (Err r) last e h = sym h ∙ e

pub goes-behind : {v w : Outcome Done} {d : Done} (o last : Outcome Done) → v ≡ o → v ≡ Ok d → w ≡ last → w ≡ (o >> last)
goes-behind (Ok d) last e h k = k
goes-behind {d = d} (Err r) last e h k = not-refused r d (sym e ∙ h)

-- ---- the check of the two texts by its steps
module _ (s t : List ℕ) where
  pub check-long : too_long t ≡ true → Err TooLong ≡ checked s t
  unfolding checked
  check-long e = rw e

  module _ (short : too_long t ≡ false) where
    pub check-feeder : (y : Refusal) → reading s ≡ Err y → Err y ≡ checked s t
    unfolding checked
    check-feeder y e = rw (short, e)

    pub check-read : {v : Outcome Done} (f : Feeder) → reading s ≡ Ok f → v ≡ from50 f t → v ≡ checked s t
    unfolding checked from50 behind50 from56
    check-read f e h = rw (short, e) h

-- all of the check's promises, by the first
pub promised : (s t : List ℕ) {v : Outcome Done} → v ≡ checked s t → (v ≡ checked s t) × ((v ≡ Ok done → PowerAccount s t) × (CheckTold (checked s t) v × CheckPoints s t v))
promised s t e = (e, (λ p. demand3 s t (sym e ∙ p), (check-told s t e, check-points s t e)))
