-- The study: the value of each of its refusals, and the length of a report. Assumes nothing.
use Rattle.std.specs.Prelude.{List, ◌≡◌, refl, ◌≤◌, ℕ, ltb, length, Ok, Err}
use Rattle.std.proofs.Common.{ap, arith, le-ltb, ltb-false}
use Rattle.answers.specs.AnswerLaws.{bound, same_good}
use Rattle.answers.specs.Answers.{Outcome, ◌>>=◌, ◌>>◌, refuse_if, value_of}
use Rattle.answers.specs.Only.{after-only, good-only, if-only, then-only}
use Rattle.answers.specs.declared.Refusal.{Refusal}
use Rattle.answers.specs.declared.Refusal.TheVariants.{BufferShort}
use Rattle.equations.specs.Fit.{fit}
use Rattle.feeder.specs.Feeder.{Feeder, reading}
use Rattle.flarecomb.specs.ReadingValues.{reading-up-to}
use Rattle.flarecomb.specs.Values.{UpTo}
use Rattle.feeder.proofs.FeederLaws.{sound}
use Rattle.feeder.proofs.TapLaws.{sound-taps}
use Rattle.ladder.specs.Stages.{fitted-is, fitted_from, fitted_with, text_of}
use Rattle.ladder.specs.Study.{Report, fitted, report, study_of}
use Rattle.ladder.proofs.StudyLaws.{refused-from, study-good}
use Rattle.ladder.specs.declared.Written.{Written}
use Rattle.pair.specs.SolutionSizes.{ended-writable}
use Rattle.report.proofs.RoundTrip.{report-short}
use Rattle.rounds.specs.Rounds.{Regulated, regulated}
use Rattle.rounds.proofs.RoundsLaws.{regulated-end, regulated-only}

-- 30 to 34: the number of the sweep, at most the limit; 35: 32
regulated-up-to : {n : ℕ} (f : Feeder) → f.limit ≤ n → 32 ≤ n → UpTo n (regulated f)
regulated-up-to f p q = regulated-only f q p (λ j q. record { for-30 = omega arith; for-31 = omega arith; for-32 = omega arith; for-33 = omega arith })

-- the report's length, which 40 returns
text-short : (s : List ℕ) (f : Feeder) (y : Regulated) → reading s ≡ Ok f → regulated f ≡ Ok y → length (text_of y.feeder y.solution) ≤ 65536
text-short s f y e g = ltb-false 65536 _ (report-short y.feeder y.solution.voltages y.solution.currents y.solution.sweeps (ended-writable s f y e (regulated-end f y (sound-taps s f (sound s f e)) g)))

fitted-up-to : (s : List ℕ) (n : ℕ) → UpTo 131078 (fitted s n)
unfolding fitted_from fitted_with
fitted-up-to s n = rw (fitted-is s n) (then-only (reading s) _ (reading-up-to s)
    (λ f e. then-only (regulated f) _ (regulated-up-to f (let k = (fit s f e).few-sweeps in omega arith) (omega arith))
    (λ y g. let t : List ℕ = text_of y.feeder y.solution in let k = text-short s f y e g in after-only (refuse_if (ltb n (length t)) (BufferShort (length t))) _ (if-only (ltb n (length t)) (BufferShort (length t)) (omega arith)) (good-only _))))

-- of the answer
pub study-value : (s : List ℕ) (n : ℕ) (x : Refusal) → study_of s n ≡ Err x → value_of x ≤ 131078
unfolding study_of
study-value s n x e = (fitted-up-to s n).each x (refused-from (fitted s n) x e)

pub study-length : (s : List ℕ) (n : ℕ) (w : Written) → study_of s n ≡ Ok w → w.length ≤ 65536
study-length s n w e = let g = study-good s n w e in omega (arith, g.text-length, text-short s g.feeder g.found g.read g.regulated-as)

pub study-sweeps : (s : List ℕ) (n : ℕ) (w : Written) → study_of s n ≡ Ok w → w.sweeps ≤ 100
study-sweeps s n w e = let g = study-good s n w e in omega (arith, g.limit, (fit s g.feeder g.read).few-sweeps)

-- a buffer of 65,536 bytes is never too short: 40 is no answer, and what is answered is the report's own outcome
report-text-short : (s : List ℕ) (t : Report) → report s ≡ Ok t → length t.text ≤ 65536
unfolding report
report-text-short s t e =
    let whole : Regulated → Outcome Report = λ y. Ok (record { text = text_of y.feeder y.solution; sweeps = y.solution.sweeps }) in
    let a = bound (reading s) (λ f. regulated f >>= whole) t e in
    let b = bound (regulated a.value) whole t a.rest in
    let l : length (text_of b.value.feeder b.value.solution) ≡ length t.text = ap (λ (y : Report). length y.text) (same_good (record { text = text_of b.value.feeder b.value.solution; sweeps = b.value.solution.sweeps }) t b.rest) in
    omega (arith, text-short s a.value b.value a.came b.came)

pub never-short : (s : List ℕ) (n : ℕ) → 65536 ≤ n → fitted s n ≡ report s
unfolding fitted
never-short s n q = by (report s) refl
  where
    by : (o : Outcome Report) → report s ≡ o → (o >>= λ t. refuse_if (ltb n (length t.text)) (BufferShort (length t.text)) >> Ok t) ≡ o
    by (Ok t) e = let k = report-text-short s t e in rw (le-ltb n (length t.text) (omega arith))
    by (Err r) e = refl
