-- The study points at the first row of its feeder's file with a fault (02, S-4). Assumes nothing.
use Rattle.std.specs.Prelude.{List, ◌≡◌, ◌≤◌, ℕ, ltb, length, Err}
use Rattle.std.proofs.Common.{◌∙◌, ap, sym, arith}
use Rattle.answers.specs.AnswerLaws.{stopped}
use Rattle.answers.specs.Answers.{Outcome, ◌>>=◌, refuse_if}
use Rattle.answers.specs.Only.{after-only, good-only, if-only, then-only}
use Rattle.answers.specs.declared.Refusal.TheVariants.{BufferShort}
use Rattle.feeder.specs.Feeder.{Feeder, reading}
use Rattle.feeder.proofs.FeederPoints.{ByReading, points-into-feeder, reading-short}
use Rattle.feeder.specs.Pointing.{Late}
use Rattle.ladder.specs.Stages.{fitted-is, fitted_from, fitted_with, text_of}
use Rattle.ladder.specs.Study.{StudyPoints, answered, fitted, study_of}
use Rattle.ladder.proofs.StudyLaws.{refused-from}
use Rattle.ladder.specs.declared.Written.{Written}
use Rattle.rounds.specs.Rounds.{regulated}
use Rattle.rounds.proofs.RoundsLaws.{regulated-only}

-- behind the reading come 30 to 35 and 40
fitted-late : (f : Feeder) (n : ℕ) → Late 8 (fitted_from f n)
unfolding fitted_from fitted_with
fitted-late f n = then-only (regulated f) _ (regulated-only f (omega arith) (omega arith) (λ j q. record { for-30 = omega arith; for-31 = omega arith; for-32 = omega arith; for-33 = omega arith }))
    (λ y e. let t : ℕ = length (text_of y.feeder y.solution) in after-only (refuse_if (ltb n t) (BufferShort t)) _ (if-only (ltb n t) (BufferShort t) (omega arith)) (good-only _))

-- the study goes by the reading
study-reads : (s : List ℕ) (n : ℕ) → ByReading s (length s ≤ 65536) (λ y. study_of s n ≡ Err y)
unfolding study_of
study-reads s n = record {
  short = λ h. h;
  into = λ h y e. ap answered (fitted-is s n ∙ ap (λ (o : Outcome Feeder). o >>= λ f. fitted_from f n) e);
  back = λ y p q t. stopped (reading s) (λ f. fitted_from f n) y (sym (fitted-is s n) ∙ refused-from (fitted s n) y t)
      (λ e. (reading-short s y e (omega arith), e))
      (λ f e g. let z = (fitted-late f n).each y g in absurd (omega arith));
}

pub study-points : (s : List ℕ) (n : ℕ) {r : Outcome Written} → r ≡ study_of s n → StudyPoints s r
study-points s n e = rw e (points-into-feeder s (study-reads s n))
