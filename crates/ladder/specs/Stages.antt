-- The study's answer from each of its stages on, and what a call gives. Assumes nothing.
use Rattle.std.specs.Prelude.{List, ◌≡◌, refl, ℕ, ltb, length, Ok, Err}
use Rattle.std.proofs.Common.{◌∙◌, ap, sym}
use Rattle.answers.specs.Answers.{Outcome, ◌>>=◌, ◌>>◌, refuse_if}
use Rattle.answers.specs.declared.Refusal.TheVariants.{BufferShort}
use Rattle.feeder.specs.Feeder.{Feeder, reading}
use Rattle.iteration.specs.Ladder.{Solution}
use Rattle.rounds.specs.Rounds.{Regulated, regulated}
use Rattle.ladder.specs.Study.{Report, answered, filled, fitted, report}
use Rattle.ladder.specs.declared.Written.{Written}
use Rattle.report.specs.Report.{report_text}

-- the text of a solution
abbrev pub text_of : Feeder → Solution → List ℕ
text_of f x = report_text f x.voltages x.currents x.sweeps

-- 40, of a solution and of a feeder, with a buffer of n bytes
unfoldable pub fitted_with : Feeder → Solution → ℕ → Outcome Report
fitted_with f x n = refuse_if (ltb n (length (text_of f x))) (BufferShort (length (text_of f x))) >> Ok (record { text = text_of f x; sweeps = x.sweeps })

unfoldable pub fitted_from : Feeder → ℕ → Outcome Report
fitted_from f n = regulated f >>= λ y. fitted_with y.feeder y.solution n

pub fitted-is : (s : List ℕ) (n : ℕ) → fitted s n ≡ (reading s >>= λ f. fitted_from f n)
unfolding fitted report fitted_from fitted_with
fitted-is s n = one (reading s)
  where
    two : (o : Outcome Regulated) →
        ((o >>= λ y. Ok (record { text = text_of y.feeder y.solution; sweeps = y.solution.sweeps })) >>= λ t. refuse_if (ltb n (length t.text)) (BufferShort (length t.text)) >> Ok t)
        ≡ (o >>= λ y. fitted_with y.feeder y.solution n)
    two (Ok x) = refl
    two (Err r) = refl

    one : (o : Outcome Feeder) →
        ((o >>= λ f. regulated f >>= λ y. Ok (record { text = text_of y.feeder y.solution; sweeps = y.solution.sweeps })) >>= λ t. refuse_if (ltb n (length t.text)) (BufferShort (length t.text)) >> Ok t)
        ≡ (o >>= λ f. fitted_from f n)
    one (Ok f) = two (regulated f)
    one (Err r) = refl

-- the answer, and the buffer at exit
pub record StudyAs (o : Outcome Report) (out : List ℕ) (r : Outcome Written) (last : List ℕ) : Type 0 where
  pub answer : r ≡ answered o
  pub buffer : last ≡ filled out o

pub study-same : {o p : Outcome Report} {out : List ℕ} {r : Outcome Written} {last : List ℕ} → o ≡ p → StudyAs p out r last → StudyAs o out r last
study-same {out = out} e h = record { answer = h.answer ∙ ap answered (sym e); buffer = h.buffer ∙ ap (filled out) (sym e) }
