-- Where the study wrote a report: the feeder that it read, the solution that it found, and the sweeps and bytes that it answers. Assumes nothing.
use Rattle.std.specs.Prelude.{List, ◌≡◌, refl, ◌≤◌, ℕ, ltb, length, Ok, Err}
use Rattle.std.proofs.Common.{◌∙◌, ap, sym, arith, ltb-false}
use Rattle.answers.specs.AnswerLaws.{bound, not-if, not-refused, not_good, same-refused, same_good}
use Rattle.answers.specs.Answers.{Outcome, ◌>>=◌, ◌>>◌, refuse_if}
use Rattle.answers.specs.declared.Refusal.{Refusal}
use Rattle.answers.specs.declared.Refusal.TheVariants.{BufferShort}
use Rattle.feeder.specs.Feeder.{reading}
use Rattle.feeder.proofs.FeederLaws.{sound}
use Rattle.feeder.proofs.TapLaws.{sound-taps}
use Rattle.iteration.proofs.LadderLaws.{sweeps-in}
use Rattle.ladder.specs.Study.{Report, StudyGood, StudyTold, answered, fitted, report, study_of}
use Rattle.ladder.specs.declared.Written.{Written}
use Rattle.report.specs.Report.{report_text}
use Rattle.rounds.specs.Rounds.{Regulated, regulated}
use Rattle.rounds.proofs.RoundsLaws.{Ended, regulated-end}

-- the report behind an answer
record Answered (x : Outcome Report) (w : Written) : Type 0 where
  report-got : Report
  came : x ≡ Ok report-got
  length-is : w.length ≡ length report-got.text
  sweeps-are : w.sweeps ≡ report-got.sweeps

answer : (x : Outcome Report) (w : Written) → answered x ≡ Ok w → Answered x w
answer (Ok t) w e =
    let same : record { length = length t.text; sweeps = t.sweeps } ≡ w = same_good _ w e in
    record { report-got = t; came = refl; length-is = sym (ap (λ (y : Written). y.length) same); sweeps-are = sym (ap (λ (y : Written). y.sweeps) same) }
answer (Err r) w e = not-refused r w e

-- and the refusal behind one
pub refused-from : (o : Outcome Report) (x : Refusal) → answered o ≡ Err x → o ≡ Err x
refused-from (Ok t) x e = not_good _ x e
refused-from (Err y) x e = ap (λ (r : Refusal). Err r) (same-refused y x e)

pub study-good : (s : List ℕ) (n : ℕ) (w : Written) → study_of s n ≡ Ok w → StudyGood s n w.length w.sweeps
unfolding study_of fitted report
study-good s n w e =
    let a = answer (fitted s n) w e in
    let whole : Regulated → Outcome Report = λ y. Ok (record { text = report_text y.feeder y.solution.voltages y.solution.currents y.solution.sweeps; sweeps = y.solution.sweeps }) in
    let b = bound (report s) (λ t. refuse_if (ltb n (length t.text)) (BufferShort (length t.text)) >> Ok t) a.report-got a.came in
    let c = not-if (ltb n (length b.value.text)) _ (Ok b.value) a.report-got b.rest in
    let d = bound (reading s) (λ f. regulated f >>= whole) b.value b.came in
    let g = bound (regulated d.value) whole b.value d.rest in
    let y : Regulated = g.value in
    let end : Ended d.value y = regulated-end d.value y (sound-taps s d.value (sound s d.value d.came)) g.came in
    let counted = sweeps-in y.feeder y.solution end.solved-as in
    let t : b.value ≡ a.report-got = same_good _ _ c.1 in
    let v : record { text = report_text y.feeder y.solution.voltages y.solution.currents y.solution.sweeps; sweeps = y.solution.sweeps } ≡ b.value = same_good _ _ g.rest in
    let m : w.sweeps ≡ y.solution.sweeps = a.sweeps-are ∙ sym (ap (λ (y : Report). y.sweeps) (v ∙ t)) in
    let short : length b.value.text ≤ n = ltb-false _ _ c.0 in
    let l : w.length ≡ length b.value.text = a.length-is ∙ sym (ap (λ (y : Report). length y.text) t) in
    record {
      feeder = d.value;
      found = y;
      read = d.came;
      regulated-as = g.came;
      solved-as = end.solved-as;
      sweeps = m;
      first = omega (arith, counted);
      limit = omega (arith, counted, end.retapped.limit);
      text-length = l ∙ sym (ap (λ (y : Report). length y.text) v);
      fits = omega arith;
    }

-- every answer tells the number, the value and the sweeps of its outcome
answered-told : (o : Outcome Report) → StudyTold o (answered o)
answered-told (Ok t) = record { told = record { number = refl; value = refl }; sweeps = refl }
answered-told (Err r) = record { told = record { number = refl; value = refl }; sweeps = refl }

pub study-told : (s : List ℕ) (n : ℕ) (r : Outcome Written) → r ≡ study_of s n → StudyTold (fitted s n) r
unfolding study_of
study-told s n r e = rw e (answered-told (fitted s n))
