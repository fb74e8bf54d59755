-- `study_feeder` meets its contract: a file that is refused, and the study of the feeder that it holds. Assumes nothing.
use Rattle.std.specs.Prelude.{Ok, Err}
use Rattle.std.proofs.Common.{List, ◌∙◌, ◌≡◌, ap, refl, sym, ℕ, length}
use Rattle.std.proofs.lemmas.Result.{err_from_is_err_and}
use Rattle.answers.specs.Answers.{Outcome}
use Rattle.answers.specs.declared.Refusal.{Refusal}
use Rattle.ladder.proofs.StageLaws.{study-whole, whole-read, whole-refused}
use Rattle.ladder.specs.Study.{StudyGood, StudyPoints, StudyTold, buffer_of, fitted, study_of}
use Rattle.ladder.proofs.StudyLaws.{study-good, study-told}
use Rattle.ladder.proofs.StudyPoints.{study-points}
use Rattle.ladder.specs.declared.Written.{Written}
use Rattle.reading.specs.Reading.{into-bad}
use Rattle.sweeps.specs.ReadKnown.{ReadKnown, read-good}
use Rattle.ladder.proofs.study_feeder.Goals as goal
use Rattle.ladder.proofs.study_feeder.Goals.{In_ok-read_into}

-- the answer and the buffer, and what follows from the answer on the sweeps, on number and value and on the line
record Answered (s before after : List ℕ) (r : Outcome Written) : Type 0 where
  pub answer : r ≡ study_of s (length before)
  pub buffer : after ≡ buffer_of s before
  pub sweeps : (w : Written) → r ≡ Ok w → StudyGood s (length before) w.length w.sweeps
  pub told : StudyTold (fitted s (length before)) r
  pub first : StudyPoints s r

answered : (s before after : List ℕ) (r : Outcome Written) → (r ≡ study_of s (length before)) × (after ≡ buffer_of s before) → Answered s before after r
answered s before after r h = record {
  answer = h.0;
  buffer = h.1;
  sweeps = λ w e. study-good s (length before) w (sym h.0 ∙ e);
  told = study-told s (length before) r h.0;
  first = study-points s (length before) h.0;
}

pub returns-in_err-read_into : goal.returns-in_err-read_into
returns-in_err-read_into c =
    let p = err_from_is_err_and c.from_residual.result c.from_residual.ensures.1 in
    let x = c.in_err-read_into.field-0.0 in
    let w = answered c.args.feeder.now c.args.out.now c.args.out.now c.from_residual.result
    (study-whole c.args.feeder.now c.args.out.now _ _ (whole-refused _ _ x _ _ (into-bad x c.read_into.ensures c.in_err-read_into.was) (p.1 ∙ ap (λ (z : Refusal). Err z) p.2) refl)) in
    record { answer = w.answer; buffer = w.buffer; sweeps = w.sweeps; told = w.told; first = w.first }

-- the feeder that the arrays hold
found : (c : In_ok-read_into) → ReadKnown c.args.feeder.now c.read_into.new.network
found c = read-good c.args.feeder.now c.in_ok-read_into.field-0 c.read_into.ensures c.in_ok-read_into.was

pub study_network-requires : goal.study_network-requires
study_network-requires c = (found (goal.at.study_network-requires c).In_ok-read_into).known

pub returns : goal.returns
returns c =
    let k = found (goal.at.returns c).In_ok-read_into in
    let w = answered c.args.feeder.now c.args.out.now c.study_network.new.out c.study_network.result
    (study-whole c.args.feeder.now c.args.out.now _ _ (whole-read _ _ k.feeder _ _ k.whole (c.study_network.ensures.study k.feeder k.held))) in
    record { answer = w.answer; buffer = w.buffer; sweeps = w.sweeps; told = w.told; first = w.first }
