-- `study_and_check` meets its contract: where a report was written, it stands at the buffer's start, and the check passes it. Assumes nothing.
use Rattle.std.specs.Prelude.{Ok}
use Rattle.std.proofs.Common.{◌∙◌, ◌≡◌, ◌≤◌, sym, length, take, arith}
use Rattle.std.proofs.lemmas.List.{length-take-le}
use Rattle.answers.specs.AnswerLaws.{not_good}
use Rattle.answers.specs.Answers.{done}
use Rattle.ladder.specs.Study.{study_of}
use Rattle.ladder.proofs.StudyLaws.{study-good}
use Rattle.pair.proofs.Calls.{written-passes}
use Rattle.verdicts.specs.Check.{checked}
use Rattle.pair.proofs.study_and_check.Goals as goal
use Rattle.pair.proofs.study_and_check.Goals.{In_err-check, In_ok-written}

-- the study's answer, which fits
written : (c : In_ok-written) → study_of c.args.feeder.now (length c.args.out.now) ≡ Ok c.in_ok-written.written
written c = sym c.study_feeder.ensures.answer ∙ c.in_ok-written.was

fits : (c : In_ok-written) → c.in_ok-written.written.length ≤ length c.study_feeder.new.out
fits c = omega (arith, (study-good _ _ _ (written c)).fits)

pub slice_bounds-check-end : goal.slice_bounds-check-end
slice_bounds-check-end c = fits (goal.at.slice_bounds-check-end c).In_ok-written

pub slice_bounds-check-end-2 : goal.slice_bounds-check-end-2
slice_bounds-check-end-2 c = sym (length-take-le c.in_ok-written.written.length c.study_feeder.new.out (fits (goal.at.slice_bounds-check-end-2 c).In_ok-written))

-- the check passes what was written
never : (c : In_err-check) → ⊥
never c =
    let w = c.in_ok-written.written in
    let p : checked c.args.feeder.now (take w.length c.study_feeder.new.out) ≡ Ok done = rw c.study_feeder.ensures.buffer (written-passes c.args.feeder.now c.args.out.now w (written (goal.at.In_err-check c).In_ok-written)) in
    not_good done c.in_err-check.field-0.0 (sym p ∙ sym c.check.ensures.answer ∙ c.in_err-check.was)

pub returns-in_err-check : goal.returns-in_err-check
returns-in_err-check c = absurd (never (goal.at.returns-in_err-check c).In_err-check)
