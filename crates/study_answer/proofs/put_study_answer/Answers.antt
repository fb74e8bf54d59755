-- `study_answer::put_study_answer` meets its contract: the study wrote the report, or the line of its refusal is written. Assumes nothing.
use Rattle.std.specs.Prelude.{Err}
use Rattle.std.proofs.Common.{◌∙◌, ◌≡◌, sym, length}
use Rattle.ladder.specs.Study.{study_of}
use Rattle.study_answer.specs.StudyAnswerLaws.{study-refused, study-written}
use Rattle.study_answer.proofs.put_study_answer.Goals as goal

pub returns-in-Ok : goal.returns-in-Ok
returns-in-Ok c =
    study-written c.args.feeder.now c.args.out.now c.study_feeder-answer.new.out c.in-Ok.written (sym c.study_feeder-answer.ensures.answer ∙ c.in-Ok.is) c.study_feeder-answer.ensures.buffer

pub returns-in-Err : goal.returns-in-Err
returns-in-Err c =
    let e : study_of c.args.feeder.now (length c.args.out.now) ≡ Err c.in-Err.x = sym c.study_feeder-answer.ensures.answer ∙ c.in-Err.is in
    study-refused c.args.feeder.now c.args.out.now c.study_feeder-answer.new.out c.put_refusal.new.out c.in-Err.x c.put_refusal.result e c.study_feeder-answer.ensures.buffer c.put_refusal.ensures
