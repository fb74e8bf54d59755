-- `flarecomb_study` meets its contract: the laws of the definitions bound the length of a report and the value of a refusal. Assumes nothing.
use Rattle.std.specs.Prelude.{Ok, Err}
use Rattle.std.proofs.Common.{◌∙◌, ◌≡◌, ap, sym, length, arith}
use Rattle.flarecomb.specs.StudyValues.{study-length, study-sweeps, study-value}
use Rattle.flarecomb.proofs.WordLaws.{study-word}
use Rattle.flarecomb.specs.Words.{word_of_study}
use Rattle.ladder.specs.Study.{study_of}
use Rattle.flarecomb.proofs.flarecomb_study.Goals as goal
use Rattle.flarecomb.proofs.flarecomb_study.Goals.{In-Err, In-Ok}

-- the definition's answer in each arm
written : (c : In-Ok) → study_of c.args.feeder.now (length c.args.out.now) ≡ Ok c.in-Ok.written
written c = sym c.study_feeder-answer.ensures.answer ∙ c.in-Ok.is

refused : (c : In-Err) → study_of c.args.feeder.now (length c.args.out.now) ≡ Err c.in-Err.x
refused c = sym c.study_feeder-answer.ensures.answer ∙ c.in-Err.is

pub word_of-requires-clause-sweeps_bound : goal.word_of-requires-clause-sweeps_bound
word_of-requires-clause-sweeps_bound c = omega (arith, study-sweeps _ _ _ (written (goal.at.word_of-requires-clause-sweeps_bound c).In-Ok))

pub word_of-requires-clause-value_bound : goal.word_of-requires-clause-value_bound
word_of-requires-clause-value_bound c = omega (arith, study-length _ _ _ (written (goal.at.word_of-requires-clause-value_bound c).In-Ok))

pub refusal_word-requires : goal.refusal_word-requires
refusal_word-requires c = omega (arith, study-value _ _ _ (refused (goal.at.refusal_word-requires c).In-Err))

pub returns-in-Ok-clause-told : goal.returns-in-Ok-clause-told
returns-in-Ok-clause-told c = study-word _ _ _ (c.word_of.ensures ∙ sym (ap word_of_study (written (goal.at.returns-in-Ok-clause-told c).In-Ok)))

pub returns-in-Err-clause-told : goal.returns-in-Err-clause-told
returns-in-Err-clause-told c = study-word _ _ _ (c.refusal_word.ensures ∙ sym (ap word_of_study (refused (goal.at.returns-in-Err-clause-told c).In-Err)))
