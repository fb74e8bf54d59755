-- `flarecomb_check` meets its contract: the laws of the definitions bound the value of a refusal, and no refusal has the word 0. Assumes nothing.
use Rattle.std.specs.Prelude.{Err}
use Rattle.std.proofs.Common.{◌∙◌, ◌≡◌, ap, sym, arith}
use Rattle.flarecomb.specs.CheckValues.{check-value}
use Rattle.flarecomb.proofs.WordLaws.{check-word, zero-passes}
use Rattle.flarecomb.specs.Words.{word_of_check}
use Rattle.verdicts.specs.Check.{checked}
use Rattle.flarecomb.proofs.flarecomb_check.Goals as goal
use Rattle.flarecomb.proofs.flarecomb_check.Goals.{In-Err}

-- the definition's answer where the check refuses
refused : (c : In-Err) → checked c.args.feeder.now c.args.report.now ≡ Err c.in-Err.x
refused c = sym c.check-verdict.ensures.answer ∙ c.in-Err.is

pub refusal_word-requires : goal.refusal_word-requires
refusal_word-requires c = omega (arith, check-value _ _ _ (refused (goal.at.refusal_word-requires c).In-Err))

pub returns-in-Ok-clause-told : goal.returns-in-Ok-clause-told
returns-in-Ok-clause-told c = check-word _ _ _ (c.word_of.ensures ∙ sym (ap word_of_check (sym c.check-verdict.ensures.answer ∙ c.in-Ok.is)))

pub returns-in-Err-clause-account : goal.returns-in-Err-clause-account
returns-in-Err-clause-account c = λ z.
    let word-is = c.refusal_word.ensures ∙ sym (ap word_of_check (refused (goal.at.returns-in-Err-clause-account c).In-Err)) in
    c.check-verdict.ensures.account (c.check-verdict.ensures.answer ∙ zero-passes _ (sym word-is ∙ z))

pub returns-in-Err-clause-told : goal.returns-in-Err-clause-told
returns-in-Err-clause-told c = check-word _ _ _ (c.refusal_word.ensures ∙ sym (ap word_of_check (refused (goal.at.returns-in-Err-clause-told c).In-Err)))
