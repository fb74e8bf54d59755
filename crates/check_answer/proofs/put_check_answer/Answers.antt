-- `check_answer::put_check_answer` meets its contract: the text of the verdict is written. Assumes nothing.
use Rattle.std.specs.Prelude.{Ok, Err}
use mathlib.Core.Path.{◌∙◌, ◌≡◌, sym}
use Rattle.answers.specs.Answers.{done}
use Rattle.check_answer.specs.CheckAnswerLaws.{pass-accounts, text-failed, text-passed}
use Rattle.verdicts.specs.Check.{checked}
use Rattle.text.specs.Text.{bytes}
use Rattle.check_answer.proofs.put_check_answer.Goals as goal

pub returns-in-Ok : goal.returns-in-Ok
unfolding bytes
returns-in-Ok c =
    let e : checked c.args.feeder.now c.args.report.now ≡ Ok done = sym c.check-verdict.ensures.answer ∙ c.in-Ok.is in
    record { text = rw (text-passed _ _ e) c.put_text.ensures; account = pass-accounts _ _ }

pub returns-in-Err : goal.returns-in-Err
returns-in-Err c =
    let e : checked c.args.feeder.now c.args.report.now ≡ Err c.in-Err.x = sym c.check-verdict.ensures.answer ∙ c.in-Err.is in
    record { text = rw (text-failed _ _ _ e) c.put_refusal.ensures; account = pass-accounts _ _ }
