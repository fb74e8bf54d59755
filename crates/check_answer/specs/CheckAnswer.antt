-- What the check's program writes. Assumes nothing.
use Rattle.std.specs.Prelude.{List, ℕ}
use Rattle.answer_text.specs.AnswerText.{text_told}
use Rattle.answers.specs.Answers.{Done}
use Rattle.verdicts.specs.Check.{checked}
use Rattle.text.specs.Text.{bytes}

abbrev pub pass_line : Done → List ℕ
pass_line d = bytes "pass\n"

-- for a feeder's and a report's bytes: "pass" and LF, or the line of the one refusal
unfoldable pub check_text : List ℕ → List ℕ → List ℕ
check_text s t = text_told pass_line (checked s t)
