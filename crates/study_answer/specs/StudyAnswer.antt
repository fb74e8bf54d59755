-- What the study's program writes. Assumes nothing.
use Rattle.std.specs.Prelude.{List, ℕ}
use Rattle.answer_text.specs.AnswerText.{text_told}
use Rattle.ladder.specs.Study.{Report, fitted}

abbrev pub text_in : Report → List ℕ
text_in t = t.text

-- for a feeder's bytes and a buffer of n: the report, or the line of the one refusal, 40 among them
unfoldable pub study_text : List ℕ → ℕ → List ℕ
study_text s n = text_told text_in (fitted s n)
