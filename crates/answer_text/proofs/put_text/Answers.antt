-- `answer_text::put_text` meets its contract: nothing is written, or the whole text. Assumes nothing.
use native.Mathlib.Omega.{arith}
use Rattle.answer_text.proofs.AnswerTextLaws.{put-nothing, put_written}
use Rattle.answer_text.proofs.put_text.Goals as goal

pub returns-then-out-text : goal.returns-then-out-text
returns-then-out-text c = put-nothing _ _ (omega (arith, c.if-out-text.true))

pub returns : goal.returns
returns c = put_written (omega arith) c.put_bytes.ensures
