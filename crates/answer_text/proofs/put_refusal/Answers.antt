-- `answer_text::put_refusal` meets its contract: nothing is written, or the whole line. Assumes nothing.
use mathlib.Core.Path.{◌≡◌, ap₂, sym}
use native.Mathlib.Omega.{arith}
use Rattle.answer_text.specs.AnswerText.{refused_line}
use Rattle.answer_text.proofs.AnswerTextLaws.{put-nothing, put_written}
use Rattle.answers.specs.Answers.{number_of, value_of}
use Rattle.answer_text.proofs.put_refusal.Goals as goal
use Rattle.answer_text.proofs.put_refusal.Goals.{After-line_width}

-- the line that the two calls tell of
line-is : (c : After-line_width) → let x = c.args.x in refused_line c.number-number.result c.value-value.result ≡ refused_line (number_of x) (value_of x)
line-is c = ap₂ refused_line c.number-number.ensures c.value-value.ensures

pub returns-then-out-line_width : goal.returns-then-out-line_width
returns-then-out-line_width c = rw (sym (line-is (goal.at.returns-then-out-line_width c).After-line_width)) (put-nothing _ _ (omega (arith, c.if-out-line_width.true, c.line_width.ensures)))

pub put_line-requires : goal.put_line-requires
put_line-requires c = omega (arith, c.if-out-line_width.false, c.line_width.ensures)

pub returns : goal.returns
returns c =
    rw (sym (line-is (goal.at.returns c).After-line_width)) (put_written (omega (arith, c.if-out-line_width.false, c.line_width.ensures)) c.put_line.ensures)
