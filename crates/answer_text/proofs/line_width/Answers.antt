-- `answer_text::line_width` meets its contract: the digits of both numbers, and ten bytes. Assumes nothing.
use native.Mathlib.Omega.{arith}
use Rattle.answer_text.proofs.AnswerTextLaws.{refused-length}
use Rattle.text.specs.TextLaws.{digits-fit}
use Rattle.answer_text.proofs.line_width.Goals as goal

pub overflow_add-result : goal.overflow_add-result
overflow_add-result c = record { fits = omega (arith, c.digits_width.ensures, c.digits_width-2.ensures, digits-fit 20 c.args.number, digits-fit 20 c.args.value) }

pub overflow_add-result-2 : goal.overflow_add-result-2
overflow_add-result-2 c = record { fits = omega (arith, c.digits_width.ensures, c.digits_width-2.ensures, digits-fit 20 c.args.number, digits-fit 20 c.args.value) }

pub returns : goal.returns
returns c = omega (arith, c.digits_width.ensures, c.digits_width-2.ensures, refused-length c.args.number c.args.value)
