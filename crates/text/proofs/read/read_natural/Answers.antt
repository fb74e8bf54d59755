-- `text::read::read_natural` meets its contract. Assumes nothing.
use mathlib.Core.Path.{sym, ◌∙◌}
use Rattle.text.specs.TextLaws.{natural-at, natural-end}
use Rattle.text.proofs.read.read_natural.Goals as goal

pub returns-in_err-b : goal.returns-in_err-b
returns-in_err-b c = rw c.from_residual.ensures (sym (natural-end _ _ _ c.in_err-b.ensures.lookup.3))

pub returns-then-not-is_digit : goal.returns-then-not-is_digit
returns-then-not-is_digit c =
    let b = c.in_ok-b.ensures.lookup.3 in
    sym (natural-at _ _ _ b.0 ∙ simp (← b.1 0, sym c.is_digit.ensures ∙ c.if-not-is_digit.true))

pub returns : goal.returns
returns c =
    let b = c.in_ok-b.ensures.lookup.3 in
    c.read_digits.ensures ∙ sym (natural-at _ _ _ b.0 ∙ simp (← b.1 0, sym c.is_digit.ensures ∙ c.if-not-is_digit.false))
