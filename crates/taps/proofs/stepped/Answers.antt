-- `stepped` meets its contract: the step is taken where it stays within ±16. Assumes nothing.
use mathlib.Core.Bool.{Bool}
use mathlib.Core.Path.{◌∙◌, ◌≡◌, ap, sym}
use lib.IntN.{◌+ℤ◌}
use mir.Facts.{to_z-of_z}
use borrow.Author.Rules.{rules}
use Rattle.equations.specs.Taps.{stepped}
use Rattle.integers.specs.Pairs.{inside}
use Rattle.taps.proofs.stepped.Goals as goal
use Rattle.taps.proofs.stepped.Goals.{After-add-t, After-inside}

moved : (c : After-add-t) → c.add-t.result ≡ c.args.tap +ℤ c.args.step
moved c = c.add-t.ensures.value ∙ (λ i. to_z-of_z c.ranges.tap i +ℤ to_z-of_z c.ranges.step i)

tested : (c : After-inside) {d : Bool} → c.inside.result ≡ d → inside 16 (c.args.tap +ℤ c.args.step) ≡ d
tested c t = sym (ap (inside 16) (to_z-of_z c.add-t.ensures.fits ∙ moved (goal.at.After-inside c).After-add-t)) ∙ sym c.inside.ensures ∙ t

pub returns-then-inside : goal.returns-then-inside
unfolding stepped
returns-then-inside c = record { value = simp (tested (goal.at.returns-then-inside c).After-inside c.if-inside.true) (to_z-of_z c.add-t.ensures.fits ∙ moved (goal.at.returns-then-inside c).After-add-t); fits = search rules }

pub returns-else-inside : goal.returns-else-inside
unfolding stepped
returns-else-inside c = record { value = simp (tested (goal.at.returns-else-inside c).After-inside c.if-inside.false) (to_z-of_z c.ranges.tap); fits = search rules }
