-- `pairs::within` meets its contract: both parts are tested. Assumes nothing.
use mathlib.Core.Path.{◌≡◌, ap, ◌∙◌}
use mir.Facts.{to_z-of_z}
use borrow.Author.Rules.{sfits_of}
use Rattle.integers.specs.Bools.{and_yes, and_no}
use Rattle.integers.specs.Pairs.{inside, within}
use Rattle.integers.specs.PairLaws.{Fits}
use Rattle.integers.proofs.pairs.within.Goals as goal
use Rattle.integers.proofs.pairs.within.Goals.{After-inside, After-inside-then-inside, Start}

fits : (s : Start) → Fits s.args.x
fits s = search sfits_of

first : (c : After-inside) → c.inside.result ≡ inside c.args.n c.args.x.re
first c = c.inside.ensures ∙ ap (inside c.args.n) (to_z-of_z (fits (goal.at.After-inside c).Start).re)

second : (c : After-inside-then-inside) → c.inside-then-inside.result ≡ inside c.args.n c.args.x.im
second c = c.inside-then-inside.ensures ∙ ap (inside c.args.n) (to_z-of_z (fits (goal.at.After-inside-then-inside c).Start).im)

pub returns-then-inside : goal.returns-then-inside
unfolding within
returns-then-inside c = and_yes c.if-inside.true (first (goal.at.returns-then-inside c).After-inside) (second (goal.at.returns-then-inside c).After-inside-then-inside)

pub returns-else-inside : goal.returns-else-inside
unfolding within
returns-else-inside c = and_no _ c.if-inside.false (first (goal.at.returns-else-inside c).After-inside)
