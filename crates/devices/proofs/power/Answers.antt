-- `power` meets its contract: the sum of the products leaves room. Assumes nothing.
use mathlib.Core.Path.{◌∙◌}
use Rattle.equations.specs.Equations.{at, power}
use Rattle.equations.specs.Sizes.{csum-of, within3-at, within3-of}
use Rattle.integers.specs.PairLaws.{within_more, within-mul-conj}
use Rattle.integers.specs.Pairs.{◌·*◌}
use Rattle.devices.proofs.power.Goals as goal

pub total-requires : goal.total-requires
total-requires c =
    within3-of (λ p. at c.args.x p ·* at c.args.y p) c.zip.ensures.a c.zip.ensures.b c.zip.ensures.c
    (λ p. within_more (within-mul-conj (within3-at c.requires.within3 p) (within3-at c.requires.within3_2 p)) tt)

pub returns : goal.returns
unfolding power
returns c = c.total.ensures ∙ csum-of (λ p. at c.args.x p ·* at c.args.y p) c.zip.ensures.a c.zip.ensures.b c.zip.ensures.c
