-- `ohms` meets its contract: the sum of the products leaves room, and is rounded once. Assumes nothing.
use mathlib.Core.Path.{◌∙◌, ap}
use Rattle.equations.specs.Equations.{at}
use Rattle.equations.specs.Sizes.{csum-of, within3-at, within3-of}
use Rattle.integers.specs.PairLaws.{within_more, within-mul}
use Rattle.integers.specs.Pairs.{◌·c◌, rnd_pair}
use Rattle.integers.specs.declared.Pair.{Pair}
use Rattle.devices.proofs.ohms.Goals as goal

pub total-requires : goal.total-requires
total-requires c =
    within3-of (λ j. at c.args.z j ·c at c.args.i j) c.zip.ensures.a c.zip.ensures.b c.zip.ensures.c
    (λ p. within_more (within-mul (within3-at c.requires.within3 p) (within3-at c.requires.within3_2 p)) tt)

pub returns : goal.returns
returns c =
    c.round.ensures ∙
    ap (λ (x : Pair). rnd_pair x 10000000)
    (c.total.ensures ∙ csum-of (λ j. at c.args.z j ·c at c.args.i j) c.zip.ensures.a c.zip.ensures.b c.zip.ensures.c)
