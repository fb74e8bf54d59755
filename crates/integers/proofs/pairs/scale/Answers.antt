-- `pairs::scale` meets its contract: the size of a product is the product of the sizes. Assumes nothing.
use borrow.Author.Rules.{sfits_of}
use Rattle.integers.specs.Machine.{abs-read-mul, zcalls, zsize}
use Rattle.integers.specs.Pairs.{scaled}
use Rattle.integers.specs.PairLaws.{Fits, pair_eq}
use Rattle.integers.specs.Whole.{abs-mul}
use Rattle.integers.proofs.pairs.scale.Goals as goal
use Rattle.integers.proofs.pairs.scale.Goals.{Start}

fits : (s : Start) → Fits s.args.x
fits s = search sfits_of

pub mul-requires : goal.mul-requires
unfolding scaled
mul-requires c =
    omega (zsize, abs-read-mul c.ranges.k (fits (goal.at.mul-requires c).Start).re, abs-mul c.args.k c.args.x.re)

pub mul-requires-2 : goal.mul-requires-2
unfolding scaled
mul-requires-2 c =
    omega (zsize, abs-read-mul c.ranges.k (fits (goal.at.mul-requires-2 c).Start).im, abs-mul c.args.k c.args.x.im)

pub returns : goal.returns
unfolding scaled
returns c = search (zcalls, pair_eq)
