-- `ratio` meets its contract: the product leaves room. Assumes nothing.
use mathlib.Core.Path.{◌∙◌, ap}
use lib.IntN.{ℤ}
use mir.Facts.{to_z-of_z}
use Rattle.integers.specs.PairLaws.{within_more, within-scaled}
use Rattle.integers.specs.Pairs.{rnd_pair, scaled}
use Rattle.devices.proofs.ratio.Goals as goal

pub scale-y-requires : goal.scale-y-requires
scale-y-requires c = rw (to_z-of_z c.ranges.m) (within_more (within-scaled c.args.m c.requires.m_bound c.requires.within) tt)

pub returns : goal.returns
returns c =
    c.round.ensures ∙ (λ i. rnd_pair ((c.scale-y.ensures ∙ ap (λ (k : ℤ). scaled k c.args.x) (to_z-of_z c.ranges.m)) i) c.args.d)
