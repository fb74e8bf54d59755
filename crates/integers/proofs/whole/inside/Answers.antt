-- `whole::inside` meets its contract: the size is compared. Assumes nothing.
use mathlib.Core.Path.{ap, ◌∙◌}
use lib.Dec.{leb}
use lib.IntN.{nat_abs}
use mir.Facts.{to_z-of_z}
use Rattle.integers.specs.Pairs.{inside}
use Rattle.integers.proofs.whole.inside.Goals as goal

pub returns : goal.returns
unfolding inside
returns c = ap (λ m. leb m c.args.n) (c.size.ensures ∙ ap nat_abs (to_z-of_z c.ranges.a))
