-- `threes::total` meets its contract: two sums leave room. Assumes nothing.
use mathlib.Core.Path.{◌∙◌, ap}
use Rattle.integers.specs.PairLaws.{within-add, within_more}
use Rattle.integers.specs.Pairs.{◌+c◌}
use Rattle.integers.specs.declared.Pair.{Pair}
use Rattle.devices.proofs.threes.total.Goals as goal

pub add-requires : goal.add-requires
add-requires c = record { within = within_more c.requires.a tt; within_2 = rw c.add-t.ensures (within-add c.requires.b c.requires.c) }

pub returns : goal.returns
returns c = c.add.ensures ∙ ap (λ (t : Pair). c.args.x.a +c t) c.add-t.ensures
