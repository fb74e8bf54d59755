-- `pairs::round` meets its contract: part by part. Assumes nothing.
use Rattle.integers.specs.Machine.{zcalls}
use Rattle.integers.specs.Pairs.{rnd_pair}
use Rattle.integers.specs.PairLaws.{pair_eq}
use Rattle.integers.proofs.pairs.round.Goals as goal

pub returns : goal.returns
unfolding rnd_pair
returns c = search (zcalls, pair_eq)
