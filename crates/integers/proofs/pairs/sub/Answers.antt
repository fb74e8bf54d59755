-- `pairs::sub` meets its contract: part by part. Assumes nothing.
use Rattle.integers.specs.Machine.{zcalls}
use Rattle.integers.specs.Pairs.{◌-c◌}
use Rattle.integers.specs.PairLaws.{pair_eq}
use Rattle.integers.proofs.pairs.sub.Goals as goal
use Rattle.integers.proofs.pairs.sub.Goals.{Start}

pub returns : goal.returns
unfolding ◌-c◌
returns c = search (zcalls, pair_eq)
