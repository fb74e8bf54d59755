-- `pairs::mul` meets its contract: `Room` is what the two sums of products ask. Assumes nothing.
use Rattle.integers.specs.Machine.{zcalls}
use Rattle.integers.specs.Pairs.{◌·c◌}
use Rattle.integers.specs.PairLaws.{pair_eq}
use Rattle.integers.proofs.pairs.mul.Goals as goal

pub returns : goal.returns
unfolding ◌·c◌
returns c = search (zcalls, pair_eq)
