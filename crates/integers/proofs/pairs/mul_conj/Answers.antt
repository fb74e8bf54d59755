-- `pairs::mul_conj` meets its contract: `Room` is what the two sums of products ask. Assumes nothing.
use Rattle.integers.specs.Machine.{zcalls}
use Rattle.integers.specs.Pairs.{◌·*◌}
use Rattle.integers.specs.PairLaws.{pair_eq}
use Rattle.integers.proofs.pairs.mul_conj.Goals as goal

pub returns : goal.returns
unfolding ◌·*◌
returns c = search (zcalls, pair_eq)
