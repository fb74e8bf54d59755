-- `pairs::close` meets its contract: the difference is within n. Assumes nothing.
use mathlib.Core.Path.{ap, ◌∙◌}
use Rattle.integers.specs.Pairs.{◌-c◌, within, close}
use Rattle.integers.proofs.pairs.close.Goals as goal

pub returns : goal.returns
unfolding close within ◌-c◌
returns c = c.within.ensures ∙ ap (within c.args.n) c.sub.ensures
