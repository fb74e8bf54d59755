-- `turn` meets its contract: the signs leave room for the ratio. Assumes nothing.
use Rattle.equations.specs.Sizes.{mix-within}
use Rattle.devices.proofs.turn.Goals as goal

pub ratio-requires-clause-within : goal.ratio-requires-clause-within
ratio-requires-clause-within c = rw c.mix.ensures (mix-within c.requires.signs_ok c.requires.within3)
