-- `loss` meets its contract: the drop's power with its own current. Assumes nothing.
use mathlib.Core.Path.{◌∙◌, ap}
use Rattle.equations.specs.Equations.{power}
use Rattle.equations.specs.Limits.{drop-within}
use Rattle.equations.specs.Sizes.{within3-more}
use Rattle.feeder.specs.Phased.{Three}
use Rattle.devices.proofs.loss.Goals as goal

pub power-requires : goal.power-requires
power-requires c =
    record { within3 = rw c.drop_of-e.ensures (within3-more (drop-within c.args.d c.requires.device_ok c.requires.within3) tt); within3_2 = within3-more c.requires.within3 tt }

pub returns : goal.returns
returns c = c.power.ensures ∙ ap (λ (e : Three). power e c.args.i) c.drop_of-e.ensures
