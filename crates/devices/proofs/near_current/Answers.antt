-- `near_current` meets its contract: what is taken, where the phases are. Assumes nothing.
use mathlib.Core.Path.{◌∙◌, ap}
use Rattle.equations.specs.Equations.{masked, near_current}
use Rattle.devices.proofs.near_current.Goals as goal

pub returns : goal.returns
unfolding near_current
returns c = c.keep.ensures ∙ ap (masked c.args.b.phases) c.taken-j.ensures
