-- `threes::beyond` meets its contract: not all is within the limit. Assumes nothing.
use mathlib.Core.Bool.{not}
use mathlib.Core.Path.{◌∙◌, ap, sym}
use Rattle.equations.specs.Sizes.{beyond3-not}
use Rattle.devices.proofs.threes.beyond.Goals as goal

pub returns : goal.returns
returns c = ap not c.within.ensures ∙ sym (beyond3-not c.args.x)
