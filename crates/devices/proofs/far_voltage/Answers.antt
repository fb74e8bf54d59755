-- `far_voltage` meets its contract: what passes through less the drop, where the phases are. Assumes nothing.
use mathlib.Core.Path.{◌∙◌, ap}
use Rattle.equations.specs.Equations.{far_voltage, masked, minus3}
use Rattle.equations.specs.Limits.{drop-within, through-within}
use Rattle.equations.specs.Sizes.{within3-more}
use Rattle.devices.proofs.far_voltage.Goals as goal

pub minus-w-requires : goal.minus-w-requires
minus-w-requires c =
    let d = c.args.b.device in record { within3 = rw c.through-v.ensures (within3-more (through-within d c.requires.device_ok c.requires.within3) tt); within3_2 = rw c.drop_of-e.ensures (within3-more (drop-within d c.requires.device_ok c.requires.within3_2) tt) }

pub returns : goal.returns
unfolding far_voltage
returns c =
    c.keep.ensures ∙ ap (masked c.args.b.phases) (c.minus-w.ensures ∙ (λ i. minus3 (c.through-v.ensures i) (c.drop_of-e.ensures i)))
