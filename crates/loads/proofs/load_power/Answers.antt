-- `load_power` meets its contract: the product is that of the voltage at which the row stands. Assumes nothing.
use mathlib.Core.Path.{◌∙◌, ap}
use Rattle.equations.specs.Sizes.{mix-phase-within}
use Rattle.integers.specs.PairLaws.{Within, room}
use Rattle.integers.specs.Pairs.{◌·*◌}
use Rattle.integers.specs.declared.Pair.{Pair}
use Rattle.loads.proofs.load_power.Goals as goal

pub mul_conj-requires : goal.mul_conj-requires
mul_conj-requires c =
    let k : Within 4000000 c.voltage_on-u.result = rw c.voltage_on-u.ensures (mix-phase-within c.args.l.phase c.requires.within3) in
    room k c.requires.within tt

pub returns : goal.returns
returns c = c.mul_conj.ensures ∙ ap (λ (u : Pair). u ·* c.args.i) c.voltage_on-u.ensures
