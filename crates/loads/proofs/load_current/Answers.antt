-- `load_current` meets its contract: what is drawn is drawn at the voltage at which the row stands. Assumes nothing.
use mathlib.Core.Path.{◌∙◌, ap}
use Rattle.equations.specs.Sizes.{mix-phase-within}
use Rattle.integers.specs.PairLaws.{within_more}
use Rattle.loads.specs.Loads.{drawn_by}
use Rattle.loads.proofs.load_current.Goals as goal

pub drawn_by-requires : goal.drawn_by-requires
drawn_by-requires c =
    record { load_ok = c.requires.load_ok; within = rw c.voltage_on-u.ensures (within_more (mix-phase-within c.args.l.phase c.requires.within3) tt) }

pub returns : goal.returns
returns c = c.drawn_by.ensures ∙ ap (drawn_by c.args.l) c.voltage_on-u.ensures
