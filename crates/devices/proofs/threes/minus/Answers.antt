-- `threes::minus` meets its contract, phase by phase. Assumes nothing.
use Rattle.equations.specs.Equations.{at, minus3}
use Rattle.integers.specs.Pairs.{◌-c◌}
use Rattle.devices.proofs.Phased.{each-of}
use Rattle.devices.proofs.threes.minus.Goals as goal

pub returns : goal.returns
unfolding minus3
returns c = each-of (λ p. at c.args.x p -c at c.args.y p) c.zip.ensures.a c.zip.ensures.b c.zip.ensures.c
