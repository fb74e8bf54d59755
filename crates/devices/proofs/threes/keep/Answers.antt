-- `threes::keep` meets its contract, phase by phase. Assumes nothing.
use mathlib.Core.Bool.{cond}
use Rattle.equations.specs.Equations.{at, masked}
use Rattle.feeder.specs.Feeder.{has}
use Rattle.integers.specs.Pairs.{0c}
use Rattle.devices.proofs.Phased.{each-of}
use Rattle.devices.proofs.threes.keep.Goals as goal

pub returns : goal.returns
unfolding masked
returns c = each-of (λ p. cond (has c.args.f p) (at c.args.x p) 0c) c.zip.ensures.a c.zip.ensures.b c.zip.ensures.c
