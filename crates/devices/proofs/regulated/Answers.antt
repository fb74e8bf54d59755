-- `regulated` meets its contract, phase by phase. Assumes nothing.
use lib.IntN.{pos}
use Rattle.equations.specs.Equations.{at, tap_divisor, through_of}
use Rattle.integers.specs.Pairs.{rnd_pair, scaled}
use Rattle.devices.proofs.Phased.{each-of}
use Rattle.devices.proofs.regulated.Goals as goal

pub returns : goal.returns
unfolding through_of
returns c =
    each-of (λ p. rnd_pair (scaled (pos 160) (at c.args.x p)) (tap_divisor c.args.d.taps p)) c.zip.ensures.a c.zip.ensures.b c.zip.ensures.c
