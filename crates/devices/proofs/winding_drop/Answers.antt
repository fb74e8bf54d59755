-- `winding_drop` meets its contract, phase by phase. Assumes nothing.
use Rattle.equations.specs.Equations.{at, drop_of}
use Rattle.integers.specs.Pairs.{◌·c◌, rnd_pair}
use Rattle.devices.proofs.Phased.{each-of}
use Rattle.devices.proofs.winding_drop.Goals as goal

pub returns : goal.returns
unfolding drop_of
returns c = each-of (λ p. rnd_pair (at c.args.t.z p ·c at c.args.i p) 10000000) c.zip.ensures.a c.zip.ensures.b c.zip.ensures.c
