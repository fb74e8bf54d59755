-- `radial::place` meets its contract: a step at node k, where it is placed and where it is left. Assumes nothing.
use Rattle.radial.proofs.Placing.{room, step-placed}
use native.Mathlib.Omega.{arith}
use Rattle.radial.proofs.place.Goals as goal

pub bounds-to-to : goal.bounds-to-to
bounds-to-to c = omega (arith, room _ _ _ c.args.k c.requires.placed c.requires.k_bound c.if-to-k-eq0.true, c.requires.placed.linked.few)

pub returns-then-to-above-ne0 : goal.returns-then-to-above-ne0
returns-then-to-above-ne0 c = step-placed _ _ _ c.args.k c.requires.placed c.requires.k_bound c.if-to-k-eq0.true c.if-to-above-ne0.true
