-- `radial::first_not_reached` meets its contract: every row passed has a rank. Assumes nothing.
use mathlib.Core.Path.{sym}
use Rattle.radial.specs.First.{first-unranked, none-unranked}
use native.Mathlib.Omega.{arith}
use Rattle.radial.proofs.first_not_reached.Goals as goal

pub returns-then-order-i-eq0 : goal.returns-then-order-i-eq0
returns-then-order-i-eq0 c = sym (first-unranked _ _ _ c.requires c.loop-i.i (omega arith) (omega arith) c.loop-i.invariant c.if-order-i-eq0.true)

pub returns : goal.returns
returns c = sym (none-unranked _ _ _ c.requires (λ j p q. c.loop-i.invariant j (omega arith) q))
