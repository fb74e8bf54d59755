-- `whole::first_place_squared` meets its contract: a shift by twice the number of digits behind the first. Assumes nothing.
use mathlib.Core.Path.{ap, sym}
use Rattle.integers.specs.RootSteps.{place_squared}
use Rattle.integers.proofs.RootSteps.{place-shifted}
use Rattle.integers.proofs.whole.first_place_squared.Goals as goal

pub returns-then-k-eq0 : goal.returns-then-k-eq0
unfolding place_squared
returns-then-k-eq0 c = sym (ap place_squared c.if-k-eq0.true)

pub returns : goal.returns
returns c = place-shifted c.args.k c.requires c.if-k-eq0.false
