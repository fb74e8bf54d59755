-- `whole::root_digits` meets its contract: 32 less half of the count of leading zeros. Assumes nothing.
use native.Mathlib.Omega.{arith}
use Rattle.integers.proofs.RootSteps.{leading-digits}
use Rattle.integers.proofs.whole.root_digits.Goals as goal

pub returns : goal.returns
returns c = record { digits = leading-digits c.args.n (omega (arith, c.ranges.n.fits)); few = omega arith }
