-- `regulate` meets its contract: the divisor is 160 less the tap, and above 0. Assumes nothing.
use mathlib.Core.Path.{◌∙◌, ◌≡◌, ap}
use native.Mathlib.Omega.{arith}
use lib.IntN.{◌-ℤ◌, nat_abs, pos, ℤ}
use mir.Facts.{to_z-of_z}
use Rattle.equations.specs.Limits.{divisor-in}
use Rattle.integers.specs.Machine.{zsize}
use Rattle.integers.specs.PairLaws.{within_more}
use Rattle.integers.specs.Pairs.{rnd_pair, scaled}
use Rattle.devices.proofs.regulate.Goals as goal
use Rattle.devices.proofs.regulate.Goals.{After-size-d}

divisor : (c : After-size-d) → c.size-d.result ≡ nat_abs (pos 160 -ℤ c.args.tap)
divisor c =
    let g = c.sub-k.ensures in
    c.size-d.ensures ∙ ap nat_abs (to_z-of_z g.fits ∙ g.value ∙ ap (λ (z : ℤ). pos 160 -ℤ z) (to_z-of_z c.ranges.tap))

pub sub-k-requires : goal.sub-k-requires
sub-k-requires c = omega zsize

pub ratio-requires : goal.ratio-requires
ratio-requires c =
    let e = divisor c in
    let b = divisor-in c.args.tap c.requires.tap_bound in
    record { m_bound = omega arith; d_nonzero = omega arith; d_bound = omega arith; within = within_more c.requires.within tt }

pub returns : goal.returns
returns c = c.ratio.ensures ∙ ap (rnd_pair (scaled (pos 160) c.args.x)) (divisor (goal.at.returns c).After-size-d)
