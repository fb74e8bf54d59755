-- `relay_voltage` meets its contract: both quotients are those of the definition, and their divisors are above 0. Assumes nothing.
use mathlib.Core.Path.{◌∙◌, ◌≡◌, ap, ap₂}
use Prim.Native.Nat.{◌*◌}
use native.Mathlib.Omega.{arith}
use lib.IntN.{nat_abs}
use mir.Syntax.{w64}
use mir.Val.{SFits}
use borrow.Author.Rules.{sfits_of}
use Rattle.equations.specs.Limits.{counted-some}
use Rattle.equations.specs.Taps.{relay_voltage}
use Rattle.integers.specs.Machine.{abs-read}
use Rattle.integers.specs.PairLaws.{Within, room, within_more, within-mul}
use Rattle.integers.proofs.PairLaws.{within-rnd}
use Rattle.integers.specs.Pairs.{◌-c◌, ◌·c◌, rnd_pair}
use Rattle.taps.proofs.relay_voltage.Goals as goal
use Rattle.taps.proofs.relay_voltage.Goals.{After-round-less, After-round-seen, After-size-current, After-size-potential, Start}

fits : (s : Start) → SFits w64 s.args.x.potential × SFits w64 s.args.x.current
fits s = search sfits_of

-- the ratios
by-potential : (c : After-size-potential) → c.size-potential.result ≡ nat_abs c.args.x.potential
by-potential c = c.size-potential.ensures ∙ abs-read (fits (goal.at.After-size-potential c).Start).0

by-current : (c : After-size-current) → c.size-current.result ≡ nat_abs c.args.x.current
by-current c = c.size-current.ensures ∙ abs-read (fits (goal.at.After-size-current c).Start).1

-- what is seen, and the drop
seen : (c : After-round-seen) → c.round-seen.result ≡ rnd_pair c.args.u (nat_abs c.args.x.potential)
seen c = c.round-seen.ensures ∙ ap (rnd_pair c.args.u) (by-potential (goal.at.After-round-seen c).After-size-potential)

less : (c : After-round-less) → c.round-less.result ≡ rnd_pair (c.args.x.z ·c c.args.i) (nat_abs c.args.x.current * 10000000)
less c = c.round-less.ensures ∙ (λ i. rnd_pair (c.mul-drop.ensures i) (by-current (goal.at.After-round-less c).After-size-current i * 10000000))

pub mul-drop-requires : goal.mul-drop-requires
mul-drop-requires c = room c.requires.relay_ok.z c.requires.within_2 tt

pub sub-requires : goal.sub-requires
sub-requires c =
    let p = counted-some c.requires.relay_ok.current in
    let a : Within 2000000 c.round-seen.result = rw (seen (goal.at.sub-requires c).After-round-seen) (within-rnd (counted-some c.requires.relay_ok.potential) c.requires.within) in
    let b : Within (2 * (100000000 * 2000000)) c.round-less.result = rw (less c) (within-rnd (omega arith) (within-mul c.requires.relay_ok.z c.requires.within_2)) in
    record { within = within_more a tt; within_2 = within_more b tt }

pub returns : goal.returns
unfolding relay_voltage
returns c = c.sub.ensures ∙ ap₂ ◌-c◌ (seen (goal.at.returns c).After-round-seen) (less (goal.at.returns c).After-round-less)
