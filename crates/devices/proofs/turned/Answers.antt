-- `turned` meets its contract, phase by phase: the size of the turns N is worked once. Assumes nothing.
use mathlib.Core.Path.{◌∙◌, ◌≡◌, sym}
use borrow.Author.Rules.{rules, sfits_of}
use lib.IntN.{nat_abs}
use mir.Syntax.{w64}
use mir.Val.{SFits}
use Rattle.equations.specs.Equations.{mix, row_at}
use Rattle.integers.specs.Machine.{abs-read}
use Rattle.integers.specs.Pairs.{rnd_pair, scaled}
use Rattle.devices.proofs.Phased.{each-of}
use Rattle.devices.proofs.turned.Goals as goal
use Rattle.devices.proofs.turned.Goals.{After-size-d}

divisor : (z : After-size-d) → z.size-d.result ≡ nat_abs z.args.t.n
divisor z = let f : SFits w64 z.args.t.n = search sfits_of in z.size-d.ensures ∙ abs-read f

pub returns : goal.returns
returns c =
    rw (sym (divisor (goal.at.returns c).After-size-d))
    (each-of (λ p. rnd_pair (scaled c.args.t.m (mix (row_at c.args.s p) c.args.x)) c.size-d.result) (search rules) (search rules) (search rules))
