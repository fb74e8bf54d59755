-- `whole::rnd_to` meets its contract: the divisor is read as it is. Assumes nothing.
use mathlib.Core.Path.{◌≡◌, ◌∙◌}
use lib.Dec.{lt→ltb}
use lib.IntN.{pos, nat_abs}
use lib.Signed.{lt_z_yes}
use mir.Facts.{to_z-of_z}
use mir.Syntax.{w64}
use borrow.Author.Rules.{sfits_of}
use Rattle.integers.specs.Machine.{read}
use Rattle.integers.specs.Rounding.{rnd}
use Rattle.integers.proofs.whole.rnd_to.Goals as goal
use Rattle.integers.proofs.whole.rnd_to.Goals.{After-signed-b}

divisor : (c : After-signed-b) → read c.signed-b.result ≡ pos c.args.d
divisor c = to_z-of_z c.signed-b.ensures.fits ∙ c.signed-b.ensures.value

pub rnd_div-requires : goal.rnd_div-requires
rnd_div-requires c = rw (divisor c) (lt_z_yes (lt→ltb 0 c.args.d c.requires.d_nonzero))

pub returns : goal.returns
returns c =
    to_z-of_z {w = w64} (sfits_of c.rnd_div.type_inv)
    ∙ c.rnd_div.ensures
    ∙ (λ i. rnd (to_z-of_z c.ranges.a i) (nat_abs (divisor (goal.at.returns c).After-signed-b i)))
