-- `threes::mix` meets its contract: signs of size at most 1 leave room for the sum. Assumes nothing.
use mathlib.Core.Path.{◌∙◌}
use Rattle.equations.specs.Equations.{at, mix, sign_at}
use Rattle.equations.specs.Sizes.{csum-of, sign-ok, within3-at, within3-of}
use Rattle.integers.specs.PairLaws.{within_more, within-scaled}
use Rattle.integers.specs.Pairs.{scaled}
use Rattle.devices.proofs.threes.mix.Goals as goal

pub zip-requires-clause-a : goal.zip-requires-clause-a
zip-requires-clause-a c = within_more (within-scaled c.args.s.a c.requires.signs_ok.a c.requires.within3.a) tt

pub zip-requires-clause-b : goal.zip-requires-clause-b
zip-requires-clause-b c = within_more (within-scaled c.args.s.b c.requires.signs_ok.b c.requires.within3.b) tt

pub zip-requires-clause-c : goal.zip-requires-clause-c
zip-requires-clause-c c = within_more (within-scaled c.args.s.c c.requires.signs_ok.c c.requires.within3.c) tt

pub total-requires : goal.total-requires
total-requires c =
    within3-of (λ p. scaled (sign_at c.args.s p) (at c.args.x p)) c.zip.ensures.a c.zip.ensures.b c.zip.ensures.c
    (λ p. within_more (within-scaled (sign_at c.args.s p) (sign-ok c.requires.signs_ok p) (within3-at c.requires.within3 p)) tt)

pub returns : goal.returns
unfolding mix
returns c =
    c.total.ensures ∙ csum-of (λ p. scaled (sign_at c.args.s p) (at c.args.x p)) c.zip.ensures.a c.zip.ensures.b c.zip.ensures.c
