-- `line_drop` meets its contract, phase by phase: a row of the symmetric matrix for each. Assumes nothing.
use mathlib.Core.Path.{◌∙◌, ◌≡◌}
use borrow.Author.Rules.{rules}
use Rattle.equations.specs.Equations.{at, drop_of, z_of}
use Rattle.equations.specs.Sizes.{line_row, z_row}
use Rattle.feeder.specs.Feeder.{abc}
use Rattle.feeder.specs.declared.Phase.{Phase}
use Rattle.feeder.specs.declared.Phase.TheVariants.{A, B, C}
use Rattle.integers.specs.Lists.{csum}
use Rattle.integers.specs.Pairs.{◌·c◌, rnd_pair}
use Rattle.integers.specs.declared.Pair.{Pair}
use Rattle.devices.proofs.Phased.{each-of}
use Rattle.devices.proofs.line_drop.Goals as goal

pub returns : goal.returns
unfolding drop_of
returns c =
    let z = c.args.z in
    let x = c.args.i in
    let row : Phase → Pair = λ p. rnd_pair (csum (λ j. at (z_row z p) j ·c at x j) abc) 10000000 in
    let a : c.map.result.a ≡ row A = search rules in
    let b : c.map.result.b ≡ row B = search rules in
    let d : c.map.result.c ≡ row C = search rules in
    each-of (λ p. rnd_pair (csum (λ j. z_of z p j ·c at x j) abc) 10000000) (a ∙ line_row z A x) (b ∙ line_row z B x) (d ∙ line_row z C x)
