-- `threes::within` meets its contract: each phase is tested. Assumes nothing.
use borrow.Author.Rules.{rules}
use mathlib.Core.Path.{◌∙◌}
use Rattle.equations.specs.Equations.{at}
use Rattle.equations.specs.Sizes.{all-of}
use Rattle.integers.specs.Pairs.{within}
use Rattle.devices.proofs.threes.within.Goals as goal

pub returns : goal.returns
returns c =
    let t = c.map.result in
    let x = c.args.x in
    c.all.ensures ∙
    all-of {x = t.a} {y = t.b} {z = t.c} (λ p. within c.args.n (at x p)) (search rules) (search rules) (search rules)
