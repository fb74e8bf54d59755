-- `threes::close` meets its contract: each phase is tested. Assumes nothing.
use borrow.Author.Rules.{rules}
use mathlib.Core.Path.{◌∙◌}
use Rattle.equations.specs.Equations.{at}
use Rattle.equations.specs.Sizes.{all-of}
use Rattle.integers.specs.Pairs.{close}
use Rattle.devices.proofs.threes.close.Goals as goal

pub returns : goal.returns
returns c =
    let t = c.zip.result in
    let x = c.args.x in
    let y = c.args.y in
    c.all.ensures ∙
    all-of {x = t.a} {y = t.b} {z = t.c} (λ p. close c.args.n (at x p) (at y p)) (search rules) (search rules) (search rules)
