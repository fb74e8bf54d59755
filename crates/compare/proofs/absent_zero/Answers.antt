-- `compare::absent_zero` meets its contract: phase by phase. Assumes nothing.
use mathlib.Core.Bool.{cond, true}
use mathlib.Core.Path.{◌∙◌}
use Rattle.equations.specs.Equations.{at}
use Rattle.equations.specs.Sizes.{all-of}
use Rattle.feeder.specs.Feeder.{has}
use Rattle.integers.specs.Pairs.{0c, same}
use Rattle.compare.proofs.absent_zero.Goals as goal

pub returns : goal.returns
returns c =
    let a = c.args in
    c.all.ensures ∙ all-of (λ p. cond (has a.phases p) true (same (at a.x p) 0c)) c.zip.ensures.a c.zip.ensures.b c.zip.ensures.c
