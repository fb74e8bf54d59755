-- `compare::zero_unless` meets its contract: by the phase. Assumes nothing.
use mathlib.Core.Bool.{Bool, cond, true}
use mathlib.Core.Path.{◌∙◌, ap, sym}
use Rattle.integers.specs.Equal.{equal-pair}
use Rattle.integers.specs.Pairs.{0c, same}
use Rattle.compare.proofs.zero_unless.Goals as goal

pub returns-else-on : goal.returns-else-on
returns-else-on c =
    let a = c.args in
    c.eq.ensures ∙ equal-pair a.x 0c ∙ sym (ap (λ (b : Bool). cond b true (same a.x 0c)) c.if-on.false)
