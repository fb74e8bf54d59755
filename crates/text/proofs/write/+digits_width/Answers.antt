-- `text::write::digits_width` meets its contract: as many digits as the front has, and the last. Assumes nothing.
use Prim.Native.Nat.{◌-◌, ◌/◌}
use native.Mathlib.Omega.{arith}
use native.Mathlib.Nat.{pos_of_ne-zero}
use lib.ListN.{length-append}
use Rattle.text.specs.TextLaws.{digits-none, digits-one, digits_more, digits-fit}
use Rattle.text.proofs.write.+digits_width.Goals as goal

pub returns-then-places-eq0 : goal.returns-then-places-eq0
returns-then-places-eq0 t c = simp (c.if-places-eq0.true, digits-none)

pub returns-then-n-lt10 : goal.returns-then-n-lt10
returns-then-n-lt10 t c = simp (digits-one _ _ (pos_of_ne-zero c.if-places-eq0.false) c.if-n-lt10.true)

pub overflow_add-result : goal.overflow_add-result
overflow_add-result t c = omega (arith, digits-fit (c.args.places - 1) (c.args.n / 10), c.digits_width.ensures)

pub returns : goal.returns
returns t c = simp (digits_more _ _ (pos_of_ne-zero c.if-places-eq0.false) c.if-n-lt10.false, length-append, c.digits_width.ensures)
