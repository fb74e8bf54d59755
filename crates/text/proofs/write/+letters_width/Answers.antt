-- `text::write::letters_width` meets its contract: as many letters as the front has, and the last. Assumes nothing.
use Prim.Native.Nat.{◌-◌, ◌/◌}
use native.Mathlib.Omega.{arith}
use native.Mathlib.Nat.{pos_of_ne-zero}
use lib.ListN.{length-append}
use Rattle.text.specs.TextLaws.{letters-none, letters-zero, letters-more, letters-fit}
use Rattle.text.proofs.write.+letters_width.Goals as goal
use Rattle.text.proofs.write.+letters_width.Goals.{then-places-eq0-via-then-places-eq0, then-places-eq0-via-else-places-eq0+then-v-eq0}

pub returns-then-places-eq0 : goal.returns-then-places-eq0
returns-then-places-eq0 t c =
    elim c.then-places-eq0.branch [ then-places-eq0-via-then-places-eq0 w ↦ simp (w.if-places-eq0.true, letters-none) | then-places-eq0-via-else-places-eq0+then-v-eq0 w ↦ simp (w.if-v-eq0.true, letters-zero) ]

pub overflow_add-result : goal.overflow_add-result
overflow_add-result t c = omega (arith, letters-fit (c.args.places - 1) (c.args.v / 256), c.letters_width.ensures)

pub returns : goal.returns
returns t c = simp (letters-more _ _ (pos_of_ne-zero c.if-places-eq0.false) c.if-v-eq0.false, length-append, c.letters_width.ensures)
