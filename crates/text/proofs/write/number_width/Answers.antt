-- `text::write::number_width` meets its contract. Assumes nothing.
use mathlib.Core.Path.{◌≡◌, sym, ap, ◌∙◌}
use mathlib.Core.List.{◌∷◌}
use Prim.Native.Nat.{ℕ, suc}
use native.Mathlib.Omega.{arith}
use native.Mathlib.Numerals.{add-one}
use lib.IntN.{nat_abs}
use lib.ListN.{length}
use mir.Facts.{to_z-of_z}
use Rattle.integers.specs.Machine.{read}
use Rattle.text.specs.Text.{digits, decimal}
use Rattle.text.specs.TextLaws.{decimal-below, decimal-above, digits-fit}
use Rattle.text.proofs.write.number_width.Goals as goal
use Rattle.text.proofs.write.number_width.Goals.{After-digits_width-k, After-size-n, Else-z-lt0, Start, Then-z-lt0}

back : (c : Start) → read c.args.z ≡ c.args.z
back c = to_z-of_z c.ranges.z

sized : (c : After-size-n) → c.size-n.result ≡ nat_abs c.args.z
sized c = c.size-n.ensures ∙ ap nat_abs (back (goal.at.After-size-n c).Start)

below : (c : Then-z-lt0) → let z = c.args.z in decimal z ≡ 45 ∷ digits 20 (nat_abs z)
below c = decimal-below _ (rw (back (goal.at.Then-z-lt0 c).Start) at c.if-z-lt0.true)

above : (c : Else-z-lt0) → let z = c.args.z in decimal z ≡ digits 20 (nat_abs z)
above c = decimal-above _ (rw (back (goal.at.Else-z-lt0 c).Start) at c.if-z-lt0.false)

wide : (c : After-digits_width-k) → c.digits_width-k.result ≡ length (digits 20 (nat_abs c.args.z))
wide c = c.digits_width-k.ensures ∙ ap (λ (n : ℕ). length (digits 20 n)) (sized (goal.at.After-digits_width-k c).After-size-n)

pub overflow_add-result : goal.overflow_add-result
overflow_add-result c = omega (arith, c.digits_width-k.ensures, digits-fit 20 c.size-n.result)

pub returns-then-z-lt0 : goal.returns-then-z-lt0
returns-then-z-lt0 c = add-one _ ∙ ap suc (wide (goal.at.returns-then-z-lt0 c).After-digits_width-k) ∙ sym (ap length (below c))

pub returns-else-z-lt0 : goal.returns-else-z-lt0
returns-else-z-lt0 c = wide (goal.at.returns-else-z-lt0 c).After-digits_width-k ∙ sym (ap length (above c))
