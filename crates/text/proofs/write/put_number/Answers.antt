-- `text::write::put_number` meets its contract: a minus, where it is due, and the digits behind it. Assumes nothing.
use mathlib.Core.Path.{◌≡◌, ap, ◌∙◌}
use mathlib.Core.List.{◌∷◌}
use native.Mathlib.Omega.{arith}
use native.Mathlib.Numerals.{add-one}
use lib.IntN.{nat_abs}
use lib.ListN.{length, length-set}
use mir.Facts.{to_z-of_z}
use Rattle.integers.specs.Machine.{read}
use Rattle.text.specs.Text.{digits, decimal}
use Rattle.text.specs.TextLaws.{decimal-below, decimal-above}
use Rattle.text.proofs.write.put_number.Goals as goal
use Rattle.text.proofs.write.put_number.Goals.{After-size-n, Else-z-lt0, Start, Then-z-lt0}

back : (c : Start) → read c.args.z ≡ c.args.z
back c = to_z-of_z c.ranges.z

sized : (c : After-size-n) → c.size-n.result ≡ nat_abs c.args.z
sized c = c.size-n.ensures ∙ ap nat_abs (back (goal.at.After-size-n c).Start)

below : (c : Then-z-lt0) → let z = c.args.z in decimal z ≡ 45 ∷ digits 20 (nat_abs z)
below c = decimal-below _ (rw (back (goal.at.Then-z-lt0 c).Start) at c.if-z-lt0.true)

above : (c : Else-z-lt0) → let z = c.args.z in decimal z ≡ digits 20 (nat_abs z)
above c = decimal-above _ (rw (back (goal.at.Else-z-lt0 c).Start) at c.if-z-lt0.false)

pub bounds-out-at : goal.bounds-out-at
bounds-out-at c = omega (arith, c.requires, ap length (below c))

pub put_digits-requires : goal.put_digits-requires
put_digits-requires c = simp (length-set, sized (goal.at.put_digits-requires c).After-size-n) (omega (arith, ap length (below (goal.at.put_digits-requires c).Then-z-lt0), c.requires))

pub returns-then-z-lt0 : goal.returns-then-z-lt0
returns-then-z-lt0 c =
    let p = c.put_digits.ensures in
    simp (below (goal.at.returns-then-z-lt0 c).Then-z-lt0, ← sized (goal.at.returns-then-z-lt0 c).After-size-n) (record { next = omega (arith, p.next); holds = p.holds ∙ simp add-one })

pub put_digits-requires-2 : goal.put_digits-requires-2
put_digits-requires-2 c = simp (sized (goal.at.put_digits-requires-2 c).After-size-n) (omega (arith, ap length (above (goal.at.put_digits-requires-2 c).Else-z-lt0), c.requires))

pub returns : goal.returns
returns c = simp (above (goal.at.returns c).Else-z-lt0, ← sized (goal.at.returns c).After-size-n) c.put_digits-2.ensures
