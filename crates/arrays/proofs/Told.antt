-- What a test of a number that was passed on tells of the number itself. Assumes nothing.
use mathlib.Core.Bool.{Bool}
use mathlib.Core.Path.{◌∙◌, ◌≡◌, ap, sym}
use Prim.Native.Nat.{ℕ}
use lib.IntN.{ℤ}
use mir.Facts.{to_z-of_z}
use mir.Syntax.{w64}
use mir.Val.{SFits}
use Rattle.integers.specs.Machine.{read}
use Rattle.integers.specs.Pairs.{inside}

pub told : {z : ℤ} → SFits w64 z → (n : ℕ) {b d : Bool} → b ≡ inside n (read z) → b ≡ d → inside n z ≡ d
told h n e t = sym (ap (inside n) (to_z-of_z h)) ∙ sym e ∙ t
