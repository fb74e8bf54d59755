-- A row of signs read in code: signs of size at most 1 leave room for a product, and the product is that of the sign itself. Assumes nothing.
use mathlib.Core.Path.{◌∙◌, ◌≡◌, ap}
use Prim.Native.Nat.{◌^◌, ◌≤◌}
use lib.IntN.{nat_abs, ℤ}
use mir.Facts.{to_z-of_z}
use mir.Syntax.{w64}
use mir.Val.{SFits}
use Rattle.integers.specs.Machine.{read}
use Rattle.integers.specs.PairLaws.{Within, within_more, within-scaled}
use Rattle.integers.specs.Pairs.{scaled}
use Rattle.integers.specs.declared.Pair.{Pair}

pub leaves : (k : ℤ) {x : Pair} → SFits w64 k → nat_abs k ≤ 1 → Within 2100000 x → Within (2 ^ 61) (scaled (read k) x)
leaves k f l h = rw (to_z-of_z f) (within_more (within-scaled k l h) tt)

pub product : {k : ℤ} {y : Pair} (x : Pair) → SFits w64 k → y ≡ scaled (read k) x → y ≡ scaled k x
product x f e = e ∙ ap (λ (k : ℤ). scaled k x) (to_z-of_z f)
