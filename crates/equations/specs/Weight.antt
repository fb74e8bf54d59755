-- The divisor of a load's current is above 0, unless the load needs a voltage and has none. Assumes nothing.
use Rattle.std.specs.Prelude.{◌&&◌, false, true, ◌≡◌, refl, ◌*◌, ◌+◌, ◌<◌, suc, zero, ℕ, leb, nat_abs, ℤ}
use Rattle.std.proofs.Common.{arith}
use Rattle.equations.specs.Equations.{needs_voltage, weight}
use Rattle.feeder.specs.declared.LoadKind.{LoadKind}
use Rattle.feeder.specs.declared.LoadKind.TheVariants.{Current, Impedance, Power}
use Rattle.integers.specs.Bools.{clash}
use Rattle.integers.specs.Pairs.{inside, square, within}
use Rattle.integers.specs.Root.{root}
use Rattle.integers.specs.RootLaws.{root-pos}
use Rattle.integers.specs.declared.Pair.{Pair}

pub mul-pos : (a b : ℕ) → 0 < a → 0 < b → 0 < a * b
mul-pos zero b p q = absurd (omega arith)
mul-pos (suc a) zero p q = absurd (omega arith)
mul-pos (suc a) (suc b) p q = omega arith

-- a voltage that is not zero has a square above 0
pub square-pos : (u : Pair) → within 0 u ≡ false → 0 < square u
unfolding within inside square
square-pos u e = go (nat_abs u.re) (nat_abs u.im) e
  where
    go : (a b : ℕ) → (leb a 0 && leb b 0) ≡ false → 0 < a * a + b * b
    go zero zero e = clash true refl e
    go zero (suc b) e = omega arith
    go (suc a) b e = omega arith

-- 30 keeps the weight of a row that acts as P or I above 0, and 11 keeps vn there
pub weight-pos : (k : LoadKind) (vn : ℤ) (u : Pair) → 0 < nat_abs vn → (needs_voltage k && within 0 u) ≡ false → 0 < weight k vn u
unfolding weight
weight-pos Power vn u q e = square-pos u e
weight-pos Current vn u q e = mul-pos (root (square u)) (nat_abs vn) (root-pos (square-pos u e)) q
weight-pos Impedance vn u q e = mul-pos (nat_abs vn) (nat_abs vn) q q
