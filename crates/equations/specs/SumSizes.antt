-- How large a sum over rows can be, each of which is within a limit. Assumes nothing.
use Rattle.std.specs.Prelude.{List, [], ◌∷◌, ◌≡◌, ◌*◌, ◌+◌, ◌≤◌, suc, zero, ℕ, length}
use Rattle.std.proofs.Common.{arith}
use Rattle.equations.specs.Equations.{sum3}
use Rattle.equations.specs.Sizes.{Within3, within-zero, within3-plus, within3-zero}
use Rattle.feeder.specs.Phased.{Three}
use Rattle.integers.specs.Lists.{csum, All}
use Rattle.integers.specs.PairLaws.{Within, within-add}
use Rattle.integers.specs.Pairs.{◌+c◌}
use Rattle.integers.specs.declared.Pair.{Pair}

-- a sum of at most n
pub csum-within : {X : Type 0} (n m : ℕ) (f : X → Pair) (l : List X) → length l ≤ n → All (λ x. Within m (f x)) l → Within (n * m) (csum f l)
unfolding csum
csum-within n m f [] q h = within-zero
csum-within zero m f (x ∷ l) q h = absurd (omega arith)
csum-within (suc n) m f (x ∷ l) q h =
    let w : Within (m + n * m) (f x +c csum f l) = within-add h.0 (csum-within n m f l (omega arith) h.1) in
    record { re = omega (arith, w.re); im = omega (arith, w.im) }

pub sum3-within : {X : Type 0} (n m : ℕ) (f : X → Three) (l : List X) → length l ≤ n → All (λ x. Within3 m (f x)) l → Within3 (n * m) (sum3 f l)
unfolding sum3
sum3-within n m f [] q h = within3-zero
sum3-within zero m f (x ∷ l) q h = absurd (omega arith)
sum3-within (suc n) m f (x ∷ l) q h =
    let e : m + n * m ≡ suc n * m = omega arith in
    rw e at (within3-plus h.0 (sum3-within n m f l (omega arith) h.1))
