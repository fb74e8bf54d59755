-- The machine's `==` on whole numbers and on pairs: what the tests of Pairs say of a difference of 0. Assumes nothing.
use Rattle.std.specs.Prelude.{◌≡◌, ◌&&◌, ℤ, neg_ℤ, ◌-ℤ◌}
use Rattle.std.proofs.Common.{arith, leb-true}
use Rattle.std.proofs.Math.IntN.{+ℤ_invr}
use Rattle.std.proofs.lemmas.Bool.Decides.{Decides-int_eq, same_from_decides}
use Rattle.std.specs.Bool.{Decides}
use Rattle.std.specs.Ordering.{int_eq}
use Rattle.integers.specs.declared.Pair.{Pair}
use Rattle.integers.specs.Pairs.{inside, close, same}
use Rattle.integers.specs.Whole.{abs-parts, add_parts, pos-neg, neg-neg, parts-eq}

differ : (a b : ℤ) → Decides (inside 0 (a -ℤ b)) (a ≡ b)
unfolding inside
differ a b =
    (λ e. parts-eq (omega (arith, leb-true _ _ e, add_parts a (neg_ℤ b), pos-neg b, neg-neg b, abs-parts (a -ℤ b))), λ e. rw (e, +ℤ_invr b))

pub equal-whole : (a b : ℤ) → int_eq a b ≡ inside 0 (a -ℤ b)
equal-whole a b = same_from_decides _ _ (Decides-int_eq a b) (differ a b)

pub equal-pair : (x y : Pair) → (int_eq x.re y.re && int_eq x.im y.im) ≡ same x y
unfolding same close
equal-pair x y = λ i. equal-whole x.re y.re i && equal-whole x.im y.im i
