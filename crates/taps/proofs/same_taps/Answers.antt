-- `same_taps` meets its contract: each of the three taps is the same. Assumes nothing.
use mathlib.Core.Bool.{Bool, ◌&&◌, false, true}
use mathlib.Core.Path.{◌∙◌, ◌≡◌, refl}
use Rattle.equations.specs.Taps.{same_taps}
use Rattle.feeder.specs.Phased.{Taps}
use Rattle.integers.specs.Equal.{equal-whole}
use Rattle.integers.specs.Lists.{all}
use Rattle.std.specs.Ordering.{int_eq}
use Rattle.taps.proofs.same_taps.Goals as goal

and-true : (x : Bool) → (x && true) ≡ x
and-true true = refl
and-true false = refl

equal-taps : (b : Bool) (t u : Taps) → b ≡ (int_eq t.a u.a && (int_eq t.b u.b && int_eq t.c u.c)) → b ≡ same_taps t u
unfolding all
equal-taps b t u e = e ∙ simp (equal-whole, and-true)

pub returns : goal.returns
returns c = search equal-taps
