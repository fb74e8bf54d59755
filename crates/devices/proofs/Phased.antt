-- Three made phase by phase, from what each phase is. Assumes nothing.
use mathlib.Core.Path.{◌≡◌}
use Rattle.equations.specs.Equations.{each}
use Rattle.feeder.specs.Phased.{Three}
use Rattle.feeder.specs.declared.Phase.{Phase}
use Rattle.feeder.specs.declared.Phase.TheVariants.{A, B, C}
use Rattle.integers.specs.declared.Pair.{Pair}

pub each-of : {x : Three} (f : Phase → Pair) → x.a ≡ f A → x.b ≡ f B → x.c ≡ f C → x ≡ each f
unfolding each
each-of f p q r = λ i. record { a = p i; b = q i; c = r i }
