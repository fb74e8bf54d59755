-- One for each phase: pairs, taps, signs, and whether the phase is there. Assumes nothing.
use Rattle.std.specs.Prelude.{Bool, ℤ}
use Rattle.feeder.specs.declared.PerPhase.{PerPhase}
use Rattle.integers.specs.declared.Pair.{Pair}

abbrev pub Three : Type 0
Three = PerPhase Pair

abbrev pub Signs : Type 0
Signs = PerPhase ℤ

abbrev pub Phases : Type 0
Phases = PerPhase Bool

abbrev pub Taps : Type 0
Taps = PerPhase ℤ
