-- `set_taps` meets its contract: the rows before k have their taps. Assumes nothing.
use mathlib.Core.List.{List}
use Prim.Native.Nat.{ℕ}
use lib.ListN.{get_or}
use Rattle.feeder.specs.Feeder.{no_taps}
use Rattle.feeder.specs.Phased.{Taps}
use Rattle.branch_taps.specs.Setting.{Setting}
use Rattle.reported_taps.proofs.set_taps.Given as goal

-- the taps of each row
abbrev pub given : List Taps → ℕ → Taps
given taps k = get_or taps k no_taps

abbrev pub invariant-loop-k : goal.invariant-loop-k
invariant-loop-k l = Setting l.k l.initial.branches l.branches (given l.taps)
