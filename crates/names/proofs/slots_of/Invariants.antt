-- `slots_of` meets its contract: the slot of each name that passed holds its place or one before it. Assumes nothing.
use mathlib.Core.Path.{◌≡◌}
use lib.ListN.{length}
use Rattle.names.specs.Slots.{SlottedFrom}
use Rattle.names.proofs.slots_of.Given as goal

abbrev pub invariant-loop-i : goal.invariant-loop-i
invariant-loop-i l = (length l.slots ≡ 4093) × SlottedFrom l.i l.nodes l.slots
