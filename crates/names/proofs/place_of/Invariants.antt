-- `place_of` meets its contract: the place is that of the rest of the names behind those that passed. Assumes nothing.
use mathlib.Core.Path.{◌≡◌}
use Prim.Native.Nat.{◌+◌}
use lib.ListN.{take}
use Rattle.feeder.specs.Feeder.{place_of}
use Rattle.names.specs.Rest.{rest}
use Rattle.names.proofs.place_of.Given as goal

abbrev pub invariant-loop-i : goal.invariant-loop-i
invariant-loop-i l = l.i + place_of l.name (rest l.i l.n l.nodes) ≡ place_of l.name (take l.n l.nodes)
