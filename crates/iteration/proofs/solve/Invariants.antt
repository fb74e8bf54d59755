-- `solve` meets its contract: before sweep k the rest of the run is the run. Assumes nothing.
use Rattle.arrays.specs.Arrays.{Spare}
use Rattle.feeder.specs.Feeder.{Feeder}
use Rattle.feeder.specs.Network.{Held}
use Rattle.iteration.specs.Runs.{Room}
use Rattle.iteration.proofs.RunLaws.{Here}
use Rattle.iteration.proofs.solve.Given as goal

abbrev pub invariant-loop-k : goal.invariant-loop-k
invariant-loop-k l =
    ((f : Feeder) → Held f l.network → Here f l.k l.v)
    × (Room l.network.rows l.v × (Room l.network.rows l.next × Spare l.network.rows l.i))
