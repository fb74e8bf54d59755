-- `regulate` meets its contract: before each round the rounds that are left are the rounds. Assumes nothing.
use Rattle.std.specs.Prelude.{◌≡◌, ◌-◌, replicate}
use Rattle.equations.specs.Equations.{zero3}
use Rattle.feeder.specs.Feeder.{Feeder}
use Rattle.feeder.specs.Network.{Held}
use Rattle.rounds.proofs.Turns.{Reached}
use Rattle.sweeps.specs.Retapped.{BranchesAlone}
use Rattle.sweeps.specs.Sweeps.{Known}
use Rattle.rounds.proofs.regulate.Given as goal

abbrev pub invariant-loop : goal.invariant-loop
invariant-loop l = record {
  no-voltage : l.v ≡ replicate 201 zero3;
  no-current : l.i ≡ replicate 201 zero3;
  known : Known l.network;
  rest : BranchesAlone l.fn.network l.network;
  reached : (f : Feeder) → Held f l.fn.network → Reached f (32 - l.counter) l.network;
}
