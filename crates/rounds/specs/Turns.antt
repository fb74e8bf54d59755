-- What the arrays hold where the rounds over a feeder in memory have ended. Assumes nothing.
use Rattle.std.specs.Prelude.{List, ◌≡◌, Ok, Err}
use Rattle.answers.specs.Answers.{Outcome}
use Rattle.feeder.specs.Network.{Held}
use Rattle.feeder.specs.declared.Network.{Network}
use Rattle.feeder.specs.Phased.{Three}
use Rattle.iteration.specs.Runs.{SolvedAs}
use Rattle.iteration.specs.declared.Run.{Run}
use Rattle.rounds.specs.Rounds.{Regulated}

-- the arrays then hold the feeder with the taps of the last round, and its solution
abbrev pub Regulating-is : Outcome Regulated → Outcome Run → Network → List Three → List Three → Type 0
Regulating-is (Ok y) r n v i = Held y.feeder n × SolvedAs y.feeder (Ok y.solution) r v i
Regulating-is (Err x) r n v i = r ≡ Err x

pub record RegulatedAs (o : Outcome Regulated) (r : Outcome Run) (n : Network) (v i : List Three) : Type 0 where
  pub regulating-is : Regulating-is o r n v i
