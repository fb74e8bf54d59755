-- A row of signs for each phase. Assumes nothing.
use Rattle.feeder.specs.Phased.{Signs}
use Rattle.feeder.specs.declared.PerPhase.{PerPhase}

abbrev pub Matrix : Type 0
Matrix = PerPhase Signs
