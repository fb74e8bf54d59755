-- What a reader of the feeder says of its file where it refuses nothing: a feeder that is known. Assumes nothing.
use Rattle.std.specs.Prelude.{List, ◌≡◌, ℕ, Ok}
use Rattle.answers.specs.Answers.{Done, Outcome}
use Rattle.equations.specs.Fit.{fit}
use Rattle.feeder.specs.Feeder.{Feeder, reading}
use Rattle.feeder.specs.Network.{Held}
use Rattle.feeder.specs.declared.Network.{Network}
use Rattle.reading.specs.Reading.{ReadInto, into-good}
use Rattle.sweeps.specs.Sweeps.{Known}

-- the feeder that the file holds, in arrays that hold it
pub record ReadKnown (s : List ℕ) (g : Network) : Type 0 where
  pub feeder : Feeder
  pub whole : reading s ≡ Ok feeder
  pub held : Held feeder g
  pub known : Known g

pub read-good : (s : List ℕ) {r : Outcome Done} {g : Network} (u : Done) → ReadInto (reading s) r g → r ≡ Ok u → ReadKnown s g
read-good s u h e =
    let w = into-good u h e in
    record {
      feeder = w.feeder;
      whole = w.whole;
      held = w.held;
      known = record { feeder = w.feeder; held = w.held; fit = fit s w.feeder w.whole; arranged = w.arranged };
    }
