-- The reading goes on behind a test that finds nothing. Assumes nothing.
use Rattle.std.specs.Prelude.{◌≡◌, ℕ, Option, Some, None, Err}
use Rattle.answers.specs.Answers.{Outcome, ◌>>◌, refuse_at}
use Rattle.answers.specs.declared.Refusal.{Refusal}
use Rattle.feeder.specs.Feeder.{Feeder}

-- a test that finds a line, and one that finds none
pub stopped : {t : Option ℕ} {n : ℕ} (x : ℕ → Refusal) (o : Outcome Feeder) → t ≡ Some n → (refuse_at x t >> o) ≡ Err (x n)
stopped x o e = rw e

pub goes_on : {t : Option ℕ} (x : ℕ → Refusal) (o : Outcome Feeder) → t ≡ None → (refuse_at x t >> o) ≡ o
goes_on x o e = rw e
