-- The study's answer for a feeder file and a buffer (01, 02). Assumes nothing.
use Rattle.std.specs.Prelude.{List, ◌++◌, ◌≡◌, ◌≤◌, ℕ, ltb, drop, length, Ok, Err}
use Rattle.answers.specs.Answers.{Outcome, Told, ◌>>=◌, ◌>>◌, number_of, refuse_if, value_of}
use Rattle.answers.specs.declared.Refusal.TheVariants.{BufferShort}
use Rattle.feeder.specs.Faults.{PointsIntoFeeder}
use Rattle.feeder.specs.Feeder.{Feeder, reading}
use Rattle.iteration.specs.Ladder.{solution}
use Rattle.ladder.specs.declared.Written.{Written}
use Rattle.report.specs.Report.{report_text}
use Rattle.rounds.specs.Rounds.{Regulated, regulated}

-- a report's text, and "the number of sweeps made"
pub record Report : Type 0 where
  pub text : List ℕ
  pub sweeps : ℕ

-- the report for a feeder's bytes: the text of the solution that the rounds come to, with their last taps; "the sweeps reported .. are those of the last round"
unfoldable pub report : List ℕ → Outcome Report
report s = do
  f ← reading s
  x ← regulated f
  Ok (record { text = report_text x.feeder x.solution.voltages x.solution.currents x.solution.sweeps; sweeps = x.solution.sweeps })

-- 40: "buffer shorter than the report", with the "length needed"
unfoldable pub fitted : List ℕ → ℕ → Outcome Report
fitted s n = do
  t ← report s
  refuse_if (ltb n (length t.text)) (BufferShort (length t.text))
  Ok t

-- the answer, and the buffer at exit: "On success bytes behind the report keep their values", and "after a refusal the output buffer holds what it held"
abbrev pub answered : Outcome Report → Outcome Written
answered (Ok t) = Ok (record { length = length t.text; sweeps = t.sweeps })
answered (Err r) = Err r

abbrev pub filled : List ℕ → Outcome Report → List ℕ
filled out (Ok t) = t.text ++ drop (length t.text) out
filled out (Err r) = out

unfoldable pub study_of : List ℕ → ℕ → Outcome Written
study_of s n = answered (fitted s n)

unfoldable pub buffer_of : List ℕ → List ℕ → List ℕ
buffer_of s out = filled out (fitted s (length out))

-- ---- the number and the value of each case, and "the number of sweeps made": a report has number 0 and its length
abbrev pub study_number : Outcome Written → ℕ
study_number (Ok w) = 0
study_number (Err x) = number_of x

abbrev pub study_value : Outcome Written → ℕ
study_value (Ok w) = w.length
study_value (Err x) = value_of x

abbrev pub study_sweeps : Outcome Written → ℕ
study_sweeps (Ok w) = w.sweeps
study_sweeps (Err x) = 0

abbrev pub report_length : Report → ℕ
report_length t = length t.text

abbrev pub sweeps_told : Outcome Report → ℕ
sweeps_told (Ok t) = t.sweeps
sweeps_told (Err r) = 0

-- an answer that tells the number, the value and the sweeps of the outcome o
pub record StudyTold (o : Outcome Report) (r : Outcome Written) : Type 0 where
  pub told : Told report_length o (study_number r) (study_value r)
  pub sweeps : study_sweeps r ≡ sweeps_told o

-- 02, S-4: an answer with the number and the line of a fault points at the first row that has it
abbrev pub StudyPoints : List ℕ → Outcome Written → Type 0
StudyPoints s r = PointsIntoFeeder s (length s ≤ 65536) (λ y. r ≡ Err y)

-- where a report of len bytes is answered, with k sweeps, for a buffer of n: the sweeps are the ladder's in the last round, from 1 to the feeder's limit
pub record StudyGood (s : List ℕ) (n len k : ℕ) : Type 0 where
  pub feeder : Feeder
  pub found : Regulated
  pub read : reading s ≡ Ok feeder
  pub regulated-as : regulated feeder ≡ Ok found
  pub solved-as : solution found.feeder ≡ Ok found.solution
  pub sweeps : k ≡ found.solution.sweeps
  pub first : 1 ≤ k
  pub limit : k ≤ feeder.limit
  pub text-length : len ≡ length (report_text found.feeder found.solution.voltages found.solution.currents found.solution.sweeps)
  pub fits : len ≤ n
