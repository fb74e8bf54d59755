-- What the exported calls answer: one number of 64 bits, made of the sweeps, of the number of a refusal and of the value beside it. Assumes nothing.
use Rattle.std.specs.Prelude.{◌≡◌, ◌%◌, ◌*◌, ◌+◌, ◌/◌, ◌<◌, ◌^◌, ℕ}
use Rattle.answers.specs.Answers.{Done, Outcome, Told}
use Rattle.ladder.specs.Study.{Report, report_length, study_number, study_sweeps, study_value, sweeps_told}
use Rattle.ladder.specs.declared.Written.{Written}
use Rattle.verdicts.specs.Check.{check_number, check_value}

-- the sweeps in bits 48 to 63, the number in bits 32 to 47, the value in bits 0 to 31
unfoldable pub word : ℕ → ℕ → ℕ → ℕ
word sweeps number value = sweeps * 2 ^ 48 + (number * 2 ^ 32 + value)

-- number 0 is a report, with its length and its sweeps, or a pass, with 0; a refusal and the check have no sweeps
abbrev pub word_of_study : Outcome Written → ℕ
word_of_study r = word (study_sweeps r) (study_number r) (study_value r)

abbrev pub word_of_check : Outcome Done → ℕ
word_of_check v = word 0 (check_number v) (check_value v)

-- a word taken apart, as a caller does it
abbrev pub sweeps_in : ℕ → ℕ
sweeps_in w = w / 2 ^ 48

abbrev pub number_in : ℕ → ℕ
number_in w = w / 2 ^ 32 % 2 ^ 16

abbrev pub value_in : ℕ → ℕ
value_in w = w % 2 ^ 32

-- a word that tells the number, the value and the sweeps of the study's outcome, and one that tells those of the check's
pub record StudyWord (o : Outcome Report) (w : ℕ) : Type 0 where
  pub fits : w < 2 ^ 64
  pub told : Told report_length o (number_in w) (value_in w)
  pub sweeps : sweeps_in w ≡ sweeps_told o

pub record CheckWord (o : Outcome Done) (w : ℕ) : Type 0 where
  pub fits : w < 2 ^ 64
  pub told : Told (λ d. 0) o (number_in w) (value_in w)
  pub sweeps : sweeps_in w ≡ 0
