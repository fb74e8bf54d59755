-- The words of all answers fit into 64 bits, and each can be taken apart into the sweeps, the number and the value. Assumes nothing.
use Rattle.std.specs.Prelude.{List, ◌≡◌, refl, ◌<◌, ◌^◌, ◌≤◌, ℕ, Ok, Err}
use Rattle.std.proofs.Common.{◌∙◌, arith}
use Rattle.answers.specs.Answers.{Done, Outcome, done, number_of, value_of}
use Rattle.answers.specs.declared.Refusal.{Refusal}
use Rattle.answers.specs.declared.Refusal.TheVariants.{BufferShort, CurrentBeyond, CurrentDiffers, Layout, LoadBeyond, NameDiffers, NotReached, NotSettled, NotZero, OutOfLimit, PhaseAbsent, ReportLayout, SecondTo, SourceDiffers, TapDiffers, TapsMoving, TooLong, TotalDiffers, UnknownFrom, VoltageBeyond, VoltageOff, ZeroVoltage}
use Rattle.flarecomb.specs.CheckValues.{check-value}
use Rattle.flarecomb.specs.StudyValues.{study-length, study-sweeps, study-value}
use Rattle.flarecomb.specs.Words.{CheckWord, StudyWord, word, word_of_check, word_of_study}
use Rattle.flarecomb.specs.Apart.{Apart, apart}
use Rattle.ladder.specs.Study.{fitted, study_number, study_of, study_sweeps, study_value}
use Rattle.ladder.proofs.StudyLaws.{study-told}
use Rattle.ladder.specs.declared.Written.{Written}
use Rattle.verdicts.specs.Check.{check_number, check_value, checked}
use Rattle.verdicts.proofs.Passed.{check-told}

-- the table's numbers are 9 to 56
pub numbers-in : (x : Refusal) → (9 ≤ number_of x) × (number_of x ≤ 56)
numbers-in TooLong = (omega arith, omega arith)
numbers-in (Layout n) = (omega arith, omega arith)
numbers-in (OutOfLimit n) = (omega arith, omega arith)
numbers-in (UnknownFrom n) = (omega arith, omega arith)
numbers-in (SecondTo n) = (omega arith, omega arith)
numbers-in (NotReached n) = (omega arith, omega arith)
numbers-in (PhaseAbsent n) = (omega arith, omega arith)
numbers-in (NotZero n) = (omega arith, omega arith)
numbers-in (ZeroVoltage n) = (omega arith, omega arith)
numbers-in (LoadBeyond n) = (omega arith, omega arith)
numbers-in (CurrentBeyond n) = (omega arith, omega arith)
numbers-in (VoltageBeyond n) = (omega arith, omega arith)
numbers-in (NotSettled n) = (omega arith, omega arith)
numbers-in (TapsMoving n) = (omega arith, omega arith)
numbers-in (BufferShort n) = (omega arith, omega arith)
numbers-in ReportLayout = (omega arith, omega arith)
numbers-in (NameDiffers n) = (omega arith, omega arith)
numbers-in (SourceDiffers n) = (omega arith, omega arith)
numbers-in (CurrentDiffers n) = (omega arith, omega arith)
numbers-in (VoltageOff n) = (omega arith, omega arith)
numbers-in TotalDiffers = (omega arith, omega arith)
numbers-in (TapDiffers n) = (omega arith, omega arith)

pub refusal-apart : (x : Refusal) → value_of x < 2 ^ 32 → Apart (word 0 (number_of x) (value_of x)) 0 (number_of x) (value_of x)
refusal-apart x q = let n = numbers-in x in apart 0 (number_of x) (value_of x) (omega arith) (omega arith) q

-- ---- every word that the study, and that the check, answers
pub study-apart : (s : List ℕ) (n : ℕ) → let r = study_of s n in Apart (word_of_study r) (study_sweeps r) (study_number r) (study_value r)
study-apart s n = by (study_of s n) refl
  where
    by : (x : Outcome Written) → study_of s n ≡ x → Apart (word_of_study x) (study_sweeps x) (study_number x) (study_value x)
    by (Ok w) e = let l = study-length s n w e in let m = study-sweeps s n w e in apart w.sweeps 0 w.length (omega arith) (omega arith) (omega arith)
    by (Err x) e = let k = study-value s n x e in refusal-apart x (omega arith)

pub check-apart : (s t : List ℕ) → let v = checked s t in Apart (word_of_check v) 0 (check_number v) (check_value v)
check-apart s t = by (checked s t) refl
  where
    by : (x : Outcome Done) → checked s t ≡ x → Apart (word_of_check x) 0 (check_number x) (check_value x)
    by (Ok d) e = apart 0 0 0 (omega arith) (omega arith) (omega arith)
    by (Err x) e = let k = check-value s t x e in refusal-apart x (omega arith)

-- so a word tells the number, the value and the sweeps of its outcome
pub study-word : (s : List ℕ) (n w : ℕ) → w ≡ word_of_study (study_of s n) → StudyWord (fitted s n) w
study-word s n w e =
    let a = study-apart s n in
    let h = study-told s n (study_of s n) refl in
    rw e (record { fits = a.fits; told = record { number = a.number-back ∙ h.told.number; value = a.value-back ∙ h.told.value }; sweeps = a.sweeps-back ∙ h.sweeps })

pub check-word : (s t : List ℕ) (w : ℕ) → w ≡ word_of_check (checked s t) → CheckWord (checked s t) w
check-word s t w e =
    let a = check-apart s t in
    let h = check-told s t {v = checked s t} refl in
    rw e (record { fits = a.fits; told = record { number = a.number-back ∙ h.number; value = a.value-back ∙ h.value }; sweeps = a.sweeps-back })

-- ---- the check's word is 0 for a pass and for nothing else
pub zero-passes : (x : Outcome Done) → word_of_check x ≡ 0 → x ≡ Ok done
unfolding word
zero-passes (Ok d) e = refl
zero-passes (Err x) e = let n = numbers-in x in absurd (omega arith)
