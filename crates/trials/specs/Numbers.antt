-- Document 01's table of refusals, row by row, with 35 and 56 of document 02: the number of each, and the value that comes with it, here 7, or 0 where the table has none. Assumes nothing.
use Rattle.std.specs.Prelude.{List, [], ◌∷◌, map, ◌≡◌, refl}
use Rattle.answers.specs.Answers.{number_of, value_of}
use Rattle.answers.specs.declared.Refusal.{Refusal}
use Rattle.answers.specs.declared.Refusal.TheVariants.{TooLong, Layout, OutOfLimit, UnknownFrom, SecondTo, NotReached, PhaseAbsent, NotZero, ZeroVoltage, LoadBeyond, CurrentBeyond, VoltageBeyond, NotSettled, TapsMoving, BufferShort, ReportLayout, NameDiffers, SourceDiffers, CurrentDiffers, VoltageOff, TotalDiffers, TapDiffers}

abbrev pub table : List Refusal
table =
    TooLong ∷ Layout 7 ∷ OutOfLimit 7 ∷ UnknownFrom 7 ∷ SecondTo 7 ∷ NotReached 7 ∷ PhaseAbsent 7 ∷ NotZero 7 ∷ ZeroVoltage 7 ∷ LoadBeyond 7
    ∷ CurrentBeyond 7 ∷ VoltageBeyond 7 ∷ NotSettled 7 ∷ TapsMoving 7 ∷ BufferShort 7 ∷ ReportLayout ∷ NameDiffers 7 ∷ SourceDiffers 7 ∷ CurrentDiffers 7 ∷ VoltageOff 7 ∷ TotalDiffers ∷ TapDiffers 7 ∷ []

pub numbers : map number_of table ≡ 9 ∷ 10 ∷ 11 ∷ 20 ∷ 21 ∷ 22 ∷ 23 ∷ 24 ∷ 30 ∷ 31 ∷ 32 ∷ 33 ∷ 34 ∷ 35 ∷ 40 ∷ 50 ∷ 51 ∷ 52 ∷ 53 ∷ 54 ∷ 55 ∷ 56 ∷ []
numbers = refl

pub values : map value_of table ≡ 0 ∷ 7 ∷ 7 ∷ 7 ∷ 7 ∷ 7 ∷ 7 ∷ 7 ∷ 7 ∷ 7 ∷ 7 ∷ 7 ∷ 7 ∷ 7 ∷ 7 ∷ 0 ∷ 7 ∷ 7 ∷ 7 ∷ 7 ∷ 0 ∷ 7 ∷ []
values = refl
