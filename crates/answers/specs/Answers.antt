-- Refusals (01, 02): the number and the value of each, and what is either worked out or refused. Assumes nothing.
use Rattle.std.specs.Prelude.{Bool, false, true, ◌≡◌, ℕ, Option, Some, None, Result, Ok, Err}
use Rattle.answers.specs.declared.Refusal.{Refusal}
use Rattle.answers.specs.declared.Refusal.TheVariants.{BufferShort, CurrentBeyond, CurrentDiffers, Layout, LoadBeyond, NameDiffers, NotReached, NotSettled, NotZero, OutOfLimit, PhaseAbsent, ReportLayout, SecondTo, SourceDiffers, TapDiffers, TapsMoving, TooLong, TotalDiffers, UnknownFrom, VoltageBeyond, VoltageOff, ZeroVoltage}

-- the table's column "No."
abbrev pub number_of : Refusal → ℕ
number_of TooLong = 9
number_of (Layout n) = 10
number_of (OutOfLimit n) = 11
number_of (UnknownFrom n) = 20
number_of (SecondTo n) = 21
number_of (NotReached n) = 22
number_of (PhaseAbsent n) = 23
number_of (NotZero n) = 24
number_of (ZeroVoltage n) = 30
number_of (LoadBeyond n) = 31
number_of (CurrentBeyond n) = 32
number_of (VoltageBeyond n) = 33
number_of (NotSettled n) = 34
number_of (TapsMoving n) = 35
number_of (BufferShort n) = 40
number_of ReportLayout = 50
number_of (NameDiffers n) = 51
number_of (SourceDiffers n) = 52
number_of (CurrentDiffers n) = 53
number_of (VoltageOff n) = 54
number_of TotalDiffers = 55
number_of (TapDiffers n) = 56

-- the table's column "Returned, with the number"
abbrev pub value_of : Refusal → ℕ
value_of TooLong = 0
value_of (Layout n) = n
value_of (OutOfLimit n) = n
value_of (UnknownFrom n) = n
value_of (SecondTo n) = n
value_of (NotReached n) = n
value_of (PhaseAbsent n) = n
value_of (NotZero n) = n
value_of (ZeroVoltage n) = n
value_of (LoadBeyond n) = n
value_of (CurrentBeyond n) = n
value_of (VoltageBeyond n) = n
value_of (NotSettled n) = n
value_of (TapsMoving n) = n
value_of (BufferShort n) = n
value_of ReportLayout = 0
value_of (NameDiffers n) = n
value_of (SourceDiffers n) = n
value_of (CurrentDiffers n) = n
value_of (VoltageOff n) = n
value_of TotalDiffers = 0
value_of (TapDiffers n) = n

-- an X, or a refusal; one step after the other, the first refusal being the answer
abbrev pub Outcome : Type 0 → Type 0
Outcome X = Result X Refusal

infixl 20 ◌>>=◌ ◌>>◌
abbrev pub ◌>>=◌ : {X Y : Type 0} → Outcome X → (X → Outcome Y) → Outcome Y
Ok x >>= k = k x
Err r >>= k = Err r

abbrev pub Done : Type 0
Done = Unit {0}

abbrev pub done : Done
done = tt

abbrev pub ◌>>◌ : {Y : Type 0} → Outcome Done → Outcome Y → Outcome Y
Ok d >> y = y
Err r >> y = Err r

-- "Where an answer is an enum, a definition states this paper's number and values for each of its cases": the number and the value that are told of an
-- outcome. Number 0 is work that is good, with a value of its own
abbrev pub number_told : {X : Type 0} → Outcome X → ℕ
number_told (Ok x) = 0
number_told (Err r) = number_of r

abbrev pub value_told : {X : Type 0} → (X → ℕ) → Outcome X → ℕ
value_told of-good (Ok x) = of-good x
value_told of-good (Err r) = value_of r

pub record Told {X : Type 0} (of-good : X → ℕ) (o : Outcome X) (n v : ℕ) : Type 0 where
  pub number : n ≡ number_told o
  pub value : v ≡ value_told of-good o

-- refused where a test says so; refused at the line that was found
abbrev pub refuse_if : Bool → Refusal → Outcome Done
refuse_if true r = Err r
refuse_if false r = Ok done

abbrev pub refuse_at : (ℕ → Refusal) → Option ℕ → Outcome Done
refuse_at r (Some line) = Err (r line)
refuse_at r None = Ok done
