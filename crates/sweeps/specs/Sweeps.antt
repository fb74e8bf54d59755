-- What is worked over a feeder in memory: its currents from voltages, and refusals 30 to 32. Assumes nothing.
use Rattle.std.specs.Prelude.{Bool, false, true, List, ◌≡◌, ◌+◌, ◌<◌, ℕ, get_or, Result, Ok, Err, IfOk, OnOk}
use Rattle.answers.specs.declared.Refusal.{Refusal}
use Rattle.answers.specs.declared.Refusal.TheVariants.{CurrentBeyond as Refused32, LoadBeyond as Refused31, ZeroVoltage as Refused30}
use Rattle.equations.specs.Equations.{current_beyond, currents, drawn_power, load_beyond, zero3, zero_voltage}
use Rattle.equations.specs.Fit.{Fit}
use Rattle.equations.specs.Sizes.{Within3}
use Rattle.feeder.specs.Feeder.{Feeder}
use Rattle.feeder.specs.Network.{Held, kept}
use Rattle.feeder.specs.declared.Network.{Network}
use Rattle.feeder.specs.Phased.{Three}
use Rattle.integers.specs.PairLaws.{Within}
use Rattle.integers.specs.declared.Pair.{Pair}
use Rattle.loads.specs.declared.LoadError.{LoadError}
use Rattle.loads.specs.declared.LoadError.TheVariants.{Beyond, ZeroVoltage as AtZero}
use Rattle.reading.specs.Reading.{Arranged}
use Rattle.sweeps.specs.declared.WorkError.{WorkError}
use Rattle.sweeps.specs.declared.WorkError.TheVariants.{CurrentBeyond, LoadBeyond, ZeroVoltage}

-- g holds a feeder that is in 01's limits, and has its nodes in an order of work. A network is filled in place, and known
-- only behind the reading
pub record Known (g : Network) : Type 0 where
  pub feeder : Feeder
  pub held : Held feeder g
  pub fit : Fit feeder
  pub arranged : Arranged g

-- 30 and 31 of the load rows
abbrev pub work_error : LoadError → WorkError
work_error AtZero = ZeroVoltage
work_error Beyond = LoadBeyond

-- the table's rows 30 to 32, with the sweep
abbrev pub refusal_of : WorkError → ℕ → Refusal
refusal_of ZeroVoltage k = Refused30 k
refusal_of LoadBeyond k = Refused31 k
refusal_of CurrentBeyond k = Refused32 k

-- "the lowest first within a sweep": 30 of any row, else 31 of any row, else 32 of any branch; else the power drawn
abbrev pub work_of : Bool → Bool → Bool → Pair → Result Pair WorkError
work_of true large over drawn = Err ZeroVoltage
work_of false true over drawn = Err LoadBeyond
work_of false false true drawn = Err CurrentBeyond
work_of false false false drawn = Ok drawn

-- the power drawn, and the currents of f from the voltages v, which are i
pub record WorkedIs (f : Feeder) (v : List Three) (r : Result Pair WorkError) (i : List Three) : Type 0 where
  pub work-is : r ≡ work_of (zero_voltage f v) (load_beyond f v) (current_beyond f (currents f v)) (drawn_power f v)
  pub currents-are : OnOk r (i ≡ kept zero3 201 (currents f v))

-- no current of a branch beyond ±2·10^6, and none at the source beyond ±10^9
pub record SmallCurrents (rows : ℕ) (i : List Three) : Type 0 where
  pub branch : (k : ℕ) → 0 < k → k < rows + 1 → Within3 2000000 (get_or i k zero3)
  pub source : Within3 1000000000 (get_or i 0 zero3)

pub record SmallWork (rows : ℕ) (r : Result Pair WorkError) (i : List Three) : Type 0 where
  pub currents-small : OnOk r (SmallCurrents rows i)
  pub drawn : IfOk r (Within 4800000000000000)
