-- What the load rows draw at given voltages, all together (01). Assumes nothing.
use Rattle.std.specs.Prelude.{Bool, false, true, List, ◌≡◌, ◌<◌, ℕ, get_or, Result, Ok, Err, IfOk, OnOk}
use Rattle.equations.specs.Equations.{drawn_power, load_beyond, loads_at, zero3, zero_voltage}
use Rattle.equations.specs.Limits.{LoadOk}
use Rattle.equations.specs.Sizes.{Within3}
use Rattle.feeder.specs.Feeder.{Feeder}
use Rattle.feeder.specs.Network.{no_load}
use Rattle.feeder.specs.declared.Load.{Load}
use Rattle.feeder.specs.Phased.{Three}
use Rattle.integers.specs.Lists.{tab}
use Rattle.integers.specs.PairLaws.{Within}
use Rattle.integers.specs.declared.Pair.{Pair}
use Rattle.loads.specs.declared.LoadError.{LoadError}
use Rattle.loads.specs.declared.LoadError.TheVariants.{Beyond, ZeroVoltage}

-- 30: "load of kind P or I at zero voltage", of any row, by the kind as which it acts; else 31: "load current re or im beyond ±2,000,000", of any row; else the
-- power drawn
abbrev pub draw_of : Bool → Bool → Pair → Result Pair LoadError
draw_of true large drawn = Err ZeroVoltage
draw_of false true drawn = Err Beyond
draw_of false false drawn = Ok drawn

-- what the rows of f draw at the voltages v: the power drawn, and the load currents at each node, which are `own`
pub record DrawsOf (f : Feeder) (v : List Three) (r : Result Pair LoadError) (own : List Three) : Type 0 where
  pub draw-is : r ≡ draw_of (zero_voltage f v) (load_beyond f v) (drawn_power f v)
  pub own_is : OnOk r (own ≡ tab (loads_at f v) 0 201)

-- 300 rows of at most 2·10^6, and of at most 1.6·10^13
pub record SmallDraws (r : Result Pair LoadError) (own : List Three) : Type 0 where
  pub own-small : (k : ℕ) → Within3 600000000 (get_or own k zero3)
  pub drawn : IfOk r (Within 4800000000000000)

-- what the code needs of the rows and the voltages
pub record LoadsOk (loads : List Load) (n : ℕ) (v : List Three) : Type 0 where
  pub limits : (l : ℕ) → l < n → LoadOk (get_or loads l no_load)
  pub nodes : (l : ℕ) → l < n → (get_or loads l no_load).node < 201
  pub voltages : (k : ℕ) → Within3 2000000 (get_or v k zero3)
