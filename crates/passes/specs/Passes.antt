-- What the passes over a feeder's arrays require, and what they give. Assumes nothing.
use Rattle.std.specs.Prelude.{Bool, false, true, ◌∷◌, List, map, ◌≡◌, ◌+◌, ◌<◌, suc, ℕ, get_or, length, Err, Ok, OnOk, Result}
use Rattle.answers.specs.Answers.{Done, done}
use Rattle.equations.specs.Equations.{current_beyond, loss_of, lost_power, upward, voltage_beyond, voltages, zero3}
use Rattle.equations.specs.Limits.{DeviceOk}
use Rattle.equations.specs.Sizes.{Within3}
use Rattle.feeder.specs.Feeder.{Feeder, no_branch, row_count, rows_of}
use Rattle.feeder.specs.Network.{branch_array, kept}
use Rattle.feeder.specs.declared.Network.{Network}
use Rattle.feeder.specs.Phased.{Three}
use Rattle.integers.specs.Lists.{tab}
use Rattle.integers.specs.Pairs.{0c}
use Rattle.integers.specs.PairLaws.{Within}
use Rattle.integers.specs.declared.Pair.{Pair}
use Rattle.passes.specs.declared.Beyond.{Beyond}
use Rattle.radial.specs.Radial.{Linked, Ordered, parent_in}

-- a network that a pass goes over: every from-node is a node, the order lists every node, each behind the one that feeds it, and each row's numbers are in 01's limits. Part
-- of `Known` (crate sweeps), and a clause as that is
pub record Ready (g : Network) : Type 0 where
  pub linked : Linked g.branches g.rows
  pub ordered : Ordered (g.rows + 1) (parent_in g.branches) g.order g.rank (g.rows + 1)
  pub ranked : (k : ℕ) → k < g.rows + 1 → 0 < get_or g.rank k 0
  pub fine : (k : ℕ) → 0 < k → k < g.rows + 1 → DeviceOk (get_or g.branches k no_branch).device

-- its arrays hold the branches of f
pub record InArrays (f : Feeder) (g : Network) : Type 0 where
  pub branches-are : g.branches ≡ branch_array f
  pub rows_are : g.rows ≡ row_count f

-- an array of 201, none of them beyond ±m
pub record Sized (m : ℕ) (l : List Three) : Type 0 where
  pub long : length l ≡ 201
  pub each : (k : ℕ) → Within3 m (get_or l k zero3)

-- the answer of a pass: whether something is beyond its limit
abbrev pub unless_beyond : Bool → Result Done Beyond
unless_beyond true = Err (record {})
unless_beyond false = Ok done

-- 33, else the voltages worked downward from the source with the currents i
pub record DownwardIs (f : Feeder) (i : List Three) (r : Result Done Beyond) (at : List Three) : Type 0 where
  pub answer-is : r ≡ unless_beyond (voltage_beyond f (voltages f i))
  pub at-is : OnOk r (at ≡ kept zero3 201 (voltages f i))

-- the currents worked upward, where `own` is taken at each node: with load currents there, `currents`
abbrev pub upwards : Feeder → (ℕ → Three) → List Three
upwards f own = tab (upward f own (row_count f)) 0 (suc (row_count f))

-- 32, else these currents
pub record UpwardIs (f : Feeder) (own : ℕ → Three) (r : Result Done Beyond) (at : List Three) : Type 0 where
  pub answer-is : r ≡ unless_beyond (current_beyond f (upwards f own))
  pub at-is : OnOk r (at ≡ kept zero3 201 (upwards f own))

-- ---- losses
-- each row's, row k at place k, and their sum
pub record LossesAre (f : Feeder) (i : List Three) (each : List Pair) (sum : Pair) : Type 0 where
  pub each-is : each ≡ kept 0c 201 (0c ∷ map (loss_of f i) (rows_of f))
  pub sum_is : sum ≡ lost_power f i

pub record SmallLosses (each : List Pair) (sum : Pair) : Type 0 where
  pub long : length each ≡ 201
  pub each-small : (k : ℕ) → Within 1440000000000000 (get_or each k 0c)
  pub sum-small : Within 288000000000000000 sum
