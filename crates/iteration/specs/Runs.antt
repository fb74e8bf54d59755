-- What a sweep and the whole iteration give over a feeder in memory. Assumes nothing.
use Rattle.std.specs.Prelude.{Bool, false, true, List, ◌≡◌, ◌≤◌, ℕ, get_or, length, Option, Some, None, Ok, Err, IfOk, OnOk, MatchOption}
use Rattle.answers.specs.Answers.{Outcome}
use Rattle.answers.specs.declared.Refusal.TheVariants.{CurrentBeyond, LoadBeyond, VoltageBeyond, ZeroVoltage}
use Rattle.arrays.specs.Arrays.{Spare}
use Rattle.equations.specs.Equations.{at, current_beyond, currents, drawn_power, load_beyond, voltage_beyond, voltages, zero3, zero_voltage}
use Rattle.equations.specs.Sizes.{Within3}
use Rattle.feeder.specs.Feeder.{Feeder, abc}
use Rattle.feeder.specs.Network.{kept}
use Rattle.feeder.specs.Phased.{Three}
use Rattle.integers.specs.Lists.{all}
use Rattle.integers.specs.Pairs.{close}
use Rattle.integers.specs.declared.Pair.{Pair}
use Rattle.iteration.specs.Ladder.{Solution, settled}
use Rattle.iteration.specs.declared.Run.{Run}
use Rattle.sweeps.specs.Sweeps.{SmallCurrents}

-- "no re or im moved more than tol", at node k
abbrev pub still_at : ℕ → List Three → List Three → ℕ → Bool
still_at tol v w k = all (λ p. close tol (at (get_or w k zero3) p) (at (get_or v k zero3) p)) abc

-- ---- a sweep
-- "30 to 33 are tried sweep by sweep, the lowest first within a sweep", and it stops where the voltages settled, with the power drawn
abbrev pub step_of : ℕ → Bool → Bool → Bool → Bool → Bool → Pair → Outcome (Option Pair)
step_of k true large over high still drawn = Err (ZeroVoltage k)
step_of k false true over high still drawn = Err (LoadBeyond k)
step_of k false false true high still drawn = Err (CurrentBeyond k)
step_of k false false false true still drawn = Err (VoltageBeyond k)
step_of k false false false false true drawn = Ok (Some drawn)
step_of k false false false false false drawn = Ok None

abbrev pub step_at : Feeder → List Three → ℕ → Outcome (Option Pair)
step_at f v k =
    step_of k (zero_voltage f v) (load_beyond f v) (current_beyond f (currents f v)) (voltage_beyond f (voltages f (currents f v)))
    (settled f v (voltages f (currents f v))) (drawn_power f v)

-- sweep k from the voltages v: its voltages `next` for a further sweep, its currents i where it is the last
pub record SweptIs (f : Feeder) (v : List Three) (k : ℕ) (r : Outcome (Option Pair)) (next i : List Three) : Type 0 where
  pub step_is : r ≡ step_at f v k
  pub arrays-are : IfOk r (λ o. MatchOption o (next ≡ kept zero3 201 (voltages f (currents f v))) (λ drawn. i ≡ kept zero3 201 (currents f v)))

-- an array in which voltages are worked: the places behind the rows are zero
pub record Room (rows : ℕ) (l : List Three) : Type 0 where
  pub spare : Spare rows l
  pub each : (k : ℕ) → Within3 2000000 (get_or l k zero3)

pub record SmallSwept (rows : ℕ) (r : Outcome (Option Pair)) (next i : List Three) : Type 0 where
  pub arrays-small : IfOk r (λ o. MatchOption o (Room rows next × Spare rows i) (λ drawn. SmallCurrents rows i))

-- ---- the iteration
-- the arrays of a solution
pub record GoodRun (f : Feeder) (x : Solution) (v i : List Three) (drawn : Pair) : Type 0 where
  pub voltages-are : v ≡ kept zero3 201 x.voltages
  pub few-voltages : length x.voltages ≤ 201
  pub currents-are : i ≡ kept zero3 201 x.currents
  pub few-currents : length x.currents ≤ 201
  pub drawn-is : drawn ≡ drawn_power f x.voltages

-- the number of sweeps, and the power drawn in the last one; or the refusal
abbrev pub run_of : Feeder → Outcome Solution → Outcome Run
run_of f (Ok x) = Ok (record { sweeps = x.sweeps; drawn = drawn_power f x.voltages })
run_of f (Err y) = Err y

pub record SolvedAs (f : Feeder) (o : Outcome Solution) (r : Outcome Run) (v i : List Three) : Type 0 where
  pub run-is : r ≡ run_of f o
  pub arrays-are : IfOk o (λ x. GoodRun f x v i (drawn_power f x.voltages))

pub record SmallRun (rows : ℕ) (r : Outcome Run) (i : List Three) : Type 0 where
  pub few-sweeps : IfOk r (λ x. x.sweeps ≤ 100)
  pub currents-small : OnOk r (SmallCurrents rows i)
