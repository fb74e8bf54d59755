-- The study (01): the modified ladder iteration. Assumes nothing.
use Rattle.std.specs.Prelude.{Bool, cond, List, [], ◌+◌, suc, zero, ℕ, get_or, Ok, Err}
use Rattle.answers.specs.Answers.{Outcome, ◌>>◌, refuse_if}
use Rattle.answers.specs.declared.Refusal.TheVariants.{CurrentBeyond, LoadBeyond, NotSettled, VoltageBeyond, ZeroVoltage}
use Rattle.equations.specs.Equations.{at, current_beyond, currents, load_beyond, voltage_beyond, voltages, zero3, zero_voltage}
use Rattle.feeder.specs.Feeder.{Feeder, abc, rows_of}
use Rattle.feeder.specs.Phased.{Three}
use Rattle.integers.specs.Lists.{all}
use Rattle.integers.specs.Pairs.{close}

-- what the study reports: "V(k−1), that I, and k"
pub record Solution : Type 0 where
  pub voltages : List Three
  pub currents : List Three
  pub sweeps : ℕ

-- "no re or im moved more than tol"
unfoldable pub settled : Feeder → List Three → List Three → Bool
settled f v w = all (λ k. all (λ p. close f.tol (at (get_or w k zero3) p) (at (get_or v k zero3) p)) abc) (rows_of f)

-- "Sweep k (from 1) takes I from V(k−1), then V(k) from that I. It stops at the first k where no re or im moved more than tol";
-- "30 to 33 are tried sweep by sweep, the lowest first within a sweep"; 34 with the limit. `left` sweeps may still be made
unfoldable pub sweep : Feeder → ℕ → ℕ → List Three → Outcome Solution
sweep f zero k v = Err (NotSettled f.limit)
sweep f (suc left) k v =
    let i : List Three = currents f v in
    let w : List Three = voltages f i in
    let next : Outcome Solution = sweep f left (k + 1) w in
    do
      refuse_if (zero_voltage f v) (ZeroVoltage k)
      refuse_if (load_beyond f v) (LoadBeyond k)
      refuse_if (current_beyond f i) (CurrentBeyond k)
      refuse_if (voltage_beyond f w) (VoltageBeyond k)
      cond (settled f v w) (Ok (record { voltages = v; currents = i; sweeps = k })) next

-- "V0 comes from the source downward with all I zero"
unfoldable pub solution : Feeder → Outcome Solution
solution f =
    let v : List Three = voltages f [] in
    do
      refuse_if (voltage_beyond f v) (VoltageBeyond 0)
      sweep f f.limit 1 v
