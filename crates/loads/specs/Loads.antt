-- What a load row draws at a voltage (01). Assumes nothing.
use Rattle.std.specs.Prelude.{Bool, ◌&&◌, cond, false, true, ◌≡◌, refl, ℕ, Result, Ok, Err}
use Rattle.answers.specs.Answers.{Outcome, ◌>>◌, refuse_if}
use Rattle.answers.specs.declared.Refusal.TheVariants.{LoadBeyond, ZeroVoltage}
use Rattle.equations.specs.Equations.{beyond, current_at, kind_at, needs_voltage}
use Rattle.feeder.specs.declared.Load.{Load}
use Rattle.feeder.specs.declared.LoadKind.{LoadKind}
use Rattle.integers.specs.Pairs.{within}
use Rattle.integers.specs.declared.Pair.{Pair}
use Rattle.loads.specs.declared.LoadError.{LoadError}
use Rattle.loads.specs.declared.LoadError.TheVariants.{Beyond, ZeroVoltage as AtZero}

-- 30: "load of kind P or I at zero voltage", of the kind as which a row acts there
abbrev pub lacks_voltage : LoadKind → Pair → Bool
lacks_voltage k u = needs_voltage k && within 0 u

-- 30 before 31, else the load current
unfoldable pub drawn_by : Load → Pair → Result Pair LoadError
drawn_by l u = cond (lacks_voltage (kind_at l u) u) (Err AtZero) (cond (beyond (current_at l u)) (Err Beyond) (Ok (current_at l u)))

-- each case in sweep k, with 01's number and value
abbrev pub outcome_of : ℕ → Result Pair LoadError → Outcome Pair
outcome_of k (Ok i) = Ok i
outcome_of k (Err AtZero) = Err (ZeroVoltage k)
outcome_of k (Err Beyond) = Err (LoadBeyond k)

-- ---- laws
-- the refusals are those of 30 and 31, in their order
pub drawn-outcome : (k : ℕ) (l : Load) (u : Pair) → outcome_of k (drawn_by l u)
    ≡ (refuse_if (lacks_voltage (kind_at l u) u) (ZeroVoltage k) >> (refuse_if (beyond (current_at l u)) (LoadBeyond k) >> Ok (current_at l u)))
unfolding drawn_by
drawn-outcome k l u = go (lacks_voltage (kind_at l u) u) (beyond (current_at l u))
  where
    go : (a b : Bool) → outcome_of k (cond a (Err AtZero) (cond b (Err Beyond) (Ok (current_at l u))))
        ≡ (refuse_if a (ZeroVoltage k) >> (refuse_if b (LoadBeyond k) >> Ok (current_at l u)))
    go true b = refl
    go false true = refl
    go false false = refl

-- what each case says of the row
abbrev pub Means : Load → Pair → Result Pair LoadError → Type 0
Means l u (Ok i) = (lacks_voltage (kind_at l u) u ≡ false) × (beyond (current_at l u) ≡ false) × (i ≡ current_at l u)
Means l u (Err AtZero) = lacks_voltage (kind_at l u) u ≡ true
Means l u (Err Beyond) = (lacks_voltage (kind_at l u) u ≡ false) × (beyond (current_at l u) ≡ true)

pub drawn-means : (l : Load) (u : Pair) → Means l u (drawn_by l u)
unfolding drawn_by
drawn-means l u = go (lacks_voltage (kind_at l u) u) (beyond (current_at l u)) refl refl
  where
    go : (a b : Bool) → lacks_voltage (kind_at l u) u ≡ a → beyond (current_at l u) ≡ b → Means l u (cond a (Err AtZero) (cond b (Err Beyond) (Ok (current_at l u))))
    go true b p q = p
    go false true p q = (p, q)
    go false false p q = (p, q, refl)
