-- The equations read V and I at places only, so an array gives what the list that it keeps gives. Assumes nothing.
use Rattle.std.specs.Prelude.{◌&&◌, List, ◌≡◌, refl, ◌+◌, ◌<◌, ◌≤◌, suc, zero, ℕ, eqb, get_or, length}
use Rattle.std.proofs.Math.Bool.{cond, true}
use Rattle.std.proofs.Common.{ap, ap₂, arith}
use Rattle.equations.specs.Equations.{beyond, beyond3, current_at, current_beyond, currents, downward, drawn_power, drop_of, each, far_voltage, kind_at, load_beyond, load_current, loads_at, loss_of, lost_power, mix, near_current, needs_voltage, plus3, power, sign_at, source_power, sum3, upward, voltage_beyond, voltage_on, voltages, zero3, zero_voltage}
use Rattle.equations.specs.ThreeLaws.{sum3-cong}
use Rattle.feeder.specs.Feeder.{Feeder, branch_at, parent, phase_signs, row_count, rows_of}
use Rattle.feeder.specs.Network.{kept}
use Rattle.feeder.specs.NetworkLaws.{get_or_kept}
use Rattle.feeder.specs.declared.Load.{Load}
use Rattle.feeder.specs.Phased.{Three}
use Rattle.integers.specs.ListLaws.{all-count, length-tab}
use Rattle.integers.specs.Lists.{any, csum, tab}
use Rattle.passes.specs.Arrays.{voltages-length}
use Rattle.passes.specs.Passes.{upwards}
use Rattle.integers.specs.Pairs.{◌·*◌, scaled, within}

-- the same at each place
pub record Same (x y : List Three) : Type 0 where
  pub place : (k : ℕ) → get_or x k zero3 ≡ get_or y k zero3

pub same_kept : (n : ℕ) (l : List Three) → length l ≤ n → Same (kept zero3 n l) l
same_kept n l h = record { place = λ k. get_or_kept zero3 n l k h }

pub same-voltages : (f : Feeder) (i : List Three) → row_count f ≤ 200 → Same (kept zero3 201 (voltages f i)) (voltages f i)
same-voltages f i h = same_kept 201 (voltages f i) (omega (arith, voltages-length f i))

pub same-currents : (f : Feeder) (v : List Three) → row_count f ≤ 200 → Same (kept zero3 201 (currents f v)) (currents f v)
unfolding currents
same-currents f v h = same_kept 201 (currents f v) (omega (arith, length-tab (upward f (loads_at f v) (row_count f)) 0 (suc (row_count f))))

-- with the load currents at each node, what is worked upward are 01's currents
pub upwards-are : (f : Feeder) (v : List Three) → upwards f (loads_at f v) ≡ currents f v
unfolding currents
upwards-are f v = refl

module _ (f : Feeder) {x y : List Three} (h : Same x y) where
  -- of currents
  pub voltages-same : voltages f x ≡ voltages f y
  unfolding voltages
  voltages-same = λ t. tab (downward (λ m u. far_voltage (branch_at f m) u (h.place m t)) f.source (parent f) (row_count f)) 0 (suc (row_count f))

  pub loss-same : (k : ℕ) → loss_of f x k ≡ loss_of f y k
  unfolding loss_of
  loss-same k = λ t. power (drop_of (branch_at f k).device (h.place k t)) (h.place k t)

  pub lost-same : lost_power f x ≡ lost_power f y
  unfolding lost_power
  lost-same = λ t. csum (λ k. loss-same k t) (rows_of f)

  pub source-same : source_power f x ≡ source_power f y
  unfolding source_power
  source-same = λ t. power f.source (h.place 0 t)

  pub current-beyond-same : current_beyond f x ≡ current_beyond f y
  unfolding current_beyond
  current-beyond-same = λ t. any (λ k. cond (beyond3 (h.place k t)) true (beyond3 (near_current (branch_at f k) (h.place k t)))) (rows_of f)

  -- of voltages
  pub on_same : (l : Load) → voltage_on l x ≡ voltage_on l y
  unfolding voltage_on
  on_same l = λ t. mix (phase_signs l.phase) (h.place l.node t)

  pub load-current-same : (l : Load) → load_current x l ≡ load_current y l
  unfolding load_current
  load-current-same l = λ t. current_at l (on_same l t)

  pub loads-same : (m : ℕ) → loads_at f x m ≡ loads_at f y m
  unfolding loads_at
  loads-same m = λ t. sum3 (λ l. cond (eqb l.node m) (each (λ p. scaled (sign_at (phase_signs l.phase) p) (load-current-same l t))) zero3) f.loads

  pub currents-same : currents f x ≡ currents f y
  unfolding currents
  currents-same = λ t. tab (upward f (λ m. loads-same m t) (row_count f)) 0 (suc (row_count f))

  pub drawn-same : drawn_power f x ≡ drawn_power f y
  unfolding drawn_power
  drawn-same = λ t. csum (λ l. on_same l t ·* load-current-same l t) f.loads

  pub zero-voltage-same : zero_voltage f x ≡ zero_voltage f y
  unfolding zero_voltage
  zero-voltage-same = λ t. any (λ l. needs_voltage (kind_at l (on_same l t)) && within 0 (on_same l t)) f.loads

  pub load-beyond-same : load_beyond f x ≡ load_beyond f y
  unfolding load_beyond
  load-beyond-same = λ t. any (λ l. beyond (load-current-same l t)) f.loads

  pub voltage-beyond-same : voltage_beyond f x ≡ voltage_beyond f y
  unfolding voltage_beyond
  voltage-beyond-same = λ t. any (λ k. beyond3 (h.place k t)) (rows_of f)

-- what is worked upward reads its own at the nodes only
pub upward-same : (f : Feeder) (w z : ℕ → Three) → ((m : ℕ) → m < suc (row_count f) → w m ≡ z m) → (k m : ℕ) → m < suc (row_count f) → upward f w k m ≡ upward f z k m
unfolding upward
upward-same f w z h zero m q = h m q
upward-same f w z h (suc k) m q =
    let row : (ℕ → Three) → ℕ → Three = λ x b. cond (eqb (parent f b) m) (near_current (branch_at f b) (x b)) zero3 in
    ap₂ plus3 (h m q)
    (sum3-cong (λ b. upward f w k b ≡ upward f z k b) (row (upward f w k)) (row (upward f z k)) (rows_of f)
    (λ b e. ap (λ (x : Three). cond (eqb (parent f b) m) (near_current (branch_at f b) x) zero3) e)
    (all-count _ 1 (row_count f) (λ i l. upward-same f w z h k (1 + i) (omega arith))))
