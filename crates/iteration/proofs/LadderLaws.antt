-- What is known where the study has a solution: V(k−1) and its I, none of 30 to 33, and a number of sweeps from 1 to the limit; and what may be refused. Assumes nothing.
use Rattle.std.specs.Prelude.{Bool, cond, false, true, List, [], ◌≡◌, refl, ◌+◌, ◌<◌, ◌≤◌, suc, zero, ℕ, get_or, Ok}
use Rattle.std.proofs.Common.{subst, arith}
use Rattle.answers.specs.AnswerLaws.{not-if, not-refused, same_good}
use Rattle.answers.specs.Answers.{◌>>◌, refuse_if}
use Rattle.answers.specs.Only.{Only, after-only, cond-only, good-only, if-only, refused-only}
use Rattle.answers.specs.declared.Refusal.{Refusal}
use Rattle.answers.specs.declared.Refusal.TheVariants.{CurrentBeyond, LoadBeyond, NotSettled, VoltageBeyond, ZeroVoltage}
use Rattle.equations.specs.Equations.{at, current_beyond, currents, load_beyond, voltage_beyond, voltages, zero3, zero_voltage}
use Rattle.equations.specs.ThreeLaws.{Close3}
use Rattle.feeder.specs.Feeder.{Feeder, abc, row_count}
use Rattle.feeder.specs.RowLaws.{each-true}
use Rattle.feeder.specs.Phased.{Three}
use Rattle.integers.specs.ListLaws.{count-true}
use Rattle.integers.specs.Lists.{all}
use Rattle.integers.specs.PairLaws.{close-true}
use Rattle.integers.specs.Pairs.{close}
use Rattle.iteration.specs.Ladder.{Solution, settled, solution, sweep}

-- one step of the recursion
pub sweep-step : (f : Feeder) (left k : ℕ) (v : List Three) → sweep f (suc left) k v
    ≡ (refuse_if (zero_voltage f v) (ZeroVoltage k)
    >> (refuse_if (load_beyond f v) (LoadBeyond k)
    >> (refuse_if (current_beyond f (currents f v)) (CurrentBeyond k)
    >> (refuse_if (voltage_beyond f (voltages f (currents f v))) (VoltageBeyond k)
    >> cond (settled f v (voltages f (currents f v))) (Ok (record { voltages = v; currents = currents f v; sweeps = k })) (sweep f left (k + 1) (voltages f (currents f v)))))))
unfolding sweep
sweep-step f left k v = refl

-- `before` are the currents that the reported voltages were worked with: those of the sweep before, or all zero
pub record Solved (f : Feeder) (x : Solution) : Type 0 where
  pub before : List Three
  pub voltages-are : x.voltages ≡ voltages f before
  pub currents-are : x.currents ≡ currents f x.voltages
  pub t30 : zero_voltage f x.voltages ≡ false
  pub t31 : load_beyond f x.voltages ≡ false
  pub t32 : current_beyond f x.currents ≡ false
  pub t33 : voltage_beyond f x.voltages ≡ false
  pub next33 : voltage_beyond f (voltages f x.currents) ≡ false
  pub stopped : settled f x.voltages (voltages f x.currents) ≡ true
  pub first : 1 ≤ x.sweeps
  pub last : x.sweeps ≤ f.limit

sweep-solved : (f : Feeder) (left k : ℕ) (v b : List Three) (x : Solution) → v ≡ voltages f b → voltage_beyond f v ≡ false → 1 ≤ k → k + left ≤ suc f.limit → sweep f left k v ≡ Ok x → Solved f x
unfolding sweep
sweep-solved f zero k v b x p t q w e = not-refused _ x e
sweep-solved f (suc left) k v b x p t q w e =
    let w0 = not-if _ _ _ _ e in
    let w1 = not-if _ _ _ _ w0.1 in
    let w2 = not-if _ _ _ _ w1.1 in
    let w3 = not-if _ _ _ _ w2.1 in
    go w0.0 w1.0 w2.0 w3.0 (settled f v (voltages f (currents f v))) refl w3.1 (λ e. sweep-solved f left (k + 1) (voltages f (currents f v)) (currents f v) x refl w3.0 (omega arith) (omega arith) e)
  where
    go : zero_voltage f v ≡ false → load_beyond f v ≡ false → current_beyond f (currents f v) ≡ false → voltage_beyond f (voltages f (currents f v)) ≡ false
        → (c : Bool) → settled f v (voltages f (currents f v)) ≡ c → cond c (Ok (record { voltages = v; currents = currents f v; sweeps = k })) (sweep f left (k + 1) (voltages f (currents f v))) ≡ Ok x
        → (sweep f left (k + 1) (voltages f (currents f v)) ≡ Ok x → Solved f x) → Solved f x
    go a0 a1 a2 a3 true c e far = subst (Solved f) (same_good _ x e)
        (record { before = b; voltages-are = p; currents-are = refl; t30 = a0; t31 = a1; t32 = a2; t33 = t; next33 = a3; stopped = c; first = q; last = omega arith })
    go a0 a1 a2 a3 false c e far = far e

-- of every solution
pub solved : (f : Feeder) (x : Solution) → solution f ≡ Ok x → Solved f x
unfolding solution
solved f x e = let w = not-if _ _ _ _ e in sweep-solved f f.limit 1 (voltages f []) [] x refl w.0 (omega arith) (omega arith) w.1

-- the number of sweeps made
pub sweeps-in : (f : Feeder) (x : Solution) → solution f ≡ Ok x → (1 ≤ x.sweeps) × (x.sweeps ≤ f.limit)
sweeps-in f x e = let w = solved f x e in (w.first, w.last)

-- "no re or im moved more than tol": the voltages of the last sweep are close to those that are reported
pub settled-close : (f : Feeder) (v w : List Three) → settled f v w ≡ true → (k : ℕ) → k < row_count f → Close3 f.tol (get_or w (suc k) zero3) (get_or v (suc k) zero3)
unfolding settled
settled-close f v w e k q p =
    let z : 1 + k ≡ suc k = omega arith in
    close-true (each-true (λ p. close f.tol (at (get_or w (suc k) zero3) p) (at (get_or v (suc k) zero3) p))
    (rw z at (count-true (λ k. all (λ p. close f.tol (at (get_or w k zero3) p) (at (get_or v k zero3) p)) abc) 1 (row_count f) e k q)) p)

-- the refusals of the sweeps: 30 to 33 with a sweep up to the limit, and 34 with the limit
pub record SweepsHave (P : Refusal → Type 0) (k : ℕ) : Type 0 where
  pub for-30 : P (ZeroVoltage k)
  pub for-31 : P (LoadBeyond k)
  pub for-32 : P (CurrentBeyond k)
  pub for-33 : P (VoltageBeyond k)

sweep-only : {P : Refusal → Type 0} (f : Feeder) → P (NotSettled f.limit) → (left k : ℕ) (v : List Three) → ((j : ℕ) → j < k + left → SweepsHave P j) → Only P (sweep f left k v)
unfolding sweep
sweep-only f last zero k v h = refused-only (NotSettled f.limit) last
sweep-only f last (suc left) k v h =
    let w = h k (omega arith) in
    let i : List Three = currents f v in
    after-only (refuse_if (zero_voltage f v) (ZeroVoltage k)) _ (if-only (zero_voltage f v) (ZeroVoltage k) w.for-30)
    (after-only (refuse_if (load_beyond f v) (LoadBeyond k)) _ (if-only (load_beyond f v) (LoadBeyond k) w.for-31)
    (after-only (refuse_if (current_beyond f i) (CurrentBeyond k)) _ (if-only (current_beyond f i) (CurrentBeyond k) w.for-32)
    (after-only (refuse_if (voltage_beyond f (voltages f i)) (VoltageBeyond k)) _ (if-only (voltage_beyond f (voltages f i)) (VoltageBeyond k) w.for-33)
    (cond-only (settled f v (voltages f i)) _ _ (good-only _) (sweep-only f last left (k + 1) (voltages f i) (λ j q. h j (omega arith)))))))

pub solution-only : {P : Refusal → Type 0} (f : Feeder) → P (NotSettled f.limit) → ((j : ℕ) → j ≤ f.limit → SweepsHave P j) → Only P (solution f)
unfolding solution
solution-only f last h =
    after-only (refuse_if (voltage_beyond f (voltages f [])) (VoltageBeyond 0)) _ (if-only (voltage_beyond f (voltages f [])) (VoltageBeyond 0) (h 0 (omega arith)).for-33)
    (sweep-only f last f.limit 1 (voltages f []) (λ j q. h j (omega arith)))
