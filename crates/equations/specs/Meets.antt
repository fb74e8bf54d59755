-- Of every feeder that has the form of one: each worked voltage comes from the one above it, and each worked current from the load currents and the J below it. Assumes nothing.
use Rattle.std.proofs.Math.Bool.{cond}
use mathlib.Core.List.{List}
use Rattle.std.proofs.Common.{◌∙◌, ap₂, sym}
use Rattle.std.specs.Prelude.{◌≡◌, eqb}
use Rattle.std.proofs.Math.Path.{ap}
use Prim.Native.Nat.{◌+◌, ◌<◌, suc, ℕ}
use native.Mathlib.Omega.{arith}
use Rattle.std.proofs.Math.ListN.{get_or}
use Rattle.equations.specs.Downward.{downward-node, downward-source}
use Rattle.equations.specs.Equations.{at, currents, downward, far_voltage, load_current, loads_at, near_current, plus3, sign_at, sum3, upward, voltages, zero3}
use Rattle.equations.specs.ThreeLaws.{at-cond, at_each, at-plus, at_sum, csum-cong, sum3-cong}
use Rattle.equations.specs.Upward.{kirchhoff}
use Rattle.feeder.specs.Feeder.{Feeder, branch_at, parent, phase_signs, row_count, rows_of}
use Rattle.feeder.proofs.RowFacts.{Formed, all-reached}
use Rattle.feeder.specs.declared.Phase.{Phase}
use Rattle.feeder.specs.Phased.{Three}
use Rattle.integers.specs.ListLaws.{all-count, get_or-tab}
use Rattle.integers.specs.Lists.{csum, tab}
use Rattle.integers.specs.Pairs.{0c, ◌+c◌, scaled}

-- all that is taken at node m, where i are the currents of the branches: "load currents at m plus J of the branches leaving m"
unfoldable pub taken_at : Feeder → List Three → List Three → ℕ → Three
taken_at f v i m = plus3 (loads_at f v m) (sum3 (λ b. cond (eqb (parent f b) m) (near_current (branch_at f b) (get_or i b zero3)) zero3) (rows_of f))

-- on one phase
pub at-taken : (f : Feeder) (v i : List Three) (m : ℕ) (p : Phase) → at (taken_at f v i m) p
    ≡ csum (λ l. cond (eqb l.node m) (scaled (sign_at (phase_signs l.phase) p) (load_current v l)) 0c) f.loads
    +c csum (λ b. cond (eqb (parent f b) m) (at (near_current (branch_at f b) (get_or i b zero3)) p) 0c) (rows_of f)
unfolding taken_at loads_at
at-taken f v i m p = at-plus _ _ p ∙ ap₂ ◌+c◌
    (at_sum _ f.loads p ∙ csum-cong f.loads (λ l. at-cond (eqb l.node m) _ p ∙ ap (λ x. cond (eqb l.node m) x 0c) (at_each _ p)))
    (at_sum _ (rows_of f) p ∙ csum-cong (rows_of f) (λ b. at-cond (eqb (parent f b) m) _ p))

-- it reads only the currents of the rows
pub taken-same : (f : Feeder) (v i j : List Three) (m : ℕ) → ((k : ℕ) → k < row_count f → get_or i (suc k) zero3 ≡ get_or j (suc k) zero3) → taken_at f v i m ≡ taken_at f v j m
unfolding taken_at
taken-same f v i j m h =
    let row : List Three → ℕ → Three = λ x b. cond (eqb (parent f b) m) (near_current (branch_at f b) (get_or x b zero3)) zero3 in
    ap (plus3 (loads_at f v m)) (sum3-cong (λ b. get_or i b zero3 ≡ get_or j b zero3) (row i) (row j) (rows_of f)
    (λ b w. ap (λ x. cond (eqb (parent f b) m) (near_current (branch_at f b) x) zero3) w)
    (all-count _ 1 (row_count f) (λ k q. let z : 1 + k ≡ suc k = omega arith in rw z (h k q))))

module _ (f : Feeder) (w : Formed f) where
  -- "V_m from V_n", for any I
  pub voltages-meet : (i : List Three) (k : ℕ) → k < row_count f → get_or (voltages f i) (suc k) zero3 ≡ far_voltage (branch_at f (suc k)) (get_or (voltages f i) (parent f (suc k)) zero3) (get_or i (suc k) zero3)
  unfolding voltages
  voltages-meet i k q =
      let step : ℕ → Three → Three = λ m u. far_voltage (branch_at f m) u (get_or i m zero3) in
      let at : (j : ℕ) → j < suc (row_count f) → get_or (tab (λ k. downward step f.source (parent f) (row_count f) k) 0 (suc (row_count f))) j zero3 ≡ downward step f.source (parent f) (row_count f) j
      = λ j h. get_or-tab (λ k. downward step f.source (parent f) (row_count f) k) 0 (suc (row_count f)) j zero3 h ∙ (let z : 0 + j ≡ j = omega arith in rw z) in
      at (suc k) (omega arith) ∙ downward-node step f.source (parent f) (row_count f) k (w.reached (suc k) (omega arith)) ∙ ap (step (suc k)) (sym (at (parent f (suc k)) (w.parents (suc k) (omega arith))))

  -- at the source, its own voltage
  pub voltages-source : (i : List Three) → get_or (voltages f i) 0 zero3 ≡ f.source
  unfolding voltages tab
  voltages-source i = downward-source _ _ (parent f) (row_count f)

  -- "I = load currents at m plus J of the branches leaving m"; at the source, all current taken there
  pub currents-meet : (v : List Three) (m : ℕ) → m < suc (row_count f) → get_or (currents f v) m zero3 ≡ taken_at f v (currents f v) m
  unfolding currents taken_at
  currents-meet v m q =
      let all : List Three = tab (upward f (loads_at f v) (row_count f)) 0 (suc (row_count f)) in
      let at : (j : ℕ) → j < suc (row_count f) → get_or all j zero3 ≡ upward f (loads_at f v) (row_count f) j
      = λ j h. get_or-tab (upward f (loads_at f v) (row_count f)) 0 (suc (row_count f)) j zero3 h ∙ (let z : 0 + j ≡ j = omega arith in rw z) in
      let row : (ℕ → Three) → ℕ → Three = λ x b. cond (eqb (parent f b) m) (near_current (branch_at f b) (x b)) zero3 in
      at m q ∙ kirchhoff f (loads_at f v) (all-reached f w) m
      ∙ ap (plus3 (loads_at f v m)) (sum3-cong (λ b. get_or all b zero3 ≡ upward f (loads_at f v) (row_count f) b) (row (upward f (loads_at f v) (row_count f))) (row (λ b. get_or all b zero3)) (rows_of f)
      (λ b w. ap (λ x. cond (eqb (parent f b) m) (near_current (branch_at f b) x) zero3) (sym w))
      (all-count _ 1 (row_count f) (λ k h. let z : 1 + k ≡ suc k = omega arith in rw z (at (suc k) (omega arith)))))
