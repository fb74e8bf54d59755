-- "I = load currents at m plus J of the branches leaving m": what is worked upward meets this equation at every node, where every row is reached. Assumes nothing.
use Rattle.std.specs.Prelude.{Bool, ◌≡◌}
use Rattle.std.proofs.Math.Bool.{cond, false, true}
use Rattle.std.proofs.Common.{◌∙◌, arith, eqb-true}
use Rattle.std.proofs.Math.Path.{ap, refl, sym}
use Prim.Native.Nat.{◌+◌, ◌<◌, ◌≤◌, suc, zero, ℕ}
use Rattle.std.proofs.Math.Dec.{eqb}
use Rattle.equations.specs.Equations.{near_current, plus3, sum3, upward, zero3}
use Rattle.equations.specs.ThreeLaws.{plus3-idr, sum3-cong, sum3-zero}
use Rattle.feeder.specs.Feeder.{Feeder, above, branch_at, parent, row_count, rows_of}
use Rattle.feeder.proofs.FeederLaws.{Reached}
use Rattle.feeder.specs.Phased.{Three}
use Rattle.integers.specs.Lists.{All}

-- one step of the recursion
pub upward-step : (f : Feeder) (own : ℕ → Three) (k m : ℕ) → upward f own (suc k) m
    ≡ plus3 (own m) (sum3 (λ b. cond (eqb (parent f b) m) (near_current (branch_at f b) (upward f own k b)) zero3) (rows_of f))
unfolding upward
upward-step f own k m = refl

-- node m is not reached in fewer than d steps
Deep : Feeder → ℕ → ℕ → Type 0
Deep f d m = (j : ℕ) → j < d → above (parent f) j m ≡ 0 → ⊥

-- and the node of a branch that leaves it is not reached in fewer than d + 1
child : (f : Feeder) (d m b : ℕ) → Deep f d m → parent f b ≡ m → 0 < b → Deep f (suc d) b
unfolding Deep above
child f d m zero h e q j w z = omega arith
child f d m (suc b) h e q zero w z = omega arith
child f d m (suc b) h e q (suc j) w z = h j (omega arith) (rw (← e) z)

module _ (f : Feeder) (own : ℕ → Three) (reached : All (Reached f) (rows_of f)) where
  -- what branch b takes at m
  given : (k m b : ℕ) → Three
  given k m b = cond (eqb (parent f b) m) (near_current (branch_at f b) (upward f own k b)) zero3

  -- below a node that is not reached in fewer than d steps, k steps are enough where k + d is the number of rows: no row is deeper
  stable : (k d m : ℕ) → Deep f d m → row_count f ≤ k + d → upward f own (suc k) m ≡ upward f own k m
  unfolding upward given Deep
  stable zero d m h q =
      ap (plus3 (own m)) (sum3-cong (Reached f) (given 0 m) (λ b. zero3) (rows_of f) none reached ∙ sum3-zero (rows_of f)) ∙ plus3-idr (own m)
    where
      none : (b : ℕ) → Reached f b → given 0 m b ≡ zero3
      none b r = go (eqb (parent f b) m) refl
        where
          go : (c : Bool) → eqb (parent f b) m ≡ c → cond c (near_current (branch_at f b) (upward f own 0 b)) zero3 ≡ zero3
          go true e = absurd (child f d m b h (eqb-true _ _ e) r.row (row_count f) (omega arith) r.steps)
          go false e = refl
  stable (suc k) d m h q = ap (plus3 (own m)) (sum3-cong (Reached f) (given (suc k) m) (given k m) (rows_of f) (same (λ b. stable k (suc d) b)) reached)
    where
      same : ((b : ℕ) → Deep f (suc d) b → row_count f ≤ k + suc d → upward f own (suc k) b ≡ upward f own k b) → (b : ℕ) → Reached f b → given (suc k) m b ≡ given k m b
      same ih b r = go (eqb (parent f b) m) refl
        where
          go : (c : Bool) → eqb (parent f b) m ≡ c → cond c (near_current (branch_at f b) (upward f own (suc k) b)) zero3 ≡ cond c (near_current (branch_at f b) (upward f own k b)) zero3
          go true e = ap (near_current (branch_at f b)) (ih b (child f d m b h (eqb-true _ _ e) r.row) (omega arith))
          go false e = refl

  -- Kirchhoff: the currents worked with as many steps as there are rows meet the equation at every node
  pub kirchhoff : (m : ℕ) → upward f own (row_count f) m
      ≡ plus3 (own m) (sum3 (λ b. cond (eqb (parent f b) m) (near_current (branch_at f b) (upward f own (row_count f) b)) zero3) (rows_of f))
  unfolding upward Deep
  kirchhoff m = sym (stable (row_count f) 0 m (λ j w z. omega arith) (omega arith))
