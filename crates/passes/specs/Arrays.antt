-- What stands in the arrays of a pass, as the feeder has it, and tests over its rows. Assumes nothing.
use Rattle.std.specs.Prelude.{Bool, cond, false, true, ◌≡◌, refl, ◌+◌, ◌<◌, ◌≤◌, suc, zero, ℕ, length}
use mathlib.Core.List.{◌∷◌, List, []}
use Rattle.std.proofs.Common.{◌∙◌, ext_get_or}
use Rattle.std.proofs.Math.Path.{ap, sym}
use Rattle.std.proofs.Math.Decide.{dec_lt}
use native.Mathlib.Omega.{arith}
use Rattle.std.proofs.Math.ListN.{get_or}
use Rattle.equations.specs.Downward.{downward-node}
use Rattle.equations.specs.Equations.{downward, far_voltage, voltages, zero3}
use Rattle.feeder.specs.Feeder.{Feeder, above, branch_at, no_branch, row_count, rows_of}
use Rattle.feeder.proofs.FeederLaws.{Reached}
use Rattle.feeder.specs.Network.{Held, kept}
use Rattle.feeder.specs.NetworkLaws.{get_or_kept, length-kept}
use Rattle.feeder.specs.declared.Branch.{Branch}
use Rattle.feeder.specs.declared.Network.{Network}
use Rattle.feeder.specs.Phased.{Three}
use Rattle.integers.specs.ListLaws.{all-count, get_or-tab, length-tab}
use Rattle.integers.specs.Lists.{any, count, tab, All}
use Rattle.passes.specs.Passes.{InArrays, Ready}
use Rattle.radial.specs.Radial.{parent_in}
use Rattle.radial.specs.Reach.{rank-short, reached}
use Rattle.integers.specs.Bools.{same?}

-- behind a list stands the default
pub get_or-behind : {X : Type 0} (l : List X) (k : ℕ) (d : X) → length l ≤ k → get_or l k d ≡ d
get_or-behind [] k d h = refl
get_or-behind (x ∷ l) zero d h = absurd (omega arith)
get_or-behind (x ∷ l) (suc k) d h = get_or-behind l k d (omega arith)

-- an array that holds a list, and behind it the default
pub keeps : {X : Type 0} (d : X) (n : ℕ) (r l : List X) → length r ≡ n → length l ≤ n →
    ((k : ℕ) → k < length l → get_or r k d ≡ get_or l k d) → ((k : ℕ) → length l ≤ k → get_or r k d ≡ d) → r ≡ kept d n l
keeps d n r l e h there behind =
    ext_get_or d r (kept d n l) (e ∙ sym (length-kept d n l))
    (λ k q. elim (dec_lt k (length l)) [
      | yes y ↦ there k y ∙ sym (get_or_kept d n l k h)
      | no y ↦ behind k (omega arith) ∙ sym (get_or_kept d n l k h ∙ get_or-behind l k d (omega arith))
    ])

-- a test of some row
pub some-row : (f : ℕ → Bool) (n k : ℕ) → 0 < k → k < suc n → f k ≡ true → any f (count 1 n) ≡ true
unfolding count any tab
some-row f n k p q e = go 1 n (omega arith) (omega arith)
  where
    rest : (b : Bool) → cond b true true ≡ true
    rest true = refl
    rest false = refl

    go : (a m : ℕ) → a ≤ k → k < a + m → any f (tab (λ i. i) a m) ≡ true
    go a zero h l = absurd (omega arith)
    go a (suc m) h l = same? a k (λ z. rw (z, e)) (λ ne. rw (go (a + 1) m (omega arith) (omega arith)) (rest (f a)))

pub no_row : (f : ℕ → Bool) (n : ℕ) → ((k : ℕ) → 0 < k → k < suc n → f k ≡ false) → any f (count 1 n) ≡ false
unfolding count any tab
no_row f n h = go 1 n (λ k p q. h k (omega arith) (omega arith))
  where
    go : (a m : ℕ) → ((k : ℕ) → a ≤ k → k < a + m → f k ≡ false) → any f (tab (λ i. i) a m) ≡ false
    go a zero w = refl
    go a (suc m) w = rw (w a (omega arith) (omega arith)) (go (a + 1) m (λ k p q. w k (omega arith) (omega arith)))

-- a network's arrays
pub held_in : {f : Feeder} {g : Network} → Held f g → InArrays f g
held_in h = record { branches-are = h.branches; rows_are = h.rows }

module _ {net : Network} (w : Ready net) where
  pub rank_most : (k : ℕ) → get_or net.rank k 0 ≤ net.rows + 1
  rank_most k = rank-short net.rows (parent_in net.branches) net.order net.rank (net.rows + 1) w.ordered k

  -- every node is reached
  pub to-source : (k : ℕ) → k < net.rows + 1 → above (parent_in net.branches) net.rows k ≡ 0
  to-source k h = reached net.rows (parent_in net.branches) net.order net.rank (net.rows + 1) w.ordered (omega arith) k (w.ranked k h)

pub voltages-length : (f : Feeder) (i : List Three) → length (voltages f i) ≡ suc (row_count f)
unfolding voltages
voltages-length f i = length-tab _ 0 (suc (row_count f))

module _ (f : Feeder) (net : Network) (few : net.rows ≤ 200) (w : InArrays f net) where
  -- the branch of each row
  pub branch-in : (k : ℕ) → get_or net.branches k no_branch ≡ branch_at f k
  unfolding branch_at
  branch-in k =
      ap (λ (l : List Branch). get_or l k no_branch) w.branches-are ∙
      get_or_kept no_branch 201 (no_branch ∷ f.branches) k (let e = w.rows_are in omega arith)

  -- the voltage at each node
  pub voltage-in : (source : Three) → source ≡ f.source → (i : List Three) (k : ℕ) → k < net.rows + 1 →
      downward (λ m u. far_voltage (get_or net.branches m no_branch) u (get_or i m zero3)) source (parent_in net.branches) net.rows k ≡ get_or (voltages f i) k zero3
  unfolding voltages
  voltage-in source e i k h =
      (λ t. downward (λ m u. far_voltage (branch-in m t) u (get_or i m zero3)) (e t) (λ m. (branch-in m t).from) (w.rows_are t) k) ∙
      sym (get_or-tab _ 0 (suc (row_count f)) k zero3 (let q = w.rows_are in omega arith) ∙ (let z : 0 + k ≡ k = omega arith in rw z))

  -- each from the one above it
  pub voltage-next : Ready net → (i : List Three) (k : ℕ) → suc k < net.rows + 1 →
      get_or (voltages f i) (suc k) zero3 ≡ far_voltage (get_or net.branches (suc k) no_branch) (get_or (voltages f i) (parent_in net.branches (suc k)) zero3) (get_or i (suc k) zero3)
  voltage-next r i k h =
      let step : ℕ → Three → Three = λ m u. far_voltage (get_or net.branches m no_branch) u (get_or i m zero3) in
      sym (voltage-in f.source refl i (suc k) h) ∙
      downward-node step f.source (parent_in net.branches) net.rows k (to-source r (suc k) h) ∙
      ap (step (suc k)) (voltage-in f.source refl i (parent_in net.branches (suc k)) (r.linked.from (suc k) h))

  -- every row is reached
  pub reached-in : Ready net → All (Reached f) (rows_of f)
  reached-in r =
      all-count (Reached f) 1 (row_count f)
      (λ i q.
      record {
        row = omega arith;
        steps =
            sym (λ t. above (λ m. (branch-in m t).from) (w.rows_are t) (1 + i)) ∙
            to-source r (1 + i) (omega (arith, w.rows_are));
      })
