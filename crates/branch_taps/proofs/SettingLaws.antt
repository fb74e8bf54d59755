-- The branches while each row gets its taps: how the rows go on, and what they are at the end. Assumes nothing.
use Rattle.std.specs.Prelude.{List, ◌∷◌, ◌≡◌, refl, false, get_or, length, set}
use Rattle.std.proofs.Common.{◌∙◌, ap, sym, arith, length-set, get_or-set_other, get_or-set_same}
use Prim.Native.Nat.{◌+◌, ◌<◌, ◌≤◌, suc, zero, ℕ}
use Rattle.std.proofs.Math.Decide.{dec_lt, ℕ_discrete}
use Rattle.std.proofs.Math.ListN.{get_or-eq_default}
use Rattle.branch_taps.specs.Setting.{Setting}
use Rattle.branch_taps.specs.TapRows.{set-tapped}
use Rattle.feeder.specs.Feeder.{Feeder, branch_at, no_branch, no_taps, regulates, row_count, tapped, tapped_branch, with_taps}
use Rattle.feeder.specs.Network.{branch_array}
use Rattle.feeder.specs.NetworkLaws.{get_or_kept, length-kept}
use Rattle.feeder.specs.declared.Branch.{Branch}
use Rattle.feeder.specs.declared.Device.{Device}
use Rattle.feeder.specs.declared.Device.TheVariants.{Line, Regulator, Transformer}
use Rattle.feeder.specs.Phased.{Taps}

-- ---- a branch that is no regulator has no taps to get: it is stored as it was
pub no-taps : (t : Taps) (b : Branch) → regulates b.device ≡ false → tapped_branch t b ≡ b
no-taps t b e = go b.device e
  where
    go : (d : Device) → regulates d ≡ false → ◌≡◌ {A = Branch} (record { from = b.from; phases = b.phases; device = tapped t d }) (record { from = b.from; phases = b.phases; device = d })
    go (Line z) e = refl
    go (Regulator x) e = (let w : ◌≡◌ {A = ℕ} 0 1 = cc in absurd (omega arith))
    go (Transformer x) e = refl

-- ---- one row after the other
pub setting-start : (m : List Branch) (t : ℕ → Taps) → Setting 1 m m t
setting-start m t = record { long = refl; source = refl; front = λ j p q. absurd (omega arith); behind = λ j q. refl }

pub setting-next : (k : ℕ) (m l n : List Branch) (t : ℕ → Taps) → 0 < k → k < length m → n ≡ set l k (tapped_branch (t k) (get_or l k no_branch)) → Setting k m l t → Setting (k + 1) m n t
setting-next k m l n t p q s h = record {
  long = ap (λ (x : List Branch). length x) s ∙ length-set l k new ∙ h.long;
  source = at 0 ∙ get_or-set_other l k 0 new no_branch (λ z. omega arith) ∙ h.source;
  front = λ j b d. at j ∙ elim (ℕ_discrete j k) [
    | yes y ↦ rw y (get_or-set_same l k new no_branch (omega (arith, h.long)) ∙ ap (tapped_branch (t k)) (h.behind k (omega arith)))
    | no y ↦ get_or-set_other l k j new no_branch y ∙ h.front j b (omega arith)
  ];
  behind = λ j d. at j ∙ get_or-set_other l k j new no_branch (λ z. omega arith) ∙ h.behind j (omega arith);
}
  where
    new : Branch
    new = tapped_branch (t k) (get_or l k no_branch)

    at : (j : ℕ) → get_or n j no_branch ≡ get_or (set l k new) j no_branch
    at j = ap (λ (x : List Branch). get_or x j no_branch) s

-- what an array that holds a feeder has at each place
pub array_at : (g : Feeder) (m : List Branch) → m ≡ branch_array g → row_count g ≤ 200 → (k : ℕ) → get_or m k no_branch ≡ branch_at g k
unfolding branch_at
array_at g m e few k = ap (λ (x : List Branch). get_or x k no_branch) e ∙ get_or_kept no_branch 201 (no_branch ∷ g.branches) k (omega arith)

-- ---- all rows: the array holds the feeder with these taps
module _ (g : Feeder) (rows : ℕ) (m l : List Branch) (t : ℕ → Taps) (u : List Taps) (e : m ≡ branch_array g) (r : rows ≡ row_count g) (few : rows ≤ 200)
    (same : (k : ℕ) → 0 < k → k < rows + 1 → t k ≡ get_or u k no_taps) (h : Setting (rows + 1) m l t) where
  was : (k : ℕ) → get_or m k no_branch ≡ branch_at g k
  was = array_at g m e (omega arith)

  none : (k : ℕ) → row_count g < k → branch_at g k ≡ no_branch
  unfolding branch_at
  none zero q = absurd (omega arith)
  none (suc k) q = get_or-eq_default g.branches no_branch (omega arith)

  idle : (x : Taps) (b : Branch) → b ≡ no_branch → b ≡ tapped_branch x b
  idle x b z = z ∙ ap (tapped_branch x) (sym z)

  at_place : (k : ℕ) → get_or l k no_branch ≡ tapped_branch (get_or u k no_taps) (branch_at g k)
  unfolding branch_at
  at_place zero = h.source ∙ was 0
  at_place (suc k) = elim (dec_lt (suc k) (rows + 1)) [
    | yes y ↦ h.front (suc k) (omega arith) y ∙ (λ i. tapped_branch (same (suc k) (omega arith) y i) (was (suc k) i))
    | no y ↦ h.behind (suc k) (omega arith) ∙ was (suc k) ∙ idle (get_or u (suc k) no_taps) (branch_at g (suc k)) (none (suc k) (omega arith))
  ]

  pub set-array : l ≡ branch_array (with_taps u g)
  set-array = set-tapped u g l (omega arith) (h.long ∙ ap (λ (x : List Branch). length x) e ∙ length-kept no_branch 201 (no_branch ∷ g.branches)) at_place
