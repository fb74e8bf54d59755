-- A feeder in memory whose branches have other taps is known again: its limits hold, and its order of work stays. Assumes nothing.
use Rattle.std.specs.Prelude.{List, ◌≡◌, ◌+◌, ◌<◌, ◌≤◌, suc, ℕ, nat_abs, length, refl}
use Rattle.std.proofs.Common.{◌∙◌, ap, subst, sym}
use Rattle.equations.specs.Fit.{retapped-limits}
use Rattle.feeder.specs.Feeder.{Feeder, branch_at, row_count, tap_at, taps_on}
use Rattle.feeder.specs.Network.{Held, branch_array, kept, no_load}
use Rattle.feeder.proofs.TapLaws.{Retapped, parent-same}
use Rattle.feeder.specs.declared.Branch.{Branch}
use Rattle.feeder.specs.declared.Load.{Load}
use Rattle.feeder.specs.declared.Network.{Network}
use Rattle.feeder.specs.declared.Phase.{Phase}
use Rattle.radial.specs.Radial.{Ordered, parent_in}
use Rattle.sweeps.specs.Sweeps.{Known}
use Rattle.sweeps.specs.SweepsLaws.{branch_held}

-- the same arrays but for the branches. What is known of the numbers of rows is given anew, since a network that was lent says it by a proof of its own
abbrev pub with_branches : List Branch → (n : Network) → n.rows ≤ 200 → n.count ≤ 300 → Network
with_branches bs n few_rows few_loads = record {
  source = n.source;
  tol = n.tol;
  limit = n.limit;
  rows = n.rows;
  nodes = n.nodes;
  branches = bs;
  count = n.count;
  loads = n.loads;
  order = n.order;
  rank = n.rank;
  few_rows = few_rows;
  few_loads = few_loads;
}

-- h differs from g in its branches alone
pub record BranchesAlone (g h : Network) : Type 0 where
  pub source : h.source ≡ g.source
  pub tol : h.tol ≡ g.tol
  pub limit : h.limit ≡ g.limit
  pub rows : h.rows ≡ g.rows
  pub nodes : h.nodes ≡ g.nodes
  pub count : h.count ≡ g.count
  pub loads : h.loads ≡ g.loads
  pub order : h.order ≡ g.order
  pub rank : h.rank ≡ g.rank

pub alone-same : (g : Network) → BranchesAlone g g
alone-same g = record { source = refl; tol = refl; limit = refl; rows = refl; nodes = refl; count = refl; loads = refl; order = refl; rank = refl }

pub alone-more : {g : Network} (n : Network) (bs : List Branch) (few_rows : n.rows ≤ 200) (few_loads : n.count ≤ 300) → BranchesAlone g n → BranchesAlone g (with_branches bs n few_rows few_loads)
alone-more n bs few_rows few_loads h = record { source = h.source; tol = h.tol; limit = h.limit; rows = h.rows; nodes = h.nodes; count = h.count; loads = h.loads; order = h.order; rank = h.rank }

module _ (n : Network) (bs : List Branch) (few_rows : n.rows ≤ 200) (few_loads : n.count ≤ 300) where
  -- arrays that hold f hold f with other taps, once the branches are its own
  pub retapped-held : (f g : Feeder) → Retapped f g → bs ≡ branch_array g → Held f n → Held g (with_branches bs n few_rows few_loads)
  retapped-held f g h e w = record {
    source = w.source ∙ sym h.source;
    tol = w.tol ∙ sym h.tol;
    limit = w.limit ∙ sym h.limit;
    rows = w.rows ∙ sym h.rows;
    few-rows = rw h.rows w.few-rows;
    nodes = w.nodes ∙ ap (kept 0 201) (sym h.nodes);
    branches = e;
    count = w.count ∙ ap (λ (l : List Load). length l) (sym h.loads);
    few-loads = subst (λ (l : List Load). length l ≤ 300) (sym h.loads) w.few-loads;
    loads = w.loads ∙ ap (kept no_load 300) (sym h.loads);
  }

  parents-same : (f g : Feeder) → Retapped f g → bs ≡ branch_array g → Held f n → (k : ℕ) → parent_in n.branches k ≡ parent_in bs k
  parents-same f g h e w k =
      ap (λ (b : Branch). b.from) (branch_held w k) ∙ sym (parent-same h k) ∙ sym (ap (λ (b : Branch). b.from) (branch_held (retapped-held f g h e w) k))

  pub retapped-known : (w : Known n) (g : Feeder) → Retapped w.feeder g
      → ((k : ℕ) → k < row_count w.feeder → (p : Phase) → nat_abs (tap_at (taps_on (branch_at g (suc k)).device) p) ≤ 16) → bs ≡ branch_array g → Known (with_branches bs n few_rows few_loads)
  retapped-known w g h t e =
      let same = parents-same w.feeder g h e w.held in
      let a = w.arranged in
      record {
        feeder = g;
        held = retapped-held w.feeder g h e w.held;
        fit = retapped-limits w.feeder g h t w.fit;
        arranged = record {
          linked = record { few = a.linked.few; from = λ k q. subst (λ (m : ℕ). m < n.rows + 1) (same k) (a.linked.from k q) };
          ordered = subst (λ (par : ℕ → ℕ). Ordered (n.rows + 1) par n.order n.rank (n.rows + 1)) (λ i k. same k i) a.ordered;
          ranked = a.ranked;
          order-size = a.order-size;
          rank-size = a.rank-size;
        };
      }
