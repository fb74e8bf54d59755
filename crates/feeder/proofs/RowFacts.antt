-- What 11 and 23 give of each row of a feeder that was read. Assumes nothing.
use Rattle.std.specs.Prelude.{Bool, ◌&&◌, cond, false, not, true, List, ◌≡◌, refl, ◌+◌, ◌<◌, ◌≤◌, suc, zero, ℕ, leb, ltb, ◌-ℤ◌, nat_abs, neg_ℤ, pos, ℤ, get_or, length, None}
use Rattle.std.proofs.Common.{ap, subst, arith, leb-false, leb-true}
use Rattle.std.proofs.Math.Decide.{dec_lt}
use Rattle.std.proofs.Math.ListN.{get_or-eq_default}
use Rattle.std.specs.Int.Signed.{le_z}
use Rattle.std.proofs.lemmas.Bool.{not-false}
use Rattle.feeder.specs.Feeder.{Feeder, above, all_of, all_phases, between, branch_at, branch_in, branch_of, column_of, device_of, feeder_of, has, in_limit, load_in, load_of, no_branch, no_phases, nodes_of, out_of_limit, parent, phase_absent, phases_of, place_of, row_count, rows_of, stands_on, three_phase, vn_most}
use Rattle.feeder.proofs.FeederLaws.{Reached, Sound, branch-is, node-reached, parent-known, row-count, row_of}
use Rattle.feeder.specs.Layout.{Rows}
use Rattle.feeder.specs.RowLaws.{each-true, none-bad, or-none}
use Rattle.feeder.specs.declared.Branch.{Branch}
use Rattle.feeder.specs.declared.BranchRow.{BranchRow}
use Rattle.feeder.specs.declared.Device.{Device}
use Rattle.feeder.specs.declared.Device.TheVariants.{Line, Regulator, Transformer}
use Rattle.feeder.specs.declared.Kind.{Kind}
use Rattle.feeder.specs.declared.Kind.TheVariants.{D, L, R, Y}
use Rattle.feeder.specs.declared.Load.{Load}
use Rattle.feeder.specs.declared.LoadRow.{LoadRow}
use Rattle.feeder.specs.declared.Phase.{Phase}
use Rattle.feeder.specs.declared.Phase.TheVariants.{A, B, C}
use Rattle.feeder.specs.Phased.{Phases}
use Rattle.feeder.specs.declared.Terminals.{Terminals}
use Rattle.feeder.specs.declared.Terminals.TheVariants.{AB, BC, CA, OnA, OnB, OnC}
use Rattle.integers.specs.Bools.{both, clash}
use Rattle.integers.specs.ListLaws.{all-count, all-image, at_all, count-true}
use Rattle.integers.specs.Lists.{All}
use Rattle.integers.specs.Pairs.{inside}
use Rattle.integers.specs.Whole.{abs-parts, add_parts, le_z-true, neg-neg, pos-neg, zarith}
use Rattle.text.specs.Lines.{nth}

-- what a device's equations ask of its row: no divisor is 0, and a transformer has all phases
abbrev pub Sized : Device → Phases → Type 0
Sized (Line z) f = Unit {0}
Sized (Regulator x) f = (0 < nat_abs (pos 160 -ℤ x.taps.a)) × ((0 < nat_abs (pos 160 -ℤ x.taps.b)) × (0 < nat_abs (pos 160 -ℤ x.taps.c)))
Sized (Transformer x) f = (0 < nat_abs x.n) × ((p : Phase) → has f p ≡ true)

-- a branch: its device, and its phases are its from-node's
pub record OfBranch (f : Feeder) (b : Branch) : Type 0 where
  pub sized : Sized b.device b.phases
  pub under : (p : Phase) → has b.phases p ≡ true → has (phases_of f b.from) p ≡ true

-- a load: its node has its phases, and its vn is not 0
pub record OfLoad (f : Feeder) (l : Load) : Type 0 where
  pub there : (p : Phase) → has (stands_on l.phase) p ≡ true → has (phases_of f l.node) p ≡ true
  pub rated : 0 < nat_abs l.vn

-- ---- limits
pub at_least : (hi z : ℤ) → between (pos 1) hi z ≡ true → 0 < nat_abs z
at_least hi z e = over-one z (both (le_z (pos 1) z) _ e).0
  where
    over-one : (z : ℤ) → le_z (pos 1) z ≡ true → 0 < nat_abs z
    over-one z e = omega (zarith, abs-parts z)

-- a tap within ±16 leaves 160 − tap above 0
tap-sized : (t : ℤ) → between (neg_ℤ (pos 16)) (pos 16) t ≡ true → 0 < nat_abs (pos 160 -ℤ t)
tap-sized t e =
    let h = both (le_z (neg_ℤ (pos 16)) t) _ e in
    omega (arith, le_z-true t (pos 16) h.1, add_parts (pos 160) (neg_ℤ t), pos-neg t, neg-neg t, abs-parts (pos 160 -ℤ t))

-- the limit of column j, of any kind of row
pub column-in : (k : Kind) (p : List ℤ) → branch_in k p ≡ true → (j : ℕ) → j < 12 → in_limit (column_of k p (1 + j)) (nth p (1 + j)) ≡ true
unfolding branch_in
column-in k p e j q = count-true (λ j. in_limit (column_of k p j) (nth p j)) 1 12 e j q

full : (f : Phases) → all_of all_phases f ≡ true → (p : Phase) → has f p ≡ true
full f e A = each-true (λ p. cond (has all_phases p) (has f p) true) e A
full f e B = each-true (λ p. cond (has all_phases p) (has f p) true) e B
full f e C = each-true (λ p. cond (has all_phases p) (has f p) true) e C

sized-is : (k : Kind) (f : Phases) (p : List ℤ) → branch_in k p ≡ true → three_phase k f ≡ true → Sized (device_of k p) f
unfolding column_of device_of
sized-is L f p e t = tt
sized-is R f p e t = (tap-sized (nth p 1) (column-in R p e 0 (omega arith)), (tap-sized (nth p 2) (column-in R p e 1 (omega arith)), tap-sized (nth p 3) (column-in R p e 2 (omega arith))))
sized-is Y f p e t = (at_least _ (nth p 1) (column-in Y p e 0 (omega arith)), full f t)
sized-is D f p e t = (at_least _ (nth p 1) (column-in D p e 0 (omega arith)), full f t)

-- ---- rows
left : (c x : Bool) → cond c true (not x) ≡ false → x ≡ true
left true x e = clash true refl e
left false x e = not-false x e

implied : (a b : Bool) → cond a b true ≡ true → a ≡ true → b ≡ true
implied true b e h = e
implied false b e h = clash false h refl

from_is : (r : Rows) (j : ℕ) → j < length r.branches → (d : BranchRow) → parent (feeder_of r) (1 + j) ≡ place_of (get_or r.branches j d).from (nodes_of r)
from_is r j q d = let z : 1 + j ≡ suc j = omega arith in rw z (ap (λ (b : Branch). b.from) (branch-is r j q d))

-- a row past the last place has 11
pub few-branches : (r : Rows) → out_of_limit r ≡ None → length r.branches ≤ 200
unfolding out_of_limit
few-branches r e = elim (dec_lt 200 (length r.branches)) [
  | yes q ↦ clash true refl (none-bad (λ k b. cond (ltb 200 k) true (not (branch_in b.kind b.p))) 4 1 r.branches (row_of r.branches (omega arith)) (or-none _ _ (or-none _ _ e).1).0 200 q)
  | no q ↦ omega arith
]

pub few-loads : (r : Rows) → out_of_limit r ≡ None → length r.loads ≤ 300
unfolding out_of_limit
few-loads r e = elim (dec_lt 300 (length r.loads)) [
  | yes q ↦ clash true refl (none-bad (λ k l. cond (ltb 300 k) true (not (load_in l))) (length r.branches + 6) 1 r.loads (row_of r.loads (omega arith)) (or-none _ _ (or-none _ _ e).1).1 300 q)
  | no q ↦ omega arith
]

-- 11, of each row
pub branch-in : (s : List ℕ) (f : Feeder) (w : Sound s f) (j : ℕ) → j < length w.rows.branches → (d : BranchRow) → let b = get_or w.rows.branches j d in branch_in b.kind b.p ≡ true
unfolding out_of_limit
branch-in s f w j q d = left (ltb 200 (1 + j)) _ (none-bad (λ k b. cond (ltb 200 k) true (not (branch_in b.kind b.p))) 4 1 w.rows.branches d (or-none _ _ (or-none _ _ w.t11).1).0 j q)

pub load-in : (s : List ℕ) (f : Feeder) (w : Sound s f) (j : ℕ) → j < length w.rows.loads → (d : LoadRow) → load_in (get_or w.rows.loads j d) ≡ true
unfolding out_of_limit
load-in s f w j q d = left (ltb 300 (1 + j)) _ (none-bad (λ k l. cond (ltb 300 k) true (not (load_in l))) (length w.rows.branches + 6) 1 w.rows.loads d (or-none _ _ (or-none _ _ w.t11).1).1 j q)

branch-ok : (s : List ℕ) (f : Feeder) (w : Sound s f) (j : ℕ) → j < length w.rows.branches → (d : BranchRow) → OfBranch (feeder_of w.rows) (branch_of (nodes_of w.rows) (get_or w.rows.branches j d))
unfolding phase_absent
branch-ok s f w j q d =
    let r = w.rows in
    let b = get_or r.branches j d in
    let ph = both (all_of b.phases (phases_of (feeder_of r) (parent (feeder_of r) (1 + j)))) _ (not-false _ (none-bad (λ k b. not (all_of b.phases (phases_of (feeder_of r) (parent (feeder_of r) k)) && three_phase b.kind b.phases)) 4 1 r.branches d (or-none _ _ w.t23).0 j q)) in
    record {
      sized = sized-is b.kind b.phases b.p (branch-in s f w j q d) ph.1;
      under = λ p h. implied _ _ (each-true (λ p. cond (has b.phases p) (has (phases_of (feeder_of r) (place_of b.from (nodes_of r))) p) true) (rw (from_is r j q d) at ph.0) p) h;
    }

load_ok : (s : List ℕ) (f : Feeder) (w : Sound s f) (j : ℕ) (d : LoadRow) → j < length w.rows.loads → OfLoad (feeder_of w.rows) (load_of (nodes_of w.rows) (get_or w.rows.loads j d))
unfolding phase_absent load_in feeder_of
load_ok s f w j d q =
    let r = w.rows in
    let l = get_or r.loads j d in
    record {
      there = λ p h. implied _ _ (each-true (λ p. cond (has (stands_on l.phase) p) (has (phases_of (feeder_of r) (place_of l.node (feeder_of r).nodes)) p) true)
          (not-false _ (none-bad (λ k l. not (all_of (stands_on l.phase) (phases_of (feeder_of r) (place_of l.node (feeder_of r).nodes)))) (length r.branches + 6) 1 r.loads d (or-none _ _ w.t23).1 j q)) p) h;
      rated = at_least _ l.vn (both (between (pos 1) (vn_most l.phase) l.vn) _ (load-in s f w j q d)).0;
    }

-- 11 and 23, of each branch and of each load
pub branch-facts : (s : List ℕ) (f : Feeder) → Sound s f → (j : ℕ) → j < row_count f → OfBranch f (branch_at f (suc j))
unfolding feeder_of
branch-facts s f w = subst (λ (g : Feeder). (j : ℕ) → j < row_count g → OfBranch g (branch_at g (suc j))) w.made one
  where
    one : (j : ℕ) → j < row_count (feeder_of w.rows) → OfBranch (feeder_of w.rows) (branch_at (feeder_of w.rows) (suc j))
    one j q =
        let n : j < length w.rows.branches = rw (row-count w.rows) at q in
        let d : BranchRow = row_of w.rows.branches (omega arith) in
        rw (branch-is w.rows j n d) (branch-ok s f w j n d)

pub load-facts : (s : List ℕ) (f : Feeder) → Sound s f → All (OfLoad f) f.loads
unfolding feeder_of
load-facts s f w =
    let r = w.rows in
    let h = at_all (λ l. OfLoad (feeder_of r) (load_of (nodes_of r) l)) r.loads (load_ok s f w) in
    subst (λ (g : Feeder). All (OfLoad g) g.loads) w.made (all-image (OfLoad (feeder_of r)) (load_of (nodes_of r)) r.loads h)

-- a node that has a phase is a node of the feeder
pub node_in : (f : Feeder) (k : ℕ) (p : Phase) → has (phases_of f k) p ≡ true → k < suc (row_count f)
unfolding phases_of branch_at
node_in f zero p h = omega arith
node_in f (suc k) p h = go (leb (row_count f) k) refl
  where
    none : {X : Type 0} (p : Phase) → has no_phases p ≡ true → X
    none A e = clash false e refl
    none B e = clash false e refl
    none C e = clash false e refl

    go : (c : Bool) → leb (row_count f) k ≡ c → suc k < suc (row_count f)
    go true e = none p (subst (λ (b : Branch). has b.phases p ≡ true) (get_or-eq_default f.branches no_branch (leb-true (row_count f) k e)) h)
    go false e = let z = leb-false (row_count f) k e in omega arith

-- and so is the node of a load
pub load-node : (f : Feeder) (l : Load) → OfLoad f l → l.node < suc (row_count f)
unfolding inside
load-node f l o = go l.phase o.there
  where
    go : (t : Terminals) → ((p : Phase) → has (stands_on t) p ≡ true → has (phases_of f l.node) p ≡ true) → l.node < suc (row_count f)
    go OnA h = node_in f l.node A (h A refl)
    go OnB h = node_in f l.node B (h B refl)
    go OnC h = node_in f l.node C (h C refl)
    go AB h = node_in f l.node A (h A refl)
    go BC h = node_in f l.node B (h B refl)
    go CA h = node_in f l.node C (h C refl)

-- ---- a feeder's form, whatever text it was read from: a tree of nodes, with what 11 and 23 give of its rows
pub record Formed (f : Feeder) : Type 0 where
  pub parents : (k : ℕ) → k < suc (row_count f) → parent f k < suc (row_count f)
  pub reached : (k : ℕ) → k < suc (row_count f) → above (parent f) (row_count f) k ≡ 0
  pub branches : (k : ℕ) → k < row_count f → OfBranch f (branch_at f (suc k))
  pub loads : All (OfLoad f) f.loads

pub formed : (s : List ℕ) (f : Feeder) → Sound s f → Formed f
formed s f w = record { parents = parent-known s f w; reached = node-reached s f w; branches = branch-facts s f w; loads = load-facts s f w }

-- 22, over the list of the rows
pub all-reached : (f : Feeder) → Formed f → All (Reached f) (rows_of f)
all-reached f w = all-count (Reached f) 1 (row_count f) (λ k q. let z : 1 + k ≡ suc k = omega arith in rw z (record { row = omega arith; steps = w.reached (suc k) (omega arith) }))
