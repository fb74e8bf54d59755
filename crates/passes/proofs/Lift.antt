-- One turn of the upward pass, and what it gives at the end. Assumes nothing.
use mathlib.Core.Bool.{Bool, cond, false, true}
use mathlib.Core.List.{List}
use mathlib.Core.Path.{◌∙◌, ◌≡◌, ap, ap₂, sym}
use Prim.Native.Nat.{◌*◌, ◌+◌, ◌-◌, ◌<◌, ◌≤◌, suc, ℕ}
use native.Mathlib.Omega.{arith}
use lib.ListN.{get_or, length, length-set, set}
use lib.Seq.{get_or-set_other, get_or-set_same}
use Rattle.equations.specs.Equations.{beyond3, current_beyond, near_current, plus3, upward, zero3}
use Rattle.equations.specs.Sizes.{Within3, beyond3-false, within3-le, within3-plus}
use Rattle.feeder.specs.Feeder.{Feeder, branch_at, no_branch, row_count}
use Rattle.feeder.specs.declared.Branch.{Branch}
use Rattle.feeder.specs.Phased.{Three}
use Rattle.integers.specs.Bools.{same?}
use Rattle.integers.specs.ListLaws.{get_or-tab, length-tab}
use Rattle.passes.specs.Arrays.{branch-in, keeps, no_row, rank_most, some-row}
use Rattle.feeder.specs.declared.Network.{Network}
use Rattle.std.specs.Prelude.{Err, Ok}
use Rattle.answers.specs.Answers.{done}
use Rattle.passes.specs.Passes.{unless_beyond, InArrays, Ready, UpwardIs, upwards}
use Rattle.passes.specs.Along.{done_at, turn}
use Rattle.passes.proofs.Gather.{Holds, holds-is, holds-next, holds-own, taken}
use Rattle.radial.specs.Radial.{parent_in}

-- 32 does not apply at row b
pub record Fine (branches : List Branch) (x : List Three) (b : ℕ) : Type 0 where
  pub current : beyond3 (get_or x b zero3) ≡ false
  pub taken-there : beyond3 (taken branches x b) ≡ false

-- the nodes at places above k of the order are done
pub record Gathered (net : Network) (own x : List Three) (k : ℕ) : Type 0 where
  pub long : length x ≡ 201
  pub behind : (j : ℕ) → net.rows < j → get_or x j zero3 ≡ zero3
  pub each : (j : ℕ) → Within3 (600000000 + (net.rows - k) * 2000000) (get_or x j zero3)
  pub fine : (q : ℕ) → k < q → q ≤ net.rows → Fine net.branches x (get_or net.order q 0)
  pub holds : Ready net → Holds net.branches net.rows net.rank own x (suc k)

pub gathered-first : (net : Network) (own : List Three) → length own ≡ 201 → ((j : ℕ) → net.rows < j → get_or own j zero3 ≡ zero3) →
    ((j : ℕ) → Within3 600000000 (get_or own j zero3)) → Gathered net own own net.rows
gathered-first net own l b e =
    record {
      long = l;
      behind = b;
      each = λ j. within3-le (omega arith) (e j);
      fine = λ q p h. absurd (omega arith);
      holds = λ w. (let z : suc net.rows ≡ net.rows + 1 = omega arith in rw z (holds-own w own));
    }

module _ {net : Network} (w : Ready net) (own x : List Three) (k : ℕ) (g : Gathered net own x k) where
  -- the node at place k gives to its parent
  pub gathered_next : 0 < k → k ≤ net.rows → Fine net.branches x (get_or net.order k 0) → (y : Three) → let p = parent_in net.branches (get_or net.order k 0) in
      y ≡ plus3 (get_or x p zero3) (taken net.branches x (get_or net.order k 0)) → Gathered net own (set x p y) (k - 1)
  gathered_next low high here y e =
      let m = get_or net.order k 0 in
      let p = parent_in net.branches m in
      let n = turn w k low (omega arith) in
      let other : (j : ℕ) → (j ≡ p → ⊥) → get_or (set x p y) j zero3 ≡ get_or x j zero3 = λ j ne. get_or-set_other x p j y zero3 ne in
      let back : suc (k - 1) ≡ k = omega arith in
      let kept : (j : ℕ) → (j ≡ p → ⊥) → Fine net.branches x j → Fine net.branches (set x p y) j =
      λ j ne h. record { current = ap beyond3 (other j ne) ∙ h.current; taken-there = ap (λ (u : Three). beyond3 (near_current (get_or net.branches j no_branch) u)) (other j ne) ∙ h.taken-there } in
      record {
        long = length-set x p y ∙ g.long;
        behind = λ j q. other j (λ z. omega (arith, n.parent-known)) ∙ g.behind j q;
        each = λ j.
            same? j p
            (λ z.
            rw (z, get_or-set_same x p y zero3 (omega (arith, g.long, n.parent-room)), e)
            (within3-le (omega arith) (within3-plus (g.each p) (beyond3-false here.taken-there))))
            (λ ne. rw (other j ne) (within3-le (omega arith) (g.each j)));
        fine = λ q a b.
            let t = w.ordered.top q (omega arith) in
            kept (get_or net.order q 0) (λ z. let r : get_or net.rank (get_or net.order q 0) 0 ≡ get_or net.rank p 0 = ap (λ (j : ℕ). get_or net.rank j 0) z in omega (arith, t.1, n.parent-before))
            (same? q k (λ z. rw z here) (λ nz. g.fine q (omega arith) b));
        holds = λ w'. rw back (holds-next w' own x k low high y e g.long (g.holds w'));
      }

  module _ (f : Feeder) (mine : ℕ → Three) (a : InArrays f net) (mine-is : (j : ℕ) → j < net.rows + 1 → get_or own j zero3 ≡ mine j) where
    up_at : (j : ℕ) → j < net.rows + 1 → get_or (upwards f mine) j zero3 ≡ upward f mine (row_count f) j
    up_at j q =
        get_or-tab (upward f mine (row_count f)) 0 (suc (row_count f)) j zero3 (omega (arith, a.rows_are)) ∙
        (let z : 0 + j ≡ j = omega arith in ap (upward f mine (row_count f)) z)

    is : (j : ℕ) → j < net.rows + 1 → suc k ≤ get_or net.rank j 0 → get_or x j zero3 ≡ get_or (upwards f mine) j zero3
    is j q r = holds-is w own f a mine mine-is x (suc k) (g.holds w) j q r ∙ sym (up_at j q)

    abbrev refused_at : ℕ → Bool
    refused_at j = cond (beyond3 (get_or (upwards f mine) j zero3)) true (beyond3 (near_current (branch_at f j) (get_or (upwards f mine) j zero3)))

    -- 32 at row j, by what stands there
    test-is : (j : ℕ) → j < net.rows + 1 → suc k ≤ get_or net.rank j 0 → refused_at j ≡ cond (beyond3 (get_or x j zero3)) true (beyond3 (taken net.branches x j))
    test-is j q r =
        sym (λ t. cond (beyond3 (is j q r t)) true (beyond3 (near_current (branch-in f net w.linked.few a j t) (is j q r t))))

    -- 32 applies at the node at place k
    pub gathered-beyond : 0 < k → k ≤ net.rows → let m = get_or net.order k 0 in cond (beyond3 (get_or x m zero3)) true (beyond3 (taken net.branches x m)) ≡ true → UpwardIs f mine (Err (record {})) x
    unfolding current_beyond
    gathered-beyond low high b =
        let n = turn w k low (omega arith) in
        let z = some-row refused_at (row_count f) (get_or net.order k 0) n.below (omega (arith, n.known, a.rows_are)) (test-is (get_or net.order k 0) n.known (omega (arith, n.rank_is)) ∙ b) in
        record { answer-is = sym (ap unless_beyond z); at-is = tt }

  -- every row is done, and fine
  pub all-fine : k ≡ 0 → (j : ℕ) → 0 < j → j < net.rows + 1 → Fine net.branches x j
  all-fine e j p q =
      done_at w (Fine net.branches x) (net.rows + 1) j (λ r a b. g.fine r (omega arith) (omega arith)) p (w.ranked j q)
      (rank_most w j)

  pub gathered-all : k ≡ 0 → (f : Feeder) (mine : ℕ → Three) (a : InArrays f net) (mine-is : (j : ℕ) → j < net.rows + 1 → get_or own j zero3 ≡ mine j) →
      UpwardIs f mine (Ok done) x
  unfolding current_beyond
  gathered-all e f mine a mine-is =
      let n = length-tab (upward f mine (row_count f)) 0 (suc (row_count f)) in
      let ranked : (j : ℕ) → j < net.rows + 1 → suc k ≤ get_or net.rank j 0 = λ j q. omega (arith, w.ranked j q) in
      let z = no_row (refused_at f mine a mine-is) (row_count f)
      (λ j p q.
      let r : j < net.rows + 1 = omega (arith, a.rows_are) in
      let h = all-fine e j p r in
      test-is f mine a mine-is j r (ranked j r) ∙ ap₂ (λ (s t : Bool). cond s true t) h.current h.taken-there) in
      record {
        answer-is = sym (ap unless_beyond z);
        at-is = keeps zero3 201 x (upwards f mine) g.long (omega (arith, n, w.linked.few, a.rows_are))
            (λ j q. let r : j < net.rows + 1 = omega (arith, n, a.rows_are) in is f mine a mine-is j r (ranked j r))
            (λ j q. g.behind j (omega (arith, n, a.rows_are)));
      }
