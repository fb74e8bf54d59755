-- Voltages on the way down: those of the nodes that are done follow from the ones above them, so they are 01's. Assumes nothing.
use Rattle.std.specs.Prelude.{true, List, ◌≡◌, ◌+◌, ◌<◌, ◌≤◌, suc, ℕ, length, set}
use Rattle.std.proofs.Common.{◌∙◌, arith, length-set, get_or-set_other, get_or-set_same}
use Rattle.std.proofs.Math.Path.{ap, sym}
use Rattle.std.proofs.Math.ListN.{get_or}
use Rattle.arrays.specs.Arrays.{Spare}
use Rattle.equations.specs.Equations.{beyond3, far_voltage, voltage_beyond, voltages, zero3}
use Rattle.equations.specs.Sizes.{Within3, false-beyond3}
use Rattle.feeder.specs.Feeder.{Feeder, no_branch, row_count}
use Rattle.feeder.specs.declared.Branch.{Branch}
use Rattle.feeder.specs.Phased.{Three}
use Rattle.integers.specs.Bools.{same?}
use Rattle.passes.specs.Arrays.{keeps, no_row, rank_most, some-row, to-source, voltage-in, voltages-length}
use Rattle.feeder.specs.declared.Network.{Network}
use Rattle.std.specs.Prelude.{Err, Ok}
use Rattle.answers.specs.Answers.{done}
use Rattle.passes.specs.Passes.{unless_beyond, DownwardIs, InArrays, Ready}
use Rattle.passes.specs.Along.{Done, done_next, turn, worked}
use Rattle.radial.specs.Radial.{parent_in}

-- V of node j, from what stands at its parent and the current of its branch
abbrev pub below : List Branch → List Three → ℕ → Three → Three
below branches i j u = far_voltage (get_or branches j no_branch) u (get_or i j zero3)

-- what is worked in a turn, from a branch b, a voltage u and a current c that are read of the arrays
pub below-is : (branches : List Branch) (i v : List Three) (m : ℕ) (b : Branch) (u c y : Three) → b ≡ get_or branches m no_branch → u ≡ get_or v b.from zero3 → c ≡ get_or i m zero3 →
    y ≡ far_voltage b u c → y ≡ below branches i m (get_or v (parent_in branches m) zero3)
below-is branches i v m b u c y eb eu ec e = e ∙ ap (λ (x : Three). far_voltage b x c) eu ∙ (λ t. far_voltage (eb t) (get_or v (eb t).from zero3) (ec t))

abbrev pub Follows : List Branch → List Three → List Three → ℕ → Type 0
Follows branches i v j = get_or v j zero3 ≡ below branches i j (get_or v (parent_in branches j) zero3)

pub record Lowered (branches : List Branch) (rows : ℕ) (order : List ℕ) (source : Three) (i v : List Three) (k : ℕ) : Type 0 where
  pub long : length v ≡ 201
  pub first : get_or v 0 zero3 ≡ source
  pub done : Done order (Follows branches i v) k
  pub behind : (j : ℕ) → rows < j → get_or v j zero3 ≡ zero3

-- the source's voltages stand at place 0, and no other node is done
pub lowered-first : (branches : List Branch) (rows : ℕ) (order : List ℕ) (source : Three) (i v : List Three) → Spare rows v → Lowered branches rows order source i (set v 0 source) 1
lowered-first branches rows order source i v s =
    record {
      long = length-set v 0 source ∙ s.long;
      first = get_or-set_same v 0 source zero3 (omega (arith, s.long));
      done = λ q p h. absurd (omega arith);
      behind = λ j h. get_or-set_other v 0 j source zero3 (λ e. omega arith) ∙ s.behind j h;
    }

pub sized-next : (v : List Three) (m : ℕ) (y : Three) → m < length v → Within3 2000000 y → ((j : ℕ) → Within3 2000000 (get_or v j zero3)) →
    (j : ℕ) → Within3 2000000 (get_or (set v m y) j zero3)
sized-next v m y q h s j =
    same? j m
    (λ e. rw (e, get_or-set_same v m y zero3 q) h)
    (λ ne. rw (get_or-set_other v m j y zero3 ne) (s j))

module _ {net : Network} (w : Ready net) (source : Three) (i : List Three) where
  -- the next node's
  pub lowered-next : (v : List Three) (k : ℕ) → 0 < k → k ≤ net.rows → (y : Three) → y ≡ below net.branches i (get_or net.order k 0) (get_or v (parent_in net.branches (get_or net.order k 0)) zero3) →
      Lowered net.branches net.rows net.order source i v k → Lowered net.branches net.rows net.order source i (set v (get_or net.order k 0) y) (suc k)
  lowered-next v k p h y e l =
      let m = get_or net.order k 0 in
      let n = turn w k p (omega arith) in
      let same = get_or-set_same v m y zero3 (omega (arith, l.long, n.room)) in
      let other : (j : ℕ) → (j ≡ m → ⊥) → get_or (set v m y) j zero3 ≡ get_or v j zero3 = λ j ne. get_or-set_other v m j y zero3 ne in
      record {
        long = length-set v m y ∙ l.long;
        first = other 0 (λ z. omega (arith, n.below)) ∙ l.first;
        done =
            done_next w (Follows net.branches i v) (Follows net.branches i (set v m y)) k (omega arith)
            (λ j a b q. other j a ∙ q ∙ sym (ap (below net.branches i j) (other (parent_in net.branches j) b)))
            (same ∙ e ∙ sym (ap (below net.branches i m) (other (parent_in net.branches m) n.apart)))
            l.done;
        behind = λ j q. other j (λ z. omega (arith, n.known)) ∙ l.behind j q;
      }

  module _ (f : Feeder) (a : InArrays f net) (e : source ≡ f.source) where
    -- they are 01's
    pub lowered_is : (v : List Three) (k j : ℕ) → Lowered net.branches net.rows net.order source i v k → j < net.rows + 1 → get_or net.rank j 0 ≤ k → get_or v j zero3 ≡ get_or (voltages f i) j zero3
    lowered_is v k j l h q =
        worked w (below net.branches i) source (λ j. get_or v j zero3) k l.first l.done net.rows j
        (to-source w j h) (w.ranked j h) q ∙
        voltage-in f net w.linked.few a source e i j h

    -- none is beyond its limit
    pub lowered-all : (v : List Three) (k : ℕ) → Lowered net.branches net.rows net.order source i v k → net.rows < k → ((j : ℕ) → Within3 2000000 (get_or v j zero3)) → DownwardIs f i (Ok done) v
    unfolding voltage_beyond
    lowered-all v k l h s =
        let n = voltages-length f i in
        let at : (j : ℕ) → j < net.rows + 1 → get_or v j zero3 ≡ get_or (voltages f i) j zero3 =
        λ j q. lowered_is v k j l q (omega (arith, rank_most w j)) in
        let z = no_row (λ j. beyond3 (get_or (voltages f i) j zero3)) (row_count f) (λ j p q. ap beyond3 (sym (at j (omega (arith, a.rows_are)))) ∙ false-beyond3 (s j)) in
        record {
          answer-is = sym (ap unless_beyond z);
          at-is = keeps zero3 201 v (voltages f i) l.long (omega (arith, w.linked.few, n, a.rows_are)) (λ j q. at j (omega (arith, n, a.rows_are))) (λ j q. l.behind j (omega (arith, n, a.rows_are)));
        }

    -- the next node's is
    pub lowered-beyond : (v : List Three) (k : ℕ) (y : Three) → Lowered net.branches net.rows net.order source i (set v (get_or net.order k 0) y) (suc k) → 0 < k → k ≤ net.rows → get_or net.order k 0 < length v → beyond3 y ≡ true →
        DownwardIs f i (Err (record {})) v
    unfolding voltage_beyond
    lowered-beyond v k y s p h q b =
        let m = get_or net.order k 0 in
        let n = turn w k p (omega arith) in
        let x = sym (get_or-set_same v m y zero3 q) ∙ lowered_is (set v m y) (suc k) m s n.known (omega (arith, n.rank_is)) in
        let z = some-row (λ j. beyond3 (get_or (voltages f i) j zero3)) (row_count f) m n.below (omega (arith, n.known, a.rows_are)) (ap beyond3 (sym x) ∙ b) in
        record { answer-is = sym (ap unless_beyond z); at-is = tt }
