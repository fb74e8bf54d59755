-- Marks on the way down: a node is marked where its parent is, and where its worked voltage is off. So 01's nodes are marked. Assumes nothing.
use mathlib.Core.Bool.{Bool, cond, false, not, true}
use mathlib.Core.List.{List}
use mathlib.Core.Path.{◌∙◌, ◌≡◌, ap, ap₂, refl, sym}
use Prim.Native.Nat.{◌+◌, ◌<◌, ◌≤◌, suc, zero, ℕ}
use native.Mathlib.Omega.{arith}
use lib.ListN.{get_or, length, length-set, replicate, set}
use lib.Seq.{get_or-set_other, get_or-set_same}
use Rattle.equations.specs.Downward.{downward-node, downward-source}
use Rattle.equations.specs.Equations.{at, downward, voltages, zero3}
use Rattle.equations.specs.Sizes.{Within3, close3-within, true-close3, within3-le, within3-more, within3-zero}
use Rattle.feeder.specs.Feeder.{Feeder, above}
use Rattle.feeder.specs.NetworkLaws.{get_or-blank}
use Rattle.feeder.specs.declared.Branch.{Branch}
use Rattle.feeder.specs.Phased.{Three}
use Rattle.integers.specs.Bools.{clash, same?}
use Rattle.integers.specs.PairLaws.{Close, close-true, true_same}
use Rattle.integers.specs.Pairs.{same}
use Rattle.passes.specs.Arrays.{branch-in, rank_most, to-source, voltage-in, voltage-next}
use Rattle.deviations.specs.Deviations.{Comparable, MarksAre, below_off_at, differ, off_at}
use Rattle.feeder.specs.declared.Network.{Network}
use Rattle.passes.specs.Passes.{InArrays, Ready}
use Rattle.passes.specs.Along.{Done, Turn, done_at, done_next, turn}
use Rattle.passes.specs.Lower.{below, sized-next}
use Rattle.radial.specs.Radial.{parent_in}

-- node j: its voltage follows from its parent's, where that is not marked, and its mark from the two
pub record Marked (branches : List Branch) (i reported : List Three) (tol : ℕ) (v : List Three) (off : List Bool) (j : ℕ) : Type 0 where
  pub follows : get_or off (parent_in branches j) false ≡ false → get_or v j zero3 ≡ below branches i j (get_or v (parent_in branches j) zero3)
  pub mark : get_or off j false ≡ cond (get_or off (parent_in branches j) false) true (differ tol (get_or v j zero3) (get_or reported j zero3))

-- the nodes at places 1 to k - 1 are done
pub record MarkedTo (branches : List Branch) (order : List ℕ) (source : Three) (i reported : List Three) (tol : ℕ) (v : List Three) (off : List Bool) (k : ℕ) : Type 0 where
  pub long : length v ≡ 201
  pub long-off : length off ≡ 201
  pub first : get_or v 0 zero3 ≡ source
  pub first-off : get_or off 0 false ≡ false
  pub done : Done order (Marked branches i reported tol v off) k
  pub each : (j : ℕ) → get_or off j false ≡ false → Within3 2100000 (get_or v j zero3)

-- no mark, and zero but for the source
pub marked-first : (branches : List Branch) (order : List ℕ) (source : Three) (i reported : List Three) (tol : ℕ) → Within3 2000000 source →
    MarkedTo branches order source i reported tol (set (replicate 201 zero3) 0 source) (replicate 201 false) 1
marked-first branches order source i reported tol h =
    record {
      long = refl;
      long-off = refl;
      first = refl;
      first-off = refl;
      done = λ q p l. absurd (omega arith);
      each = λ j e. within3-more (sized-next (replicate 201 zero3) 0 source (omega arith) h (λ k. rw (get_or-blank zero3 201 k) within3-zero) j) tt;
    }

differ-none : (tol : ℕ) (x : Three) → differ tol x x ≡ false
unfolding same
differ-none tol x = ap not (true-close3 tol x x (λ p. let h : Close 0 (at x p) (at x p) = close-true (true_same (at x p)) in record { re = omega (arith, h.re); im = omega (arith, h.im) }))

-- what is not marked is near what is reported
pub near_within : (tol : ℕ) (x y : Three) → tol ≤ 1000 → Within3 2000000 y → differ tol x y ≡ false → Within3 2100000 x
near_within tol x y l h e = within3-le (omega arith) (close3-within tol x y (yes _ e) h)
  where
    yes : (b : Bool) → not b ≡ false → b ≡ true
    yes true e = refl
    yes false e = clash true refl e

module _ {net : Network} (w : Ready net) (source : Three) (i reported : List Three) (tol : ℕ) where
  -- the node at place k: nothing else changes
  marked_next : (v : List Three) (off : List Bool) (k : ℕ) → 0 < k → k ≤ net.rows → MarkedTo net.branches net.order source i reported tol v off k →
      (v' : List Three) (off' : List Bool) → length v' ≡ 201 → length off' ≡ 201 →
      ((j : ℕ) → (j ≡ get_or net.order k 0 → ⊥) → get_or v' j zero3 ≡ get_or v j zero3) →
      ((j : ℕ) → (j ≡ get_or net.order k 0 → ⊥) → get_or off' j false ≡ get_or off j false) →
      Marked net.branches i reported tol v' off' (get_or net.order k 0) → (get_or off' (get_or net.order k 0) false ≡ false → Within3 2100000 (get_or v' (get_or net.order k 0) zero3)) →
      MarkedTo net.branches net.order source i reported tol v' off' (suc k)
  marked_next v off k p h g v' off' lv lo sv so here size =
      let m = get_or net.order k 0 in
      let n = turn w k p (omega arith) in
      record {
        long = lv;
        long-off = lo;
        first = sv 0 (λ z. omega (arith, n.below)) ∙ g.first;
        first-off = so 0 (λ z. omega (arith, n.below)) ∙ g.first-off;
        done =
            done_next w (Marked net.branches i reported tol v off) (Marked net.branches i reported tol v' off') k (omega arith)
            (λ j a b q.
            record {
              follows = λ e. sv j a ∙ q.follows (sym (so (parent_in net.branches j) b) ∙ e) ∙ sym (ap (below net.branches i j) (sv (parent_in net.branches j) b));
              mark = so j a ∙ q.mark ∙ sym (ap₂ (λ (t : Bool) (u : Three). cond t true (differ tol u (get_or reported j zero3))) (so (parent_in net.branches j) b) (sv j a));
            })
            here
            g.done;
        each = λ j e. same? j m (λ z. rw z (size (rw z at e))) (λ ne. rw (sv j ne) (g.each j (sym (so j ne) ∙ e)));
      }

  module _ (v : List Three) (off : List Bool) (k : ℕ) (low : 0 < k) (high : k ≤ net.rows) (g : MarkedTo net.branches net.order source i reported tol v off k) where
    abbrev m : ℕ
    m = get_or net.order k 0

    abbrev p : ℕ
    p = parent_in net.branches m

    n : Turn w k
    n = turn w k low (omega arith)

    -- below a node that is marked
    pub marked-below : get_or off p false ≡ true → MarkedTo net.branches net.order source i reported tol v (set off m true) (suc k)
    marked-below e =
        let there : get_or (set off m true) m false ≡ true = get_or-set_same off m true false (omega (arith, g.long-off, n.room)) in
        let over : get_or (set off m true) p false ≡ true = get_or-set_other off m p true false n.apart ∙ e in
        marked_next v off k low high g v (set off m true) g.long (length-set off m true ∙ g.long-off) (λ j ne. refl) (λ j ne. get_or-set_other off m j true false ne)
        (record {
          follows = λ z. clash (get_or (set off m true) p false) over z;
          mark = there ∙ sym (ap (λ (t : Bool). cond t true (differ tol (get_or v m zero3) (get_or reported m zero3))) over);
        })
        (λ z. clash (get_or (set off m true) m false) there z)

    -- below one that is not
    pub marked-worked : Comparable source reported tol → get_or off p false ≡ false → (y : Three) (b : Bool) → y ≡ below net.branches i m (get_or v p zero3) → b ≡ differ tol y (get_or reported m zero3) →
        MarkedTo net.branches net.order source i reported tol (set v m y) (set off m b) (suc k)
    marked-worked d e y b q r =
        let there : get_or (set off m b) m false ≡ b = get_or-set_same off m b false (omega (arith, g.long-off, n.room)) in
        let stands : get_or (set v m y) m zero3 ≡ y = get_or-set_same v m y zero3 (omega (arith, g.long, n.room)) in
        let over : get_or (set off m b) p false ≡ false = get_or-set_other off m p b false n.apart ∙ e in
        marked_next v off k low high g (set v m y) (set off m b) (length-set v m y ∙ g.long) (length-set off m b ∙ g.long-off)
        (λ j ne. get_or-set_other v m j y zero3 ne) (λ j ne. get_or-set_other off m j b false ne)
        (record {
          follows = λ z. stands ∙ q ∙ sym (ap (below net.branches i m) (get_or-set_other v m p y zero3 n.apart));
          mark = there ∙ r ∙ sym (ap₂ (λ (t : Bool) (x : Three). cond t true (differ tol x (get_or reported m zero3))) over stands);
        })
        (λ z. rw stands (near_within tol y (get_or reported m zero3) d.small (d.each m) (sym r ∙ sym there ∙ z)))

  module _ (f : Feeder) (a : InArrays f net) (e : source ≡ f.source) (same_first : get_or reported 0 zero3 ≡ source) where
    u : List Three
    u = voltages f i

    -- some node above is off, by the net.branches in the array
    above-off : ℕ → Bool
    above-off k = downward (λ m b. cond (off_at tol u reported (parent_in net.branches m)) true b) false (parent_in net.branches) net.rows k

    above-off-is : (k : ℕ) → above-off k ≡ below_off_at f tol u reported k
    unfolding above-off
    above-off-is k =
        λ t. downward (λ m b. cond (off_at tol u reported (branch-in f net w.linked.few a m t).from) true b) false
        (λ m. (branch-in f net w.linked.few a m t).from) (a.rows_are t) k

    above-off-next : (k : ℕ) → suc k < net.rows + 1 → let p = parent_in net.branches (suc k) in above-off (suc k) ≡ cond (off_at tol u reported p) true (above-off p)
    unfolding above-off
    above-off-next k h =
        downward-node _ false (parent_in net.branches) net.rows k (to-source w (suc k) h)

    source_is : get_or u 0 zero3 ≡ source
    unfolding u
    source_is = sym (voltage-in f net w.linked.few a source e i 0 (omega arith)) ∙ downward-source _ source (parent_in net.branches) net.rows

    module _ (v : List Three) (off : List Bool) (g : MarkedTo net.branches net.order source i reported tol v off (net.rows + 1)) where
      -- the mark of node j is 01's, and its voltage where it is not marked
      Right : ℕ → Type 0
      Right j = (get_or off j false ≡ cond (off_at tol u reported j) true (above-off j)) × (get_or off j false ≡ false → get_or v j zero3 ≡ get_or u j zero3)

      right-source : Right 0
      unfolding Right above-off
      right-source = (
        g.first-off ∙
            sym (ap₂ (λ (s t : Bool). cond s true t) (ap₂ (differ tol) source_is same_first ∙ differ-none tol source) (downward-source _ false (parent_in net.branches) net.rows)),
        λ z. g.first ∙ sym source_is,
      )

      marked-at : (k : ℕ) → suc k < net.rows + 1 → Marked net.branches i reported tol v off (suc k)
      marked-at k h =
          done_at w (Marked net.branches i reported tol v off) (net.rows + 1) (suc k) g.done (omega arith) (w.ranked (suc k) h)
          (rank_most w (suc k))

      -- below the parent's mark
      over : (k : ℕ) → suc k < net.rows + 1 → Right (parent_in net.branches (suc k)) → get_or off (parent_in net.branches (suc k)) false ≡ above-off (suc k)
      unfolding Right
      over k h r = r.0 ∙ sym (above-off-next k h)

      right-next : (k : ℕ) → suc k < net.rows + 1 → Right (parent_in net.branches (suc k)) → Right (suc k)
      unfolding Right u
      right-next k h r = go (get_or off (parent_in net.branches (suc k)) false) refl
        where
          always : (b : Bool) → cond b true true ≡ true
          always true = refl
          always false = refl

          only : (b : Bool) → cond b true false ≡ b
          only true = refl
          only false = refl

          go : (t : Bool) → get_or off (parent_in net.branches (suc k)) false ≡ t → Right (suc k)
          go true z =
              let m : get_or off (suc k) false ≡ true = (marked-at k h).mark ∙ ap (λ (t : Bool). cond t true (differ tol (get_or v (suc k) zero3) (get_or reported (suc k) zero3))) z in
              (m ∙ sym (ap (λ (t : Bool). cond (off_at tol u reported (suc k)) true t) (sym (over k h r) ∙ z) ∙ always (off_at tol u reported (suc k))), λ y. clash (get_or off (suc k) false) m y)
          go false z =
              let s : get_or v (suc k) zero3 ≡ get_or u (suc k) zero3 =
              (marked-at k h).follows z ∙ ap (below net.branches i (suc k)) (r.1 z) ∙ sym (voltage-next f net w.linked.few a w i k h) in (
                (marked-at k h).mark ∙ ap₂ (λ (t : Bool) (x : Three). cond t true (differ tol x (get_or reported (suc k) zero3))) z s ∙
                    sym (ap (λ (t : Bool). cond (off_at tol u reported (suc k)) true t) (sym (over k h r) ∙ z) ∙ only (off_at tol u reported (suc k))),
                λ y. s,
              )

      right : (n k : ℕ) → above (parent_in net.branches) n k ≡ 0 → k < net.rows + 1 → Right k
      unfolding above
      right zero zero z h = right-source
      right zero (suc k) z h = absurd (omega arith)
      right (suc n) zero z h = right-source
      right (suc n) (suc k) z h = right-next k h (right n (parent_in net.branches (suc k)) z (w.linked.from (suc k) h))

      right-at : (k : ℕ) → k < net.rows + 1 → Right k
      right-at k h = right net.rows k (to-source w k h) h

      pub marks-are : MarksAre f net.branches net.rows i reported tol off
      unfolding Right u
      marks-are =
          record {
            mark = λ k h. (right-at k h).0 ∙ ap (λ (t : Bool). cond (off_at tol u reported k) true t) (above-off-is k);
            parent-mark = parent-mark;
          }
        where
          parent-mark : (k : ℕ) → 0 < k → k < net.rows + 1 → get_or off (parent_in net.branches k) false ≡ below_off_at f tol u reported k
          parent-mark zero p h = absurd (omega arith)
          parent-mark (suc k) p h = over k h (right-at (parent_in net.branches (suc k)) (w.linked.from (suc k) h)) ∙ above-off-is (suc k)
