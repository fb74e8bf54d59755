-- Along the order, from the source downward: what holds of the nodes that are done, and what they hold then. Assumes nothing.
use Rattle.std.specs.Prelude.{List, ◌≡◌, refl, get_or}
use Rattle.std.proofs.Common.{◌∙◌, sym, arith}
use Rattle.std.proofs.Math.Path.{ap}
use Prim.Native.Nat.{◌+◌, ◌<◌, ◌≤◌, suc, zero, ℕ}
use Rattle.equations.specs.Equations.{downward}
use Rattle.feeder.specs.Feeder.{above}
use Rattle.feeder.specs.declared.Network.{Network}
use Rattle.passes.specs.Passes.{Ready}
use Rattle.radial.specs.Radial.{parent_in}
use Rattle.integers.specs.Bools.{same?}

-- P of the nodes at places 1 to k - 1 of the order; the source is at 0
abbrev pub Done : List ℕ → (ℕ → Type 0) → ℕ → Type 0
Done order P k = (q : ℕ) → 0 < q → q < k → P (get_or order q 0)

module _ {net : Network} (w : Ready net) where
  -- the turn at place k of the net.order, which is not the first: its node is not the source, and the node's parent comes before it
  pub record Turn (k : ℕ) : Type 0 where
    pub below : 0 < get_or net.order k 0
    pub known : get_or net.order k 0 < net.rows + 1
    pub room : get_or net.order k 0 < 201
    pub rank_is : get_or net.rank (get_or net.order k 0) 0 ≡ suc k
    pub parent-known : parent_in net.branches (get_or net.order k 0) < net.rows + 1
    pub parent-room : parent_in net.branches (get_or net.order k 0) < 201
    pub parent-before : get_or net.rank (parent_in net.branches (get_or net.order k 0)) 0 ≤ k
    pub apart : parent_in net.branches (get_or net.order k 0) ≡ get_or net.order k 0 → ⊥

  pub turn : (k : ℕ) → 0 < k → k ≤ net.rows → Turn k
  turn k p h =
      let o = w.ordered in
      let m = get_or net.order k 0 in
      let t = o.top k (omega arith) in
      let q : 0 < m =
      same? m 0
      (λ e. let z : suc k ≡ 1 = sym t.1 ∙ ap (λ (n : ℕ). get_or net.rank n 0) e ∙ o.source in absurd (omega arith))
      (λ ne. omega arith) in
      let u = o.parent m q (omega arith) in
      let f = w.linked.from m t.0 in
      record {
        below = q;
        known = t.0;
        room = omega (arith, w.linked.few);
        rank_is = t.1;
        parent-known = f;
        parent-room = omega (arith, w.linked.few);
        parent-before = omega arith;
        apart = λ e. let z : get_or net.rank (parent_in net.branches m) 0 ≡ get_or net.rank m 0 = ap (λ (n : ℕ). get_or net.rank n 0) e in omega arith;
      }

  -- a node of net.rank at most k is at one of the places before k
  pub done_at : (P : ℕ → Type 0) (k j : ℕ) → Done net.order P k → 0 < j → 0 < get_or net.rank j 0 → get_or net.rank j 0 ≤ k → P j
  done_at P k j d p a b = go (get_or net.rank j 0) refl
    where
      source : (j : ℕ) → get_or net.rank j 0 ≡ 1 → j ≡ 0
      source j e = sym (w.ordered.back j 0 e).1 ∙ (w.ordered.back 0 0 w.ordered.source).1

      go : (n : ℕ) → get_or net.rank j 0 ≡ n → P j
      go zero e = absurd (omega arith)
      go (suc zero) e = let z = source j e in absurd (omega arith)
      go (suc (suc q)) e = rw (w.ordered.back j (suc q) e).1 at (d (suc q) (omega arith) (omega arith))

  -- one node more: P of those before becomes Q, where it does not depend on that node
  pub done_next : (P Q : ℕ → Type 0) (k : ℕ) → k ≤ net.rows → ((j : ℕ) → (j ≡ get_or net.order k 0 → ⊥) → (parent_in net.branches j ≡ get_or net.order k 0 → ⊥) → P j → Q j) →
      Q (get_or net.order k 0) → Done net.order P k → Done net.order Q (suc k)
  done_next P Q k h keep here before q p b =
      same? q k
      (λ e. rw e here)
      (λ ne.
      let t = w.ordered.top k (omega arith) in
      let s = turn q p (omega arith) in
      let other : (j : ℕ) → get_or net.rank j 0 ≤ suc q → j ≡ get_or net.order k 0 → ⊥ = λ j l e. let z : get_or net.rank j 0 ≡ suc k = ap (λ (n : ℕ). get_or net.rank n 0) e ∙ t.1 in omega arith in
      keep (get_or net.order q 0) (other (get_or net.order q 0) (omega (arith, s.rank_is))) (other (parent_in net.branches (get_or net.order q 0)) (omega (arith, s.parent-before))) (before q p (omega arith)))

  -- values that start at the source and follow step by step are those worked downward
  pub worked : {X : Type 0} (step : ℕ → X → X) (first : X) (v : ℕ → X) (k : ℕ) → v 0 ≡ first → Done net.order (λ j. v j ≡ step j (v (parent_in net.branches j))) k →
      (n j : ℕ) → above (parent_in net.branches) n j ≡ 0 → 0 < get_or net.rank j 0 → get_or net.rank j 0 ≤ k → v j ≡ downward step first (parent_in net.branches) n j
  unfolding above downward
  worked step first v k e d zero zero a p q = e
  worked step first v k e d zero (suc j) a p q = absurd (omega arith)
  worked step first v k e d (suc n) zero a p q = e
  worked step first v k e d (suc n) (suc j) a p q =
      let u = w.ordered.parent (suc j) (omega arith) p in
      done_at (λ j. v j ≡ step j (v (parent_in net.branches j))) k (suc j) d (omega arith) p q ∙ ap (step (suc j)) (worked step first v k e d n (parent_in net.branches (suc j)) a u.0 (omega arith))
