-- The order that lists the source alone, an order that grows by one node, a pass over the rows, and the end. Assumes nothing.
use mathlib.Core.List.{List, ◌∷◌}
use mathlib.Core.Path.{◌≡◌, refl, sym, ap, ◌∙◌}
use native.Mathlib.Numerals.{add-one}
use native.Mathlib.Omega.{arith}
use Prim.Native.Nat.{◌+◌, ◌<◌, ◌≤◌, suc, zero, ℕ}
use borrow.Author.Count.{below_more}
use lib.ListN.{get_or, length, length-replicate, length-set, replicate, set, take}
use lib.Seq.{get_or-set_other, get_or-set_same}
use Rattle.feeder.specs.NetworkLaws.{get_or-blank}
use Rattle.feeder.specs.declared.Branch.{Branch}
use Rattle.radial.specs.Counting.{all-but-source, one_fewer}
use Rattle.radial.specs.Radial.{Closed, InOrder, Linked, Ordered, Placed, Stepped, made, parent_in, unplaced}
use Rattle.radial.specs.declared.Order.{Order}
use Rattle.radial.specs.Reach.{rank-short}
use Rattle.integers.specs.Bools.{same?}

-- the source alone
alone : (nodes : ℕ) (par : ℕ → ℕ) (n : ℕ) → 0 < nodes → nodes ≤ suc n → Ordered nodes par (replicate (suc n) 0) (set (replicate (suc n) 0) 0 1) 1
alone nodes par n p h =
    record {
      size = let z = length-replicate {A = ℕ} n 0 in omega arith;
      source = refl;
      top = top;
      back = back;
      parent = parent;
    }
  where
    top : (k : ℕ) → k < 1 → (get_or (replicate (suc n) 0) k 0 < nodes) × (get_or (1 ∷ replicate n 0) (get_or (replicate (suc n) 0) k 0) 0 ≡ suc k)
    top zero l = (p, refl)
    top (suc k) l = omega arith

    back : (i k : ℕ) → get_or (1 ∷ replicate n 0) i 0 ≡ suc k → (k < 1) × (get_or (replicate (suc n) 0) k 0 ≡ i)
    back zero zero e = (omega arith, refl)
    back zero (suc k) e = omega arith
    back (suc i) k e = let z = get_or-blank {X = ℕ} 0 n i in omega arith

    parent : (i : ℕ) → 0 < i → 0 < get_or (1 ∷ replicate n 0) i 0 →
        (0 < get_or (1 ∷ replicate n 0) (par i) 0) × (get_or (1 ∷ replicate n 0) (par i) 0 < get_or (1 ∷ replicate n 0) i 0)
    parent zero q l = omega arith
    parent (suc i) q l = let z = get_or-blank {X = ℕ} 0 n i in omega arith

pub start : {bs : List Branch} {rows : ℕ} → Linked bs rows → Placed bs rows (made 1 (replicate 201 0) (set (replicate 201 0) 0 1))
start {bs} {rows} l =
    record {
      linked = l;
      ordered = alone (rows + 1) (parent_in bs) 200 (omega arith) (omega (arith, l.few));
      counted = all-but-source rows 200 l.few;
      order-size = refl;
      rank-size = refl;
    }

-- a node that has no place, and whose parent has one, gets the next
module _ (rows : ℕ) (par : ℕ → ℕ) (order rank : List ℕ) (k i : ℕ) (o : Ordered (rows + 1) par order rank k) (hp : 0 < i) (hi : i < rows + 1)
    (free : get_or rank i 0 ≡ 0) (up : 0 < get_or rank (par i) 0) (room : k < length order) where
  not-i : (j : ℕ) → 0 < get_or rank j 0 → j ≡ i → ⊥
  not-i j h e = let z : get_or rank j 0 ≡ 0 = ap (λ (n : ℕ). get_or rank n 0) e ∙ free in omega arith

  at_i : get_or (set rank i (suc k)) i 0 ≡ suc k
  at_i = get_or-set_same rank i (suc k) 0 (let s = o.size in omega arith)

  off-i : (j : ℕ) → (j ≡ i → ⊥) → get_or (set rank i (suc k)) j 0 ≡ get_or rank j 0
  off-i j ne = get_or-set_other rank i j (suc k) 0 ne

  grown : Ordered (rows + 1) par (set order k i) (set rank i (suc k)) (suc k)
  grown =
      record {
        size = simp length-set o.size;
        source = off-i 0 (λ e. omega arith) ∙ o.source;
        top = λ j h.
            same? j k
            (λ e. let a : get_or (set order k i) j 0 ≡ i = rw e (get_or-set_same order k i 0 room) in
            (rw a hi, rw a (at_i ∙ ap suc (sym e))))
            (λ ne. let a : get_or (set order k i) j 0 ≡ get_or order j 0 = get_or-set_other order k j i 0 ne in
            let t = o.top j (omega arith) in
            (rw a t.0, rw a (off-i (get_or order j 0) (not-i (get_or order j 0) (omega arith)) ∙ t.1)));
        back = λ j n e.
            same? j i
            (λ q. let z : suc k ≡ suc n = sym at_i ∙ ap (λ (x : ℕ). get_or (set rank i (suc k)) x 0) (sym q) ∙ e in
            let y : n ≡ k = omega arith in
            (omega arith, rw y (get_or-set_same order k i 0 room ∙ sym q)))
            (λ ne. let t = o.back j n (sym (off-i j ne) ∙ e) in
            (omega arith, get_or-set_other order k n i 0 (λ q. omega arith) ∙ t.1));
        parent = λ j p h.
            same? j i
            (λ q. let m = rank-short rows par order rank k o (par i) in
            rw q (rw (at_i, off-i (par i) (not-i (par i) up)) (up, omega arith)))
            (λ ne. let t = o.parent j p (rw (off-i j ne) at h) in
            rw (off-i j ne, off-i (par j) (not-i (par j) t.0)) t);
      }

module _ (bs : List Branch) (rows : ℕ) (o : Order) (i : ℕ) (p : Placed bs rows o) (hi : i < rows + 1) (free : get_or o.rank i 0 ≡ 0) where
  fewer : suc (unplaced (take (rows + 1) (set o.rank i (suc o.len)))) ≡ unplaced (take (rows + 1) o.rank)
  fewer = one_fewer (rows + 1) o.rank i o.len hi p.ordered.size free

  -- there is room for it
  pub room : o.len < rows + 1
  room = omega (arith, fewer, p.counted)

  -- it is not the source, which has a place
  not-source : 0 < i
  not-source = go i free
    where
      go : (j : ℕ) → get_or o.rank j 0 ≡ 0 → 0 < j
      go zero e = let s = p.ordered.source in omega arith
      go (suc j) e = omega arith

  place : 0 < get_or o.rank (parent_in bs i) 0 → Placed bs rows (made (o.len + 1) (set o.order o.len i) (set o.rank i (o.len + 1)))
  place up =
      rw add-one
      (record {
        linked = p.linked;
        ordered = grown rows (parent_in bs) o.order o.rank o.len i p.ordered not-source hi free up (omega (arith, room, p.linked.few, p.order-size));
        counted = omega (arith, fewer, p.counted);
        order-size = length-set o.order o.len i ∙ p.order-size;
        rank-size = length-set o.rank i (suc o.len) ∙ p.rank-size;
      })

  pub step-placed : (get_or o.rank (parent_in bs i) 0 ≡ 0 → ⊥) →
      Stepped bs rows i o (made (o.len + 1) (set o.order o.len i) (set o.rank i (o.len + 1)))
  step-placed up =
      record { placed = place (omega arith); more = omega arith; kept = λ e. absurd (omega arith); closed = λ e. absurd (omega arith) }

-- a node that has a place, or whose parent has none, is left
pub step_left : (bs : List Branch) (rows : ℕ) (o : Order) (i : ℕ) → Placed bs rows o → (get_or o.rank i 0 ≡ 0 → get_or o.rank (parent_in bs i) 0 ≡ 0) → Stepped bs rows i o o
step_left bs rows o i p none = record { placed = p; more = omega arith; kept = λ e. refl; closed = λ e. none }

-- a pass that began with `len` nodes and is at row i: while it has placed none, no row passed was to be placed
pub record Upto (bs : List Branch) (rows len i : ℕ) (o : Order) : Type 0 where
  pub placed : Placed bs rows o
  pub more : len ≤ o.len
  pub closed : o.len ≡ len → (k : ℕ) → k < i → 0 < k → get_or o.rank k 0 ≡ 0 → get_or o.rank (parent_in bs k) 0 ≡ 0

pub row-passed : (bs : List Branch) (rows len i : ℕ) (o r : Order) → Upto bs rows len i o → Stepped bs rows i o r → Upto bs rows len (i + 1) r
row-passed bs rows len i o r u s =
    record {
      placed = s.placed;
      more = omega (arith, u.more, s.more);
      closed = λ e.
          let same : r.len ≡ o.len = omega (arith, u.more, s.more) in
          rw (s.kept same) (below_more _ _ (u.closed (omega arith)) (λ p. s.closed same));
    }

-- where all are placed, none is to be placed
pub full : {bs : List Branch} {rows : ℕ} {o : Order} → Placed bs rows o → rows < o.len → Closed (rows + 1) (parent_in bs) o.rank
full {bs} {rows} {o} p h i l q z = absurd (omega (arith, room bs rows o i p l z))

pub finished : {bs : List Branch} {rows : ℕ} {o : Order} → Placed bs rows o → Closed (rows + 1) (parent_in bs) o.rank → InOrder bs rows o
finished p c = record { placed = p; closed = c; short = omega (arith, p.counted) }
