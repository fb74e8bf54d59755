-- The first line with a fault, where the fault is a test of the row's number, and refusal 22 by the order of work. Assumes nothing.
use Rattle.std.specs.Prelude.{Bool, false, true, ◌≡◌, refl, ◌+◌, ◌<◌, ◌≤◌, suc, zero, ℕ, get_or, length, Some, None}
use mathlib.Core.List.{List, [], ◌∷◌}
use Rattle.std.proofs.Common.{◌∙◌, ap, arith, eq-eqb, ne_eqb}
use Rattle.std.proofs.Math.Decide.{ℕ_discrete}
use Rattle.std.proofs.lemmas.List.{length-map}
use Rattle.feeder.specs.Feeder.{above, branch_of, feeder_of, first_row, nodes_of, not_reached, parent}
use Rattle.feeder.specs.Layout.{Rows}
use Rattle.feeder.specs.RowLaws.{none-bad, none_found}
use Rattle.feeder.specs.declared.Branch.{Branch}
use Rattle.integers.specs.Lists.{count, tab}
use Rattle.radial.specs.Counting.{all-ranked}
use Rattle.radial.specs.Radial.{InOrder, Whole, first_lost, lost, parent_in}
use Rattle.radial.specs.declared.Order.{Order}
use Rattle.radial.specs.Reach.{not-reached, reached}

-- such a search depends on the list's length only
pub first-same : {X Y : Type 0} (p q : ℕ → Bool) (before k : ℕ) (l : List X) (m : List Y) → ((j : ℕ) → p j ≡ q j) → length l ≡ length m →
    first_row (λ j x. p j) before k l ≡ first_row (λ j y. q j) before k m
unfolding first_row
first-same p q before k [] [] e h = refl
first-same p q before k [] (y ∷ m) e h = absurd (omega arith)
first-same p q before k (x ∷ l) [] e h = absurd (omega arith)
first-same p q before k (x ∷ l) (y ∷ m) e h = rw (e k, first-same p q before (k + 1) l m e (omega arith))

module _ {X : Type 0} (bad : ℕ → Bool) (before : ℕ) where
  -- the first row that has the fault
  pub first-at : (k i : ℕ) (l : List X) → k ≤ i → i < k + length l → ((j : ℕ) → k ≤ j → j < i → bad j ≡ false) → bad i ≡ true →
      first_row (λ j x. bad j) before k l ≡ Some (before + i)
  unfolding first_row
  first-at k i [] a b none here = absurd (omega arith)
  first-at k i (x ∷ l) a b none here =
      elim (ℕ_discrete k i) [
        | yes e ↦ rw (e, here)
        | no n ↦
            rw (none k (omega arith) (omega arith))
            (first-at (k + 1) i l (omega arith) (omega arith) (λ j p q. none j (omega arith) q) here)
      ]

count-size : (k n : ℕ) → length (count k n) ≡ n
unfolding count tab
count-size k zero = refl
count-size k (suc n) = ap suc (count-size (k + 1) n)

above_same : (p q : ℕ → ℕ) → ((k : ℕ) → p k ≡ q k) → (n i : ℕ) → above p n i ≡ above q n i
unfolding above
above_same p q e zero i = refl
above_same p q e (suc n) zero = refl
above_same p q e (suc n) (suc i) = rw (e (suc i)) (above_same p q e n (q (suc i)))

-- refusal 22 of a file whose branches these are
pub lost-is-not-reached : (r : Rows) (bs : List Branch) (rows : ℕ) → ((k : ℕ) → parent_in bs k ≡ parent (feeder_of r) k) → rows ≡ length r.branches →
    first_lost bs rows ≡ not_reached r
unfolding not_reached feeder_of
lost-is-not-reached r bs rows e h =
    let n = length-map r.branches (branch_of (nodes_of r)) in
    first-same (lost bs rows) _ 4 1 (count 1 rows) r.branches (λ j. rw (n, ← h, above_same (parent_in bs) (parent (feeder_of r)) e rows j)) (count-size 1 rows ∙ h)

module _ (bs : List Branch) (rows : ℕ) (o : Order) (w : InOrder bs rows o) where
  -- the fault by the rank
  pub ranked-not-lost : (i : ℕ) → 0 < get_or o.rank i 0 → lost bs rows i ≡ false
  ranked-not-lost i h = rw (eq-eqb _ 0 (reached rows (parent_in bs) _ _ _ w.placed.ordered w.short i h))

  pub unranked-lost : (i : ℕ) → i < rows + 1 → get_or o.rank i 0 ≡ 0 → lost bs rows i ≡ true
  unranked-lost i h e = rw (ne_eqb _ 0 (not-reached rows (parent_in bs) _ _ _ w.placed.ordered w.placed.linked.from w.closed rows i h e))

  some : (i : ℕ) → i < rows + 1 → lost bs rows i ≡ false → 0 < get_or o.rank i 0
  some i h e =
      elim (ℕ_discrete (get_or o.rank i 0) 0) [
        | yes z ↦ let t = unranked-lost i h z in let y : ◌≡◌ {A = ℕ} 0 1 = cc in omega arith
        | no n ↦ omega arith
      ]

  -- the first row without a rank, or none
  pub first-unranked : (i : ℕ) → 0 < i → i < rows + 1 → ((j : ℕ) → j < i → 0 < j → 0 < get_or o.rank j 0) → get_or o.rank i 0 ≡ 0 →
      first_lost bs rows ≡ Some (4 + i)
  first-unranked i a b before here =
      first-at (lost bs rows) 4 1 i (count 1 rows) a (rw count-size (omega arith)) (λ j p q. ranked-not-lost j (before j q p)) (unranked-lost i b here)

  pub none-unranked : ((j : ℕ) → j < rows + 1 → 0 < j → 0 < get_or o.rank j 0) → first_lost bs rows ≡ None
  none-unranked all =
      none_found (λ j x. lost bs rows j) 4 1 (count 1 rows) (λ i d q. ranked-not-lost (1 + i) (all (1 + i) (let z = rw count-size at q in omega arith) (omega arith)))

  -- where no row has the fault, every node has a place
  pub all_placed : first_lost bs rows ≡ None → Whole rows o
  all_placed e =
      record {
        ranked = every;
        full = let z = all-ranked (rows + 1) o.rank w.placed.ordered.size every in omega (arith, w.placed.counted);
      }
    where
      every : (i : ℕ) → i < rows + 1 → 0 < get_or o.rank i 0
      every zero h = let s = w.placed.ordered.source in omega arith
      every (suc i) h =
          let z : 1 + i ≡ suc i = omega arith in
          some (suc i) h (rw z at (none-bad (λ j x. lost bs rows j) 4 1 (count 1 rows) 0 e i (rw count-size (omega arith))))
