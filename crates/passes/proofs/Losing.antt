-- Losses from the last row to the first: those passed, and their sum. Assumes nothing.
use mathlib.Core.List.{◌∷◌, List, map}
use mathlib.Core.Path.{◌∙◌, ◌≡◌, ap, ap₂, refl, sym}
use Prim.Native.Nat.{◌*◌, ◌+◌, ◌-◌, ◌<◌, ◌≤◌, suc, zero, ℕ}
use native.Mathlib.Omega.{arith}
use lib.ListN.{get_or, length, length-map, length-set, replicate, set}
use lib.Seq.{get_or-set_other, get_or-set_same}
use Rattle.equations.specs.Equations.{drop_of, loss_of, lost_power, power, zero3}
use Rattle.equations.specs.Sizes.{within-zero}
use Rattle.feeder.specs.Feeder.{Feeder, no_branch, row_count, rows_of}
use Rattle.feeder.specs.NetworkLaws.{get_or-blank}
use Rattle.feeder.specs.declared.Branch.{Branch}
use Rattle.feeder.specs.declared.Network.{Network}
use Rattle.feeder.specs.Phased.{Three}
use Rattle.integers.specs.ListLaws.{get_or_map, get_or-tab, length-tab}
use Rattle.integers.specs.Lists.{count, csum, tab}
use Rattle.integers.specs.PairLaws.{Within, within-add, within-le}
use Rattle.integers.specs.Pairs.{◌+c◌, 0c}
use Rattle.integers.specs.declared.Pair.{Pair}
use Rattle.passes.specs.Arrays.{branch-in, keeps}
use Rattle.passes.specs.Passes.{InArrays, LossesAre, SmallLosses}
use Rattle.integers.specs.Bools.{same?}

-- the loss of row k
abbrev pub loss_in : List Branch → List Three → ℕ → Pair
loss_in branches i k = power (drop_of (get_or branches k no_branch).device (get_or i k zero3)) (get_or i k zero3)

-- the net.rows behind k are done
pub record Lost (net : Network) (i : List Three) (each : List Pair) (sum : Pair) (k : ℕ) : Type 0 where
  pub long : length each ≡ 201
  pub there : (j : ℕ) → k < j → j ≤ net.rows → get_or each j 0c ≡ loss_in net.branches i j
  pub before : (j : ℕ) → j ≤ k → get_or each j 0c ≡ 0c
  pub behind : (j : ℕ) → net.rows < j → get_or each j 0c ≡ 0c
  pub small : (j : ℕ) → Within 1440000000000000 (get_or each j 0c)
  pub sum_is : sum ≡ csum (loss_in net.branches i) (tab (λ (b : ℕ). b) (k + 1) (net.rows - k))
  pub sum-small : Within ((net.rows - k) * 1440000000000000) sum

pub lost-none : (net : Network) (i : List Three) → Lost net i (replicate 201 0c) 0c net.rows
unfolding csum tab
lost-none net i =
    let z : net.rows - net.rows ≡ 0 = omega arith in
    record {
      long = refl;
      there = λ j p q. absurd (omega arith);
      before = λ j p. get_or-blank 0c 201 j;
      behind = λ j p. get_or-blank 0c 201 j;
      small = λ j. rw (get_or-blank 0c 201 j) within-zero;
      sum_is = rw z;
      sum-small = within-zero;
    }

module _ (net : Network) (i : List Three) (each : List Pair) (sum : Pair) (k : ℕ) (few : net.rows ≤ 200) (l : Lost net i each sum k) where
  -- one row more
  pub lost-next : 0 < k → k ≤ net.rows → (e s : Pair) → e ≡ loss_in net.branches i k → Within 1440000000000000 e → s ≡ e +c sum → Lost net i (set each k e) s (k - 1)
  unfolding csum tab
  lost-next p q e s d w h =
      let other : (j : ℕ) → (j ≡ k → ⊥) → get_or (set each k e) j 0c ≡ get_or each j 0c = λ j ne. get_or-set_other each k j e 0c ne in
      let same = get_or-set_same each k e 0c (omega (arith, l.long)) in
      let back : (k - 1) + 1 ≡ k = omega arith in
      let more : net.rows - (k - 1) ≡ suc (net.rows - k) = omega arith in
      record {
        long = length-set each k e ∙ l.long;
        there = λ j a b. same? j k (λ z. rw z (same ∙ d)) (λ ne. other j ne ∙ l.there j (omega arith) b);
        before = λ j a. other j (λ z. omega arith) ∙ l.before j (omega arith);
        behind = λ j a. other j (λ z. omega arith) ∙ l.behind j a;
        small = λ j. same? j k (λ z. rw (z, same) w) (λ ne. rw (other j ne) (l.small j));
        sum_is = h ∙ rw (back, more) (ap₂ ◌+c◌ d l.sum_is);
        sum-small = rw h (let x = within-add w l.sum-small in record { re = omega (arith, x.re); im = omega (arith, x.im) });
      }

  -- all net.rows
  module _ (f : Feeder) (a : InArrays f net) (done : k ≡ 0) where
    loss-is : (j : ℕ) → loss_in net.branches i j ≡ loss_of f i j
    unfolding loss_of
    loss-is j = λ t. power (drop_of (branch-in f net few a j t).device (get_or i j zero3)) (get_or i j zero3)

    row-loss : (j : ℕ) → j ≤ net.rows → get_or each j 0c ≡ get_or (0c ∷ map (loss_of f i) (rows_of f)) j 0c
    unfolding count
    row-loss zero h = l.before 0 (omega arith)
    row-loss (suc j) h =
        let n = length-tab (λ (b : ℕ). b) 1 (row_count f) in
        l.there (suc j) (omega arith) h ∙ loss-is (suc j) ∙
        sym (get_or_map (loss_of f i) (count 1 (row_count f)) j 0 0c (omega (arith, n, a.rows_are)) ∙
        ap (loss_of f i) (get_or-tab (λ (b : ℕ). b) 1 (row_count f) j 0 (omega (arith, a.rows_are)) ∙ (let z : 1 + j ≡ suc j = omega arith in z)))

    pub lost-all : LossesAre f i each sum
    unfolding lost_power count
    lost-all =
        let n : length (0c ∷ map (loss_of f i) (rows_of f)) ≡ net.rows + 1 = omega (arith, length-map (rows_of f) (loss_of f i), length-tab (λ (b : ℕ). b) 1 (row_count f), a.rows_are) in
        let one : k + 1 ≡ 1 = omega arith in
        let z : net.rows - k ≡ row_count f = omega (arith, a.rows_are) in
        record {
          each-is = keeps 0c 201 each (0c ∷ map (loss_of f i) (rows_of f)) l.long (omega (arith, n)) (λ j q. row-loss j (omega (arith, n))) (λ j q. l.behind j (omega (arith, n)));
          sum_is = l.sum_is ∙ ap₂ (λ (b n : ℕ). csum (loss_in net.branches i) (tab (λ (b : ℕ). b) b n)) one z ∙ (λ t. csum (λ j. loss-is j t) (tab (λ (b : ℕ). b) 1 (row_count f)));
        }

  pub lost-small : SmallLosses each sum
  lost-small = record { long = l.long; each-small = l.small; sum-small = within-le (omega arith) l.sum-small }
