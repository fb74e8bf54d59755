-- Currents on the way up: each node holds its own and what the nodes below it that are done take, so once those below it are done it holds 01's. Assumes nothing.
use mathlib.Core.Bool.{◌&&◌, Bool, cond, false, true}
use mathlib.Core.List.{List}
use mathlib.Core.Path.{◌∙◌, ◌≡◌, ap, ap₂, refl, sym}
use Prim.Native.Nat.{◌+◌, ◌<◌, ◌≤◌, suc, zero, ℕ}
use native.Mathlib.Decide.{dec_lt}
use native.Mathlib.Omega.{arith}
use lib.Dec.{eqb, ltb}
use lib.ListN.{get_or, length, set}
use lib.Seq.{get_or-set_other, get_or-set_same}
use borrow.Author.Tests.{eq-eqb, eqb-true, le-ltb, lt-ltb, ne_eqb}
use Rattle.equations.specs.Equations.{near_current, plus3, sum3, upward, zero3}
use Rattle.equations.specs.ThreeLaws.{plus3-assoc, plus3-comm, plus3-idl, plus3-idr}
use Rattle.equations.specs.ThreeLaws.{sum3-cong, sum3-zero}
use Rattle.equations.specs.Upward.{kirchhoff}
use Rattle.feeder.specs.Feeder.{Feeder, branch_at, no_branch, parent, row_count}
use Rattle.feeder.specs.declared.Branch.{Branch}
use Rattle.feeder.specs.Phased.{Three}
use Rattle.integers.specs.ListLaws.{all-count}
use Rattle.integers.specs.Lists.{count, tab}
use Rattle.passes.specs.Arrays.{branch-in, rank_most, reached-in}
use Rattle.feeder.specs.declared.Network.{Network}
use Rattle.passes.specs.Passes.{InArrays, Ready}
use Rattle.passes.specs.Along.{Turn, turn}
use Rattle.radial.specs.Radial.{parent_in}
use Rattle.integers.specs.Bools.{same?}

-- ---- a sum over rows, with one row more
sum_same : (l : List ℕ) {f g : ℕ → Three} → ((c : ℕ) → f c ≡ g c) → sum3 f l ≡ sum3 g l
sum_same l h = λ t. sum3 (λ c. h c t) l

-- from f to g only row i changes, which had nothing
pub one_more : (f g : ℕ → Three) (i n : ℕ) → 0 < i → i < suc n → f i ≡ zero3 → ((c : ℕ) → (c ≡ i → ⊥) → f c ≡ g c) →
    sum3 g (count 1 n) ≡ plus3 (sum3 f (count 1 n)) (g i)
unfolding count sum3 tab
one_more f g i n p q none same = go 1 n (omega arith) (omega arith)
  where
    rest : (a m : ℕ) → i < a → sum3 f (tab (λ c. c) a m) ≡ sum3 g (tab (λ c. c) a m)
    rest a zero l = refl
    rest a (suc m) l = ap₂ plus3 (same a (λ e. omega arith)) (rest (a + 1) m (omega arith))

    go : (a m : ℕ) → a ≤ i → i < a + m → sum3 g (tab (λ c. c) a m) ≡ plus3 (sum3 f (tab (λ c. c) a m)) (g i)
    go a zero l h = absurd (omega arith)
    go a (suc m) l h =
        same? a i
        (λ e.
        let s = sum3 f (tab (λ c. c) (a + 1) m) in
        ap₂ plus3 (ap g e) (sym (rest (a + 1) m (omega arith))) ∙ plus3-comm (g i) s ∙
        ap (λ (x : Three). plus3 x (g i)) (sym (ap (λ (x : Three). plus3 x s) (ap f e ∙ none) ∙ plus3-idl s)))
        (λ ne. ap₂ plus3 (sym (same a ne)) (go (a + 1) m (omega arith) (omega arith)) ∙ sym (plus3-assoc _ _ _))

-- ---- two tests, of which one may not hold
left-off : (b d e : Bool) (x y : Three) → b ≡ false → cond (b && d) x zero3 ≡ cond (b && e) y zero3
left-off b d e x y h = rw h

-- ---- the invariant
-- J of the branch of row b, from what stands at its node
abbrev pub taken : List Branch → List Three → ℕ → Three
taken branches x b = near_current (get_or branches b no_branch) (get_or x b zero3)

-- what node j has of row b, where the rows of rank above k are done
abbrev pub given : List Branch → List ℕ → List Three → ℕ → ℕ → ℕ → Three
given branches rank x k j b = cond (eqb (parent_in branches b) j && ltb k (get_or rank b 0)) (taken branches x b) zero3

-- nothing of a row that is not done
not-given : (branches : List Branch) (rank : List ℕ) (x : List Three) (k j b : ℕ) → get_or rank b 0 ≤ k → given branches rank x k j b ≡ zero3
not-given branches rank x k j b h = rw (le-ltb k (get_or rank b 0) h) (go (eqb (parent_in branches b) j))
  where
    go : (t : Bool) → cond (t && false) (taken branches x b) zero3 ≡ zero3
    go true = refl
    go false = refl

-- each node holds its own and what it has of the rows
abbrev pub Holds : List Branch → ℕ → List ℕ → List Three → List Three → ℕ → Type 0
Holds branches rows rank own x k = (j : ℕ) → j < rows + 1 → get_or x j zero3 ≡ plus3 (get_or own j zero3) (sum3 (given branches rank x k j) (count 1 rows))

module _ {net : Network} (w : Ready net) (own : List Three) where
  -- no row is done
  pub holds-own : Holds net.branches net.rows net.rank own own (net.rows + 1)
  holds-own j q =
      sym (ap (plus3 (get_or own j zero3))
      (sum_same (count 1 net.rows) (λ c. not-given net.branches net.rank own (net.rows + 1) j c (rank_most w c)) ∙
      sum3-zero (count 1 net.rows)) ∙ plus3-idr (get_or own j zero3))

  -- the row of the node at place k is done
  module _ (x : List Three) (k : ℕ) (low : 0 < k) (high : k ≤ net.rows) where
    abbrev m : ℕ
    m = get_or net.order k 0

    abbrev p : ℕ
    p = parent_in net.branches m

    n : Turn w k
    n = turn w k low (omega arith)

    test-same : (c : ℕ) → (c ≡ m → ⊥) → ltb (suc k) (get_or net.rank c 0) ≡ ltb k (get_or net.rank c 0)
    test-same c ne =
        elim (dec_lt k (get_or net.rank c 0)) [
          | yes l ↦
              let r : suc k < get_or net.rank c 0 = same? (get_or net.rank c 0) (suc k) (λ e. absurd (ne (sym (w.ordered.back c k e).1))) (λ z. omega arith) in
              lt-ltb (suc k) (get_or net.rank c 0) r ∙ sym (lt-ltb k (get_or net.rank c 0) l)
          | no l ↦ le-ltb (suc k) (get_or net.rank c 0) (omega arith) ∙ sym (le-ltb k (get_or net.rank c 0) (omega arith))
        ]

    -- another row's part is as before: at the parent of m, which changes, no row is done
    part_same : (y : Three) (j c : ℕ) → (c ≡ m → ⊥) → given net.branches net.rank x (suc k) j c ≡ given net.branches net.rank (set x p y) k j c
    part_same y j c ne =
        same? c p
        (λ e.
        let r : get_or net.rank c 0 ≤ k = rw e n.parent-before in
        not-given net.branches net.rank x (suc k) j c (omega arith) ∙ sym (not-given net.branches net.rank (set x p y) k j c r))
        (λ np. ap₂ (λ (t : Bool) (u : Three). cond (eqb (parent_in net.branches c) j && t) (near_current (get_or net.branches c no_branch) u) zero3)
        (test-same c ne) (sym (get_or-set_other x p c y zero3 np)))

    pub holds-next : (y : Three) → y ≡ plus3 (get_or x p zero3) (taken net.branches x m) → length x ≡ 201 → Holds net.branches net.rows net.rank own x (suc k) → Holds net.branches net.rows net.rank own (set x p y) k
    holds-next y e long h j q =
        same? j p
        (λ z.
        let there : get_or (set x p y) p zero3 ≡ y = get_or-set_same x p y zero3 (omega (arith, n.parent-room)) in
        let now : given net.branches net.rank (set x p y) k p m ≡ taken net.branches x m =
        ap₂ (λ (b d : Bool). cond (b && d) (taken net.branches (set x p y) m) zero3) (eq-eqb p p refl) (lt-ltb k (get_or net.rank m 0) (omega (arith, n.rank_is))) ∙
        ap (near_current (get_or net.branches m no_branch)) (get_or-set_other x p m y zero3 (λ e. n.apart (sym e))) in
        let none : given net.branches net.rank x (suc k) p m ≡ zero3 = not-given net.branches net.rank x (suc k) p m (omega (arith, n.rank_is)) in
        let more = one_more (given net.branches net.rank x (suc k) p) (given net.branches net.rank (set x p y) k p) m net.rows n.below (omega (arith, n.known)) none (part_same y p) in
        rw z
        (there ∙ e ∙ ap₂ plus3 (h p n.parent-known) (sym now) ∙ plus3-assoc _ _ _ ∙ ap (plus3 (get_or own p zero3)) (sym more)))
        (λ ne.
        get_or-set_other x p j y zero3 ne ∙ h j q ∙
        ap (plus3 (get_or own j zero3))
        (sum_same (count 1 net.rows) (λ c.
        same? c m
        (λ z. left-off (eqb (parent_in net.branches c) j) _ _ _ _ (ne_eqb (parent_in net.branches c) j (λ s. ne (sym s ∙ ap (parent_in net.branches) z))))
        (λ nz. part_same y j c nz))))

  -- a node whose net.rows are all done holds 01's current
  module _ (f : Feeder) (a : InArrays f net) (mine : ℕ → Three) (mine-is : (j : ℕ) → j < net.rows + 1 → get_or own j zero3 ≡ mine j) where
    module _ (x : List Three) (k : ℕ) (h : Holds net.branches net.rows net.rank own x k) where
      abbrev up : ℕ → Three
      up = upward f mine (row_count f)

      -- what node j has of row b, where the current of every node behind j is 01's
      part : (j b : ℕ) → k ≤ get_or net.rank j 0 → ((c : ℕ) → c < net.rows + 1 → get_or net.rank j 0 < get_or net.rank c 0 → get_or x c zero3 ≡ up c) → 0 < b → b < net.rows + 1 →
          given net.branches net.rank x k j b ≡ cond (eqb (parent f b) j) (near_current (branch_at f b) (up b)) zero3
      part j b l far p q =
          go (eqb (parent_in net.branches b) j) refl ∙
          (λ t. cond (eqb (branch-in f net w.linked.few a b t).from j) (near_current (branch-in f net w.linked.few a b t) (up b)) zero3)
        where
          go : (t : Bool) → eqb (parent_in net.branches b) j ≡ t →
              cond (t && ltb k (get_or net.rank b 0)) (taken net.branches x b) zero3 ≡ cond t (near_current (get_or net.branches b no_branch) (up b)) zero3
          go false e = refl
          go true e =
              let z : get_or net.rank (parent_in net.branches b) 0 ≡ get_or net.rank j 0 = ap (λ (c : ℕ). get_or net.rank c 0) (eqb-true (parent_in net.branches b) j e) in
              let u = (w.ordered.parent b p (w.ranked b q)).1 in
              rw (lt-ltb k (get_or net.rank b 0) (omega arith)) (ap (near_current (get_or net.branches b no_branch)) (far b q (omega arith)))

      whole : (j : ℕ) → j < net.rows + 1 → k ≤ get_or net.rank j 0 → ((c : ℕ) → c < net.rows + 1 → get_or net.rank j 0 < get_or net.rank c 0 → get_or x c zero3 ≡ up c) → get_or x j zero3 ≡ up j
      whole j q l far =
          h j q ∙ ap₂ plus3 (mine-is j q)
          (sum3-cong (λ b. (0 < b) × (b < net.rows + 1)) (given net.branches net.rank x k j) (λ b. cond (eqb (parent f b) j) (near_current (branch_at f b) (up b)) zero3) (count 1 net.rows)
          (λ b i. part j b l far i.0 i.1) (all-count _ 1 net.rows (λ i r. (omega arith, omega arith))) ∙
          (λ t. sum3 (λ b. cond (eqb (parent f b) j) (near_current (branch_at f b) (up b)) zero3) (count 1 (a.rows_are t)))) ∙
          sym (kirchhoff f mine (reached-in f net w.linked.few a w) j)

      behind : (d j : ℕ) → j < net.rows + 1 → k ≤ get_or net.rank j 0 → net.rows + 1 ≤ d + get_or net.rank j 0 → get_or x j zero3 ≡ up j
      behind zero j q l s = whole j q l (λ c r b. absurd (omega (arith, rank_most w c)))
      behind (suc d) j q l s = whole j q l (λ c r b. behind d c r (omega arith) (omega arith))

      pub holds-is : (j : ℕ) → j < net.rows + 1 → k ≤ get_or net.rank j 0 → get_or x j zero3 ≡ up j
      holds-is j q l = behind (net.rows + 1) j q l (omega arith)
