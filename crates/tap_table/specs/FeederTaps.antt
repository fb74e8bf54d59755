-- Of arrays that hold a feeder: its own rows of the last table, and the taps that the table's rows give by node number. Assumes nothing.
use Rattle.std.proofs.Math.Bool.{Bool, cond, false, true}
use Rattle.std.specs.Prelude.{◌&&◌, ◌≡◌, length, Err}
use mathlib.Core.List.{List, [], ◌∷◌, map}
use Rattle.std.proofs.Common.{◌∙◌, eq-eqb, ne_eqb}
use Rattle.std.proofs.Math.Path.{ap, refl, sym}
use Prim.Native.Nat.{◌+◌, ◌-◌, ◌<◌, ◌≤◌, suc, zero, ℕ}
use native.Mathlib.Omega.{arith}
use Rattle.std.proofs.Math.ListN.{get_or-eq_default, get_or, length-map}
use Rattle.answers.specs.declared.Refusal.TheVariants.{ReportLayout}
use Rattle.feeder.specs.Feeder.{Feeder, branch_at, moves_taps, no_branch, no_taps, place_of, regulates, regulators, row_count, rows_of, taps_on}
use Rattle.feeder.specs.Network.{branch_array, kept}
use Rattle.feeder.specs.NetworkLaws.{get_or_kept, kept-below}
use Rattle.feeder.proofs.TapLaws.{all-chosen, few-regulators}
use Rattle.feeder.specs.declared.Branch.{Branch}
use Rattle.feeder.specs.Phased.{Taps}
use Rattle.integers.specs.Bools.{clash}
use Rattle.integers.specs.ListLaws.{all-tab}
use Rattle.integers.specs.Lists.{All, all, any, chosen, count, tab}
use Rattle.report.specs.Report.{no_row, tap_row, taps_fit, taps_given, unfiled_taps}
use Rattle.tap_table.specs.OwnLaws.{image-at}
use Rattle.tap_table.specs.OwnRows.{OwnHeld, fits_from, given_at, given_taps, levels_from, regulators_before}
use Rattle.tap_table.specs.Regulators.{none-fit, regulates_in, regulators-held, regulators_from}
use Rattle.tap_table.specs.TapTable.{TapsHeld, taps_at}
use Rattle.text.specs.Lines.{Row, word_of}

-- ---- lists
map-twice : {X Y Z : Type 0} (g : Y → Z) (h : X → Y) (l : List X) → map g (map h l) ≡ map (λ x. g (h x)) l
map-twice g h [] = refl
map-twice g h (x ∷ l) = ap (λ (m : List _). g (h x) ∷ m) (map-twice g h l)

map_same : {X Y : Type 0} (g h : X → Y) (l : List X) → All (λ x. g x ≡ h x) l → map g l ≡ map h l
map_same g h [] e = refl
map_same g h (x ∷ l) e = λ i. e.0 i ∷ map_same g h l e.1 i

tab-same : {X : Type 0} (g h : ℕ → X) (a n : ℕ) → ((i : ℕ) → i < n → g (a + i) ≡ h (a + i)) → tab g a n ≡ tab h a n
unfolding tab
tab-same g h a zero e = refl
tab-same g h a (suc n) e =
    let z : a + 0 ≡ a = omega arith in
    let first : g a ≡ h a = rw z at (e 0 (omega arith)) in
    let rest : tab g (a + 1) n ≡ tab h (a + 1) n = tab-same g h (a + 1) n (λ i q. let w : a + suc i ≡ (a + 1) + i = omega arith in rw w at (e (suc i) (omega arith))) in
    λ i. first i ∷ rest i

-- a test of the chosen ones, where it holds of all others
all-of-chosen : (c g h : ℕ → Bool) (a n : ℕ) → ((i : ℕ) → i < n → c (a + i) ≡ true → h (a + i) ≡ g (a + i)) → ((i : ℕ) → i < n → c (a + i) ≡ false → h (a + i) ≡ true)
    → all h (tab (λ i. i) a n) ≡ all g (chosen c (tab (λ i. i) a n))
unfolding all chosen tab
all-of-chosen c g h a zero e f = refl
all-of-chosen c g h a (suc n) e f =
    let z : a + 0 ≡ a = omega arith in
    go (c a) refl (rw z at (e 0 (omega arith))) (rw z at (f 0 (omega arith)))
    (all-of-chosen c g h (a + 1) n (λ i q. let w : a + suc i ≡ (a + 1) + i = omega arith in rw w at (e (suc i) (omega arith))) (λ i q. let w : a + suc i ≡ (a + 1) + i = omega arith in rw w at (f (suc i) (omega arith))))
  where
    rest : List ℕ
    rest = chosen c (tab (λ i. i) (a + 1) n)

    go : (d : Bool) → c a ≡ d → (c a ≡ true → h a ≡ g a) → (c a ≡ false → h a ≡ true) → all h (tab (λ i. i) (a + 1) n) ≡ all g rest → (h a && all h (tab (λ i. i) (a + 1) n)) ≡ all g (cond d (a ∷ rest) rest)
    go true w e f r = λ i. e w i && r i
    go false w e f r = (λ i. f w i && r i)

-- the place of a chosen number is the count of those before it, and another has none
place_at : (c : ℕ → Bool) (a n i : ℕ) → i < n → c (a + i) ≡ true → place_of (a + i) (chosen c (tab (λ k. k) a n)) ≡ length (chosen c (tab (λ k. k) a i))
unfolding chosen place_of tab
place_at c a zero i q e = absurd (omega arith)
place_at c a (suc n) zero q e = let z : a + 0 ≡ a = omega arith in let d : c a ≡ true = rw z at e in rw (d, z, eq-eqb a a refl) refl
place_at c a (suc n) (suc i) q e =
    let z : a + suc i ≡ (a + 1) + i = omega arith in
    go (c a) (place_at c (a + 1) n i (omega arith) (rw z at e))
  where
    rest : List ℕ
    rest = chosen c (tab (λ k. k) (a + 1) n)

    go : (d : Bool) → place_of ((a + 1) + i) rest ≡ length (chosen c (tab (λ k. k) (a + 1) i)) → place_of (a + suc i) (cond d (a ∷ rest) rest) ≡ length (cond d (a ∷ chosen c (tab (λ k. k) (a + 1) i)) (chosen c (tab (λ k. k) (a + 1) i)))
    go true h =
        let z : a + suc i ≡ (a + 1) + i = omega arith in
        let g : place_of (a + suc i) rest ≡ length (chosen c (tab (λ k. k) (a + 1) i)) = rw z h in
        rw (ne_eqb (a + suc i) a (λ w. omega arith)) (ap suc g)
    go false h = let z : a + suc i ≡ (a + 1) + i = omega arith in rw z h

place_none : (c : ℕ → Bool) (k : ℕ) (l : List ℕ) → c k ≡ false → place_of k (chosen c l) ≡ length (chosen c l)
unfolding chosen place_of
place_none c k [] e = refl
place_none c k (m ∷ l) e = go (c m) refl (place_none c k l e)
  where
    go : (d : Bool) → c m ≡ d → place_of k (chosen c l) ≡ length (chosen c l) → place_of k (cond d (m ∷ chosen c l) (chosen c l)) ≡ length (cond d (m ∷ chosen c l) (chosen c l))
    go true h r = rw (ne_eqb k m (λ z. clash (c k) (ap c z ∙ h) e)) (ap suc r)
    go false h r = r

module _ (f : Feeder) (few : row_count f ≤ 200) where
  array_at : (k : ℕ) → get_or (branch_array f) k no_branch ≡ branch_at f k
  unfolding branch_at
  array_at k = get_or_kept no_branch 201 (no_branch ∷ f.branches) k (omega arith)

  -- ---- a report without the last table
  levels-held : levels_from (branch_array f) 1 (row_count f) ≡ any (λ k. moves_taps (branch_at f k).device) (rows_of f)
  unfolding levels_from
  levels-held =
      let z : suc (row_count f) - 1 ≡ row_count f = omega arith in
      λ i. any (λ k. moves_taps (array_at k i).device) (count 1 (z i))

  pub levels-refused : levels_from (branch_array f) 1 (row_count f) ≡ true → unfiled_taps f ≡ Err ReportLayout
  unfolding unfiled_taps
  levels-refused e = rw (sym levels-held ∙ e) refl

  own-names : All (λ k. get_or (kept 0 201 f.nodes) k 0 ≡ word_of (tap_row f k) 0) (regulators f)
  unfolding regulators count tap_row
  own-names = all-chosen (λ k. get_or (kept 0 201 f.nodes) k 0 ≡ word_of (tap_row f k) 0) (λ k. regulates (branch_at f k).device) (tab (λ i. i) 1 (row_count f))
      (all-tab (λ k. regulates (branch_at f k).device ≡ true → get_or (kept 0 201 f.nodes) k 0 ≡ word_of (tap_row f k) 0) (λ i. i) 1 (row_count f) (λ i q e. kept-below 0 0 201 f.nodes (1 + i) (omega arith)))

  -- the feeder's own rows, where no regulator has a level
  pub own_held : (names : List ℕ) (taps : List Taps) → levels_from (branch_array f) 1 (row_count f) ≡ false → OwnHeld (kept 0 201 f.nodes) (branch_array f) (regulators_from (branch_array f) 1 (row_count f)) names taps
      → TapsHeld (unfiled_taps f) (length (regulators f)) names taps
  unfolding unfiled_taps tap_row
  own_held names taps e h =
      let r = regulators-held f few in
      record {
        list = map (tap_row f) (regulators f);
        whole = rw (sym levels-held ∙ e) refl;
        counted = length-map (regulators f) (tap_row f);
        named = h.named ∙ (λ i. kept 0 201 (map (λ k. get_or (kept 0 201 f.nodes) k 0) (r i)))
            ∙ ap (kept 0 201) (map_same _ (λ k. word_of (tap_row f k) 0) (regulators f) own-names ∙ sym (map-twice (λ y. word_of y 0) (tap_row f) (regulators f)));
        held = h.held ∙ (λ i. kept no_taps 201 (map (λ k. taps_on (array_at k i).device) (r i)))
            ∙ ap (kept no_taps 201) (sym (map-twice (λ y. taps_at y.values) (tap_row f) (regulators f)));
      }

  -- ---- the rows l of the table, which t holds
  regulators-are : regulators f ≡ chosen (regulates_in (branch_array f)) (tab (λ i. i) 1 (row_count f))
  unfolding regulators count
  regulators-are = λ i. chosen (λ k. regulates (sym (array_at k) i).device) (tab (λ i. i) 1 (row_count f))

  place-of : (i : ℕ) → i < row_count f → regulates_in (branch_array f) (suc i) ≡ true → place_of (suc i) (regulators f) ≡ length (regulators_before (branch_array f) (suc i))
  unfolding regulators_before count
  place-of i q e =
      let z : 1 + i ≡ suc i = omega arith in
      let w : suc i - 1 ≡ i = omega arith in
      rw (w, regulators-are) (rw z at (place_at (regulates_in (branch_array f)) 1 (row_count f) i q (rw z e)))

  place-past : (k : ℕ) → regulates_in (branch_array f) k ≡ false → place_of k (regulators f) ≡ length (regulators f)
  place-past k e = rw regulators-are (place_none (regulates_in (branch_array f)) k (tab (λ i. i) 1 (row_count f)) e)

  module _ (l : List Row) (t : List Taps) (n : length l ≡ length (regulators f)) (h : t ≡ kept no_taps 201 (map (λ y. taps_at y.values) l)) where
    stored_at : (p : ℕ) → get_or t p no_taps ≡ taps_at (get_or l p no_row).values
    stored_at p =
        let g : Row → Taps = λ y. taps_at y.values in
        let m : length (map g l) ≤ 201 = omega (arith, n, length-map l g, few-regulators f) in
        ap (λ (m : List Taps). get_or m p no_taps) h ∙ get_or_kept no_taps 201 (map g l) p m ∙ image-at g no_row l p

    none-given : (k : ℕ) → regulates_in (branch_array f) k ≡ false → taps_given f l k ≡ no_taps
    unfolding taps_given
    none-given k e = ap (λ (y : Row). taps_at y.values) (ap (λ (p : ℕ). get_or l p no_row) (place-past k e) ∙ get_or-eq_default l no_row (omega (arith, n)))

    given-held : (i : ℕ) → i < row_count f → given_at (branch_array f) t (suc i) ≡ taps_given f l (suc i)
    unfolding given_at taps_given
    given-held i q = go (regulates_in (branch_array f) (suc i)) refl
      where
        go : (d : Bool) → regulates_in (branch_array f) (suc i) ≡ d → cond d (get_or t (length (regulators_before (branch_array f) (suc i))) no_taps) no_taps ≡ taps_given f l (suc i)
        go true e = stored_at (length (regulators_before (branch_array f) (suc i))) ∙ ap (λ (p : ℕ). taps_at (get_or l p no_row).values) (sym (place-of i q e))
        go false e = sym (none-given (suc i) e)

    pub given-taps : given_taps (branch_array f) t (row_count f) ≡ kept no_taps 201 (tab (taps_given f l) 0 (suc (row_count f)))
    unfolding given_taps tab branch_at
    given-taps =
        let first : no_taps ≡ taps_given f l 0 = sym (none-given 0 (ap (λ (b : Branch). regulates b.device) (array_at 0))) in
        let rest : tab (given_at (branch_array f) t) 1 (row_count f) ≡ tab (taps_given f l) 1 (row_count f) = tab-same _ _ 1 (row_count f) (λ i q. let z : 1 + i ≡ suc i = omega arith in rw z (given-held i q)) in
        λ i. kept no_taps 201 (first i ∷ rest i)

    pub fits-held : fits_from (branch_array f) t 1 (row_count f) ≡ all (λ k. taps_fit (branch_at f k).phases (taps_given f l k)) (regulators f)
    unfolding fits_from count given_at
    fits-held =
        let z : suc (row_count f) - 1 ≡ row_count f = omega arith in
        let g : ℕ → Bool = λ k. taps_fit (branch_at f k).phases (taps_given f l k) in
        let h : ℕ → Bool = λ k. taps_fit (get_or (branch_array f) k no_branch).phases (given_at (branch_array f) t k) in
        rw (z, regulators-are) (all-of-chosen (regulates_in (branch_array f)) g h 1 (row_count f)
        (λ i q e. let w : 1 + i ≡ suc i = omega arith in rw w (λ j. taps_fit (array_at (suc i) j).phases (given-held i q j)))
        (λ i q e. ap (λ (x : Taps). taps_fit (get_or (branch_array f) (1 + i) no_branch).phases x) (ap (λ (d : Bool). cond d (get_or t (length (regulators_before (branch_array f) (1 + i))) no_taps) no_taps) e) ∙ none-fit (get_or (branch_array f) (1 + i) no_branch).phases))
