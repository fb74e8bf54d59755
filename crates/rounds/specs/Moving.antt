-- The taps in the arrays after a move, row by row. Assumes nothing.
use Rattle.std.specs.Prelude.{Bool, cond, List, ◌≡◌, ◌+◌, ◌<◌, ◌≤◌, suc, ℕ, nat_abs, get_or, length, set}
use Rattle.std.proofs.Math.Bool.{false, not, true}
use Rattle.std.proofs.Common.{◌∙◌, ap, arith}
use Rattle.std.proofs.Math.Path.{refl, sym}
use Rattle.std.proofs.Math.Decide.{ℕ_discrete}
use Rattle.branch_taps.proofs.SettingLaws.{array_at, set-array, setting-next, setting-start}
use Rattle.branch_taps.specs.Setting.{Setting}
use Rattle.equations.specs.Equations.{zero3}
use Rattle.equations.specs.Fit.{Fit}
use Rattle.equations.specs.Limits.{DeviceOk, TapsOk}
use Rattle.equations.proofs.TapMoves.{moved_at}
use Rattle.equations.specs.Taps.{at_rest, moved, moved_on, moved_taps, rests_at, same_taps}
use Rattle.feeder.specs.Feeder.{Feeder, branch_at, no_branch, no_taps, regulates, row_count, rows_of, tap_at, tapped, tapped_branch, taps_on, with_taps}
use Rattle.feeder.specs.Network.{branch_array}
use Rattle.feeder.proofs.TapLaws.{branch-tapped}
use Rattle.feeder.specs.declared.Branch.{Branch}
use Rattle.feeder.specs.declared.Device.{Device}
use Rattle.feeder.specs.declared.Device.TheVariants.{Line, Regulator, Transformer}
use Rattle.feeder.specs.declared.Phase.{Phase}
use Rattle.feeder.specs.declared.Phase.TheVariants.{A, B, C}
use Rattle.feeder.specs.Phased.{Taps, Three}
use Rattle.integers.specs.ListLaws.{true-count}
use Rattle.integers.specs.Lists.{all, count, tab}
use Rattle.integers.specs.Pairs.{inside}
use Rattle.iteration.proofs.RunLaws.{one-moved}
use Rattle.passes.specs.Same.{Same}
use Rattle.taps.specs.MovedTaps.{moved_ok}

-- ---- taps after a move are within ±16
taps-at : (t : Taps) → TapsOk t → (p : Phase) → nat_abs (tap_at t p) ≤ 16
taps-at t h A = h.a
taps-at t h B = h.b
taps-at t h C = h.c

no-tap : (p : Phase) → nat_abs (tap_at no_taps p) ≤ 16
no-tap A = omega arith
no-tap B = omega arith
no-tap C = omega arith

row_small : (b : Branch) (u i : Three) → DeviceOk b.device → (p : Phase) → nat_abs (tap_at (taps_on (tapped (moved_on b u i) b.device)) p) ≤ 16
unfolding moved_on
row_small b u i h p = go b.device h
  where
    go : (d : Device) → DeviceOk d → nat_abs (tap_at (taps_on (tapped (elim d [ Line z ↦ no_taps | Regulator x ↦ moved_taps x b.phases u i | Transformer x ↦ no_taps ]) d)) p) ≤ 16
    go (Line z) h = no-tap p
    go (Regulator x) h = taps-at _ (moved_ok x b.phases u i h.taps) p
    go (Transformer x) h = no-tap p

pub moved-small : (f : Feeder) (v i : List Three) → Fit f → (k : ℕ) → k < row_count f → (p : Phase) → nat_abs (tap_at (taps_on (branch_at (with_taps (moved f v i) f) (suc k)).device) p) ≤ 16
moved-small f v i h k q p =
    rw (branch-tapped (moved f v i) f (suc k), moved_at f v i (suc k) (omega arith)) (row_small (branch_at f (suc k)) (get_or v (suc k) zero3) (get_or i (suc k) zero3) (h.devices k q) p)

-- ---- V and I are read at places only
pub moved_same : (f : Feeder) {v w i j : List Three} → Same v w → Same i j → moved f v i ≡ moved f w j
unfolding moved
moved_same f p q = λ t. tab (λ k. moved_on (branch_at f k) (p.place k t) (q.place k t)) 0 (suc (row_count f))

pub rest_at : (f : Feeder) {v w i j : List Three} → Same v w → Same i j → at_rest f v i ≡ at_rest f w j
unfolding at_rest rests_at
rest_at f p q = λ t. all (λ k. same_taps (get_or (moved_same f p q t) k no_taps) (taps_on (branch_at f k).device)) (rows_of f)

-- ---- the move, row by row
-- a branch after a move, and whether its taps stay
abbrev pub moved_row : Branch → Three → Three → Branch
moved_row b u i = tapped_branch (moved_on b u i) b

abbrev pub rests_row : Branch → Three → Three → Bool
rests_row b u i = same_taps (moved_on b u i) (taps_on b.device)

abbrev pub rests_in : List Branch → List Three → List Three → ℕ → Bool
rests_in l v i k = rests_row (get_or l k no_branch) (get_or v k zero3) (get_or i k zero3)

-- a line and a transformer have no taps to move
pub row-without-taps : (b : Branch) (u i : Three) → regulates b.device ≡ false → (rests_row b u i ≡ true) × (moved_row b u i ≡ b)
unfolding moved_on all inside
row-without-taps b u i e = go b.device e
  where
    go : (d : Device) → regulates d ≡ false → let t : Taps = elim d [ Line z ↦ no_taps | Regulator x ↦ moved_taps x b.phases u i | Transformer x ↦ no_taps ] in
        (same_taps t (taps_on d) ≡ true) × (◌≡◌ {A = Branch} (record { from = b.from; phases = b.phases; device = tapped t d }) (record { from = b.from; phases = b.phases; device = d }))
    go (Line z) e = (refl, refl)
    go (Regulator x) e = (let w : ◌≡◌ {A = ℕ} 0 1 = cc in absurd (omega arith))
    go (Transformer x) e = (refl, refl)

-- of a row before k the taps moved
pub record SomeMoved (k : ℕ) (l : List Branch) (v i : List Three) : Type 0 where
  pub place : ℕ
  pub low : 0 < place
  pub high : place < k
  pub moves : rests_in l v i place ≡ false

-- the taps of each row after the move
abbrev pub moved_in : List Branch → List Three → List Three → ℕ → Taps
moved_in m v i j = moved_on (get_or m j no_branch) (get_or v j zero3) (get_or i j zero3)

-- rows 1 to k - 1 have been moved: l is m but for these
pub record Moving (k : ℕ) (m l : List Branch) (v i : List Three) (changed : Bool) : Type 0 where
  pub set-so-far : Setting k m l (moved_in m v i)
  pub none-moved : changed ≡ false → (j : ℕ) → 0 < j → j < k → rests_in m v i j ≡ true
  pub some-moved : changed ≡ true → SomeMoved k m v i

pub moving-start : (m : List Branch) (v i : List Three) → Moving 1 m m v i false
moving-start m v i = record {
  set-so-far = setting-start m (moved_in m v i);
  none-moved = λ e j p q. absurd (omega arith);
  some-moved = λ e. (let z : ◌≡◌ {A = ℕ} 0 1 = cc in absurd (omega arith));
}

-- row k: `now` says whether its taps moved
pub moving-next : (k : ℕ) (m l n : List Branch) (v i : List Three) (changed now after : Bool) → 0 < k → k < length m
    → now ≡ not (rests_in l v i k) → n ≡ set l k (moved_row (get_or l k no_branch) (get_or v k zero3) (get_or i k zero3)) → after ≡ cond now true changed → Moving k m l v i changed → Moving (k + 1) m n v i after
moving-next k m l n v i changed now after p q e s a h = record {
  set-so-far = setting-next k m l n (moved_in m v i) p q (s ∙ ap (λ (x : Branch). set l k (tapped_branch (moved_on x (get_or v k zero3) (get_or i k zero3)) (get_or l k no_branch))) same) h.set-so-far;
  none-moved = λ z j b d. elim (ℕ_discrete j k) [
    | yes y ↦ rw y (still now refl (sym a ∙ z))
    | no y ↦ h.none-moved (not-before now refl (sym a ∙ z)) j b (omega arith)
  ];
  some-moved = λ z. some-now now refl (sym a ∙ z);
}
  where
    same : get_or l k no_branch ≡ get_or m k no_branch
    same = h.set-so-far.behind k (omega arith)

    rests-as : rests_in l v i k ≡ rests_in m v i k
    rests-as = ap (λ (x : Branch). rests_row x (get_or v k zero3) (get_or i k zero3)) same

    turned : (c d : Bool) → c ≡ not d → d ≡ not c
    turned true true e = e
    turned true false e = refl
    turned false true e = refl
    turned false false e = e

    rests : rests_in m v i k ≡ not now
    rests = sym rests-as ∙ turned now (rests_in l v i k) e

    still : (c : Bool) → now ≡ c → cond c true changed ≡ false → rests_in m v i k ≡ true
    still true y z = (let w : ◌≡◌ {A = ℕ} 0 1 = cc in absurd (omega arith))
    still false y z = rests ∙ ap not y

    not-before : (c : Bool) → now ≡ c → cond c true changed ≡ false → changed ≡ false
    not-before true y z = (let w : ◌≡◌ {A = ℕ} 0 1 = cc in absurd (omega arith))
    not-before false y z = z

    some-now : (c : Bool) → now ≡ c → cond c true changed ≡ true → SomeMoved (k + 1) m v i
    some-now true y z = record { place = k; low = p; high = omega arith; moves = rests ∙ ap not y }
    some-now false y z = let w = h.some-moved z in record { place = w.place; low = w.low; high = omega (arith, w.high); moves = w.moves }

-- all rows: what the arrays then hold
module _ (g : Feeder) (rows : ℕ) (m l : List Branch) (v i : List Three) (changed : Bool) (e : m ≡ branch_array g) (r : rows ≡ row_count g) (few : rows ≤ 200) (h : Moving (rows + 1) m l v i changed) where
  was : (k : ℕ) → get_or m k no_branch ≡ branch_at g k
  was = array_at g m e (omega arith)

  pub moved-array : l ≡ branch_array (with_taps (moved g v i) g)
  moved-array = set-array g rows m l (moved_in m v i) (moved g v i) e r few (λ k p q. rw (was k) (sym (moved_at g v i k (omega arith)))) h.set-so-far

  rests-is : (k : ℕ) → k < suc (row_count g) → rests_at g v i k ≡ rests_in m v i k
  unfolding rests_at
  rests-is k q = rw (was k, moved_at g v i k q)

  pub moved-any : changed ≡ not (at_rest g v i)
  unfolding at_rest
  moved-any = go changed refl
    where
      go : (c : Bool) → changed ≡ c → c ≡ not (all (rests_at g v i) (count 1 (row_count g)))
      go true z = let w = h.some-moved z in sym (ap not (one-moved (rests_at g v i) (row_count g) w.place w.low (omega (arith, w.high)) (rests-is w.place (omega (arith, w.high)) ∙ w.moves)))
      go false z = sym (ap not (true-count (rests_at g v i) 1 (row_count g) (λ j q. rests-is (1 + j) (omega arith) ∙ h.none-moved z (1 + j) (omega arith) (omega arith))))
