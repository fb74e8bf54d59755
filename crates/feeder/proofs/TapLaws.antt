-- A feeder with other taps: all but its taps is as it was, and it has the form of one. Assumes nothing.
use Rattle.std.specs.Prelude.{Bool, ◌&&◌, cond, false, not, true, List, [], ◌∷◌, map, ◌≡◌, T, eqb, leb, ltb, ◌-ℤ◌, nat_abs, neg_ℤ, pos, ℤ, get_or, length}
use Rattle.std.proofs.Common.{◌∙◌, ap, subst, sym, arith, ltb→lt, ext_get_or, eq-eqb, eqb-true, leb-false, leb-true, ne_eqb}
use Rattle.std.proofs.Math.Path.{refl}
use Prim.Native.Nat.{◌+◌, ◌<◌, ◌≤◌, suc, zero, ℕ}
use Rattle.std.proofs.Math.ListN.{get_or-eq_default}
use Rattle.std.specs.Int.Signed.{le_z}
use Rattle.std.proofs.lemmas.Bool.{not-false}
use Rattle.feeder.specs.Feeder.{Feeder, above, between, branch_at, branch_in, column_of, device_of, feeder_of, has, in_limit, level_of, no_branch, no_taps, not_zero, parent, phases_of, place_of, regulates, regulators, row_count, tap_at, tapped, tapped_branch, taps_on, with_taps, zero_if_due, zeros}
use Rattle.feeder.proofs.FeederLaws.{Sound, branch-is, row-count, row_of}
use Rattle.feeder.proofs.RowFacts.{Formed, OfBranch, OfLoad, Sized, branch-in, column-in}
use Rattle.feeder.specs.RowLaws.{none-bad}
use Rattle.feeder.specs.declared.Branch.{Branch}
use Rattle.feeder.specs.declared.BranchRow.{BranchRow}
use Rattle.feeder.specs.declared.Device.{Device}
use Rattle.feeder.specs.declared.Device.TheVariants.{Line, Regulator, Transformer}
use Rattle.feeder.specs.declared.Kind.{Kind}
use Rattle.feeder.specs.declared.Kind.TheVariants.{D, L, R, Y}
use Rattle.feeder.specs.declared.Load.{Load}
use Rattle.feeder.specs.declared.Phase.{Phase}
use Rattle.feeder.specs.declared.Phase.TheVariants.{A, B, C}
use Rattle.feeder.specs.Phased.{Phases, Taps}
use Rattle.integers.specs.Bools.{both, clash}
use Rattle.integers.specs.ListLaws.{all-at, all_map, count-true, get_or-tab, length-tab}
use Rattle.integers.specs.Lists.{All, all, chosen, count, tab}
use Rattle.integers.specs.Pairs.{inside}
use Rattle.integers.specs.Whole.{abs-parts, le_z-true, neg-neg, one-part, parts, parts-eq, pos-neg}
use Rattle.text.specs.Lines.{nth}

-- ---- a device with other taps
tapped-same : (a b : Taps) (d : Device) → (regulates d ≡ true → a ≡ b) → tapped a d ≡ tapped b d
tapped-same a b (Line z) h = refl
tapped-same a b (Regulator x) h = ap (λ (t : Taps). tapped t (Regulator x)) (h refl)
tapped-same a b (Transformer x) h = refl

tapped-twice : (a b : Taps) (d : Device) → tapped a (tapped b d) ≡ tapped (taps_on (tapped a (tapped b d))) d
tapped-twice a b (Line z) = refl
tapped-twice a b (Regulator x) = refl
tapped-twice a b (Transformer x) = refl

tapped-own : (d : Device) → d ≡ tapped (taps_on d) d
tapped-own (Line z) = refl
tapped-own (Regulator x) = refl
tapped-own (Transformer x) = refl

pub tapped-regulates : (a : Taps) (d : Device) → regulates (tapped a d) ≡ regulates d
tapped-regulates a (Line z) = refl
tapped-regulates a (Regulator x) = refl
tapped-regulates a (Transformer x) = refl

pub tapped-level : (a : Taps) (d : Device) → level_of (tapped a d) ≡ level_of d
tapped-level a (Line z) = refl
tapped-level a (Regulator x) = refl
tapped-level a (Transformer x) = refl

-- the branch with another device
abbrev with-device : Branch → Device → Branch
with-device b d = record { from = b.from; phases = b.phases; device = d }

-- ---- the branches of a feeder with other taps
pub count-tapped : (t : List Taps) (f : Feeder) → row_count (with_taps t f) ≡ row_count f
unfolding with_taps
count-tapped t f = length-tab _ 1 (row_count f)

pub branch-tapped : (t : List Taps) (f : Feeder) (k : ℕ) → branch_at (with_taps t f) k ≡ tapped_branch (get_or t k no_taps) (branch_at f k)
unfolding with_taps branch_at
branch-tapped t f zero = refl
branch-tapped t f (suc k) = go (leb (row_count f) k) refl
  where
    new : ℕ → Branch
    new j = tapped_branch (get_or t j no_taps) (branch_at f j)

    go : (c : Bool) → leb (row_count f) k ≡ c → get_or (tab new 1 (row_count f)) k no_branch ≡ tapped_branch (get_or t (suc k) no_taps) (get_or f.branches k no_branch)
    go true e =
        let l : row_count f ≤ k = leb-true (row_count f) k e in
        let n = length-tab new 1 (row_count f) in
        get_or-eq_default (tab new 1 (row_count f)) no_branch (omega arith) ∙ ap (tapped_branch (get_or t (suc k) no_taps)) (sym (get_or-eq_default f.branches no_branch l))
    go false e =
        let l = leb-false (row_count f) k e in
        let z : 1 + k ≡ suc k = omega arith in
        rw z at (get_or-tab new 1 (row_count f) k no_branch (omega arith))

-- ---- g is f with other taps
pub record Retapped (f g : Feeder) : Type 0 where
  pub source : g.source ≡ f.source
  pub tol : g.tol ≡ f.tol
  pub limit : g.limit ≡ f.limit
  pub nodes : g.nodes ≡ f.nodes
  pub loads : g.loads ≡ f.loads
  pub rows : row_count g ≡ row_count f
  pub branch : (k : ℕ) → branch_at g k ≡ tapped_branch (taps_on (branch_at g k).device) (branch_at f k)

pub retapped-self : (f : Feeder) → Retapped f f
retapped-self f = record { source = refl; tol = refl; limit = refl; nodes = refl; loads = refl; rows = refl; branch = λ k. ap (with-device (branch_at f k)) (tapped-own (branch_at f k).device) }

pub retapped-with : (f g : Feeder) (t : List Taps) → Retapped f g → Retapped f (with_taps t g)
unfolding with_taps
retapped-with f g t h = record {
  source = h.source;
  tol = h.tol;
  limit = h.limit;
  nodes = h.nodes;
  loads = h.loads;
  rows = count-tapped t g ∙ h.rows;
  branch = λ k. one k (branch_at (with_taps t g) k) (branch-tapped t g k ∙ ap (tapped_branch (get_or t k no_taps)) (h.branch k));
}
  where
    one : (k : ℕ) (b : Branch) → b ≡ tapped_branch (get_or t k no_taps) (tapped_branch (taps_on (branch_at g k).device) (branch_at f k)) → b ≡ tapped_branch (taps_on b.device) (branch_at f k)
    one k b e = e ∙ ap (with-device (branch_at f k)) (tapped-twice (get_or t k no_taps) (taps_on (branch_at g k).device) (branch_at f k).device)
        ∙ ap (λ (x : Branch). tapped_branch (taps_on x.device) (branch_at f k)) (sym e)

-- f with the taps of g is g
pub retapped-eq : (f g : Feeder) → Retapped f g → (t : List Taps) → ((k : ℕ) → k < row_count f → regulates (branch_at f (suc k)).device ≡ true → get_or t (suc k) no_taps ≡ taps_on (branch_at g (suc k)).device) → with_taps t f ≡ g
unfolding with_taps branch_at
retapped-eq f g h t same = λ i. record { source = sym h.source i; tol = sym h.tol i; limit = sym h.limit i; nodes = sym h.nodes i; branches = branches i; loads = sym h.loads i }
  where
    new : ℕ → Branch
    new j = tapped_branch (get_or t j no_taps) (branch_at f j)

    branches : tab new 1 (row_count f) ≡ g.branches
    branches = ext_get_or no_branch (tab new 1 (row_count f)) g.branches (length-tab new 1 (row_count f) ∙ sym h.rows)
        (λ j q. let n : j < row_count f = (let e = length-tab new 1 (row_count f) in omega arith) in
        let z : 1 + j ≡ suc j = omega arith in
        rw z at (get_or-tab new 1 (row_count f) j no_branch n)
        ∙ ap (with-device (branch_at f (suc j))) (tapped-same (get_or t (suc j) no_taps) (taps_on (branch_at g (suc j)).device) (branch_at f (suc j)).device (same j n))
        ∙ sym (h.branch (suc j)))

-- ---- what is as it was
module _ {f g : Feeder} (h : Retapped f g) where
  pub parent-same : (k : ℕ) → parent g k ≡ parent f k
  parent-same k = ap (λ (b : Branch). b.from) (h.branch k)

  pub phases-same : (k : ℕ) → (branch_at g k).phases ≡ (branch_at f k).phases
  phases-same k = ap (λ (b : Branch). b.phases) (h.branch k)

  pub device-is : (k : ℕ) → (branch_at g k).device ≡ tapped (taps_on (branch_at g k).device) (branch_at f k).device
  device-is k = ap (λ (b : Branch). b.device) (h.branch k)

  pub regulates-same : (k : ℕ) → regulates (branch_at g k).device ≡ regulates (branch_at f k).device
  regulates-same k = ap regulates (device-is k) ∙ tapped-regulates (taps_on (branch_at g k).device) (branch_at f k).device

  pub regulators-same : regulators g ≡ regulators f
  unfolding regulators
  regulators-same = λ i. chosen (λ k. regulates-same k i) (count 1 (h.rows i))

  pub level-same : (k : ℕ) → level_of (branch_at g k).device ≡ level_of (branch_at f k).device
  level-same k = ap level_of (device-is k) ∙ tapped-level (taps_on (branch_at g k).device) (branch_at f k).device

  pub node-phases : (k : ℕ) → phases_of g k ≡ phases_of f k
  unfolding phases_of
  node-phases zero = refl
  node-phases (suc k) = phases-same (suc k)

-- ---- taps within ±16, and 0 on absent phases
pub record TapsIn (f : Phases) (t : Taps) : Type 0 where
  pub small : (p : Phase) → nat_abs (tap_at t p) ≤ 16
  pub off : (p : Phase) → has f p ≡ false → tap_at t p ≡ pos 0

pub no-taps-in : (f : Phases) → TapsIn f no_taps
no-taps-in f = record { small = s; off = o }
  where
    s : (p : Phase) → nat_abs (tap_at no_taps p) ≤ 16
    s A = omega arith
    s B = omega arith
    s C = omega arith

    o : (p : Phase) → has f p ≡ false → tap_at no_taps p ≡ pos 0
    o A e = refl
    o B e = refl
    o C e = refl

divisor-some : (t : ℤ) → nat_abs t ≤ 16 → 0 < nat_abs (pos 160 -ℤ t)
divisor-some t h = let k = simp parts at h in simp parts (omega arith)

sized-tapped : (t : Taps) (d : Device) (f : Phases) → ((p : Phase) → nat_abs (tap_at t p) ≤ 16) → Sized d f → Sized (tapped t d) f
sized-tapped t (Line z) f k s = s
sized-tapped t (Regulator x) f k s = (divisor-some t.a (k A), (divisor-some t.b (k B), divisor-some t.c (k C)))
sized-tapped t (Transformer x) f k s = s

-- with taps within ±16 a feeder keeps its form
pub retapped-formed : (f g : Feeder) → Retapped f g → ((k : ℕ) → k < row_count f → TapsIn (branch_at f (suc k)).phases (taps_on (branch_at g (suc k)).device)) → Formed f → Formed g
retapped-formed f g h t w = record {
  parents = λ k q. let n : k < suc (row_count f) = rw h.rows at q in rw (parent-same h k, h.rows) (w.parents k n);
  reached = λ k q. let n : k < suc (row_count f) = rw h.rows at q in ((λ i. above (λ j. parent-same h j i) (h.rows i) k) ∙ w.reached k n);
  branches = λ k q. let n : k < row_count f = rw h.rows at q in one k n (w.branches k n);
  loads = subst (λ (l : List Load). All (OfLoad g) l) (sym h.loads) (all_map f.loads load w.loads);
}
  where
    one : (k : ℕ) → k < row_count f → OfBranch f (branch_at f (suc k)) → OfBranch g (branch_at g (suc k))
    one k n o = record {
      sized = rw (device-is h (suc k), phases-same h (suc k)) (sized-tapped (taps_on (branch_at g (suc k)).device) (branch_at f (suc k)).device (branch_at f (suc k)).phases (t k n).small o.sized);
      under = λ p e. rw (parent-same h (suc k), node-phases h (parent f (suc k))) (o.under p (rw (phases-same h (suc k)) at e));
    }

    load : (l : Load) → OfLoad f l → OfLoad g l
    load l o = record { there = λ p e. rw (node-phases h l.node) (o.there p e); rated = o.rated }

-- ---- the rows of the regulators: they are no more than the rows, and every one of them has a place among them
pub all-chosen : {X : Type 0} (P : X → Type 0) (c : X → Bool) (l : List X) → All (λ x. c x ≡ true → P x) l → All P (chosen c l)
unfolding chosen
all-chosen P c [] h = tt
all-chosen P c (x ∷ l) h = go (c x) refl (all-chosen P c l h.1)
  where
    go : (d : Bool) → c x ≡ d → All P (chosen c l) → All P (cond d (x ∷ chosen c l) (chosen c l))
    go true e r = (h.0 e, r)
    go false e r = r

pub length-chosen : {X : Type 0} (c : X → Bool) (l : List X) → length (chosen c l) ≤ length l
unfolding chosen
length-chosen c [] = omega arith
length-chosen c (x ∷ l) = go (c x) (length-chosen c l)
  where
    go : (d : Bool) → length (chosen c l) ≤ length l → length (cond d (x ∷ chosen c l) (chosen c l)) ≤ suc (length l)
    go true h = omega arith
    go false h = omega arith

pub few-regulators : (f : Feeder) → length (regulators f) ≤ row_count f
unfolding regulators count
few-regulators f = omega (arith, length-chosen (λ k. regulates (branch_at f k).device) (count 1 (row_count f)), length-tab (λ (j : ℕ). j) 1 (row_count f))

place-chosen : (c : ℕ → Bool) (k : ℕ) (l : List ℕ) → c k ≡ true → place_of k l < length l → place_of k (chosen c l) < length (chosen c l)
unfolding chosen place_of
place-chosen c k [] e q = absurd (omega arith)
place-chosen c k (m ∷ l) e q = go (eqb k m) refl (c m) refl (place-chosen c k l e) q
  where
    go : (b : Bool) → eqb k m ≡ b → (d : Bool) → c m ≡ d → (place_of k l < length l → place_of k (chosen c l) < length (chosen c l)) → cond b 0 (suc (place_of k l)) < suc (length l)
        → place_of k (cond d (m ∷ chosen c l) (chosen c l)) < length (cond d (m ∷ chosen c l) (chosen c l))
    go true h true s ih q = rw h (omega arith)
    go true h false s ih q = clash (c m) (subst (λ (x : ℕ). c x ≡ true) (eqb-true k m h) e) s
    go false h true s ih q = let z = ih (omega arith) in rw h (omega arith)
    go false h false s ih q = ih (omega arith)

place-tab : (a n j : ℕ) → j < n → place_of (a + j) (tab (λ i. i) a n) < length (tab (λ i. i) a n)
unfolding tab place_of
place-tab a zero j q = absurd (omega arith)
place-tab a (suc n) zero q = let z : a + 0 ≡ a = omega arith in rw (z, eq-eqb a a refl) (omega arith)
place-tab a (suc n) (suc j) q = let z : a + suc j ≡ (a + 1) + j = omega arith in let h = rw (← z) at (place-tab (a + 1) n j (omega arith)) in go (eqb (a + suc j) a) h
  where
    go : (b : Bool) {p m : ℕ} → p < m → cond b 0 (suc p) < suc m
    go true h = omega arith
    go false h = omega arith

pub regulator-place : (f : Feeder) (j : ℕ) → j < row_count f → regulates (branch_at f (suc j)).device ≡ true → place_of (suc j) (regulators f) < length (regulators f)
unfolding regulators count
regulator-place f j q e = place-chosen (λ k. regulates (branch_at f k).device) (suc j) (tab (λ i. i) 1 (row_count f)) e (let z : 1 + j ≡ suc j = omega arith in rw z at (place-tab 1 (row_count f) j q))

-- what a list of rows has at the place of one of them
pub get_or-place : {X : Type 0} (h : ℕ → X) (k : ℕ) (l : List ℕ) (d : X) → place_of k l < length l → get_or (map h l) (place_of k l) d ≡ h k
unfolding place_of
get_or-place h k [] d q = absurd (omega arith)
get_or-place h k (m ∷ l) d q = go (eqb k m) refl (get_or-place h k l d) q
  where
    go : (b : Bool) → eqb k m ≡ b → (place_of k l < length l → get_or (map h l) (place_of k l) d ≡ h k) → cond b 0 (suc (place_of k l)) < suc (length l) → get_or (h m ∷ map h l) (cond b 0 (suc (place_of k l))) d ≡ h k
    go true e ih q = ap h (sym (eqb-true k m e))
    go false e ih q = ih (omega arith)

pub all-place : (P : ℕ → Type 0) (k : ℕ) (l : List ℕ) → All P l → place_of k l < length l → P k
unfolding place_of
all-place P k [] h q = absurd (omega arith)
all-place P k (m ∷ l) h q = go (eqb k m) refl q (all-place P k l h.1)
  where
    go : (b : Bool) → eqb k m ≡ b → cond b 0 (suc (place_of k l)) < suc (length l) → (place_of k l < length l → P k) → P k
    go true e q far = subst P (sym (eqb-true k m e)) h.0
    go false e q far = far (omega arith)

-- ---- 11 and 24 of the taps p1 to p3
tap-small : (t : ℤ) → between (neg_ℤ (pos 16)) (pos 16) t ≡ true → nat_abs t ≤ 16
tap-small t e =
    let h = both (le_z (neg_ℤ (pos 16)) t) _ e in
    omega (arith, le_z-true (neg_ℤ (pos 16)) t h.0, le_z-true t (pos 16) h.1, pos-neg (pos 16), neg-neg (pos 16), abs-parts t, one-part t)

pub inside-zero : (z : ℤ) → inside 0 z ≡ true → z ≡ pos 0
unfolding inside
inside-zero z e = parts-eq (let h = leb-true (nat_abs z) 0 e in omega (arith, abs-parts z))

tap-off : (c : Bool) (z : ℤ) → cond (c && true) true (inside 0 z) ≡ true → c ≡ false → z ≡ pos 0
tap-off true z e n = clash true refl n
tap-off false z e n = inside-zero z e

-- the limit and the zero of a column of a regulator's row
column : (p : List ℤ) → branch_in R p ≡ true → (j : ℕ) → T (ltb j 12) → in_limit (column_of R p (1 + j)) (nth p (1 + j)) ≡ true
column p e j t = column-in R p e j (ltb→lt j 12 t)

due : (f : Phases) (p : List ℤ) → zeros R f p ≡ true → (j : ℕ) → T (ltb j 12) → zero_if_due f (column_of R p (1 + j)) (nth p (1 + j)) ≡ true
unfolding zeros
due f p z j t = count-true (λ j. zero_if_due f (column_of R p j) (nth p j)) 1 12 z j (ltb→lt j 12 t)

kind-taps : (k : Kind) (f : Phases) (p : List ℤ) → branch_in k p ≡ true → zeros k f p ≡ true → TapsIn f (taps_on (device_of k p))
unfolding device_of column_of all
kind-taps L f p e z = no-taps-in f
kind-taps Y f p e z = no-taps-in f
kind-taps D f p e z = no-taps-in f
kind-taps R f p e z = record { small = s; off = o }
  where
    s : (q : Phase) → nat_abs (tap_at (record { a = nth p 1; b = nth p 2; c = nth p 3 }) q) ≤ 16
    s A = tap-small (nth p 1) (column p e 0 tt)
    s B = tap-small (nth p 2) (column p e 1 tt)
    s C = tap-small (nth p 3) (column p e 2 tt)

    o : (q : Phase) → has f q ≡ false → tap_at (record { a = nth p 1; b = nth p 2; c = nth p 3 }) q ≡ pos 0
    o A n = tap-off f.a (nth p 1) (due f p z 0 tt) n
    o B n = tap-off f.b (nth p 2) (due f p z 1 tt) n
    o C n = tap-off f.c (nth p 3) (due f p z 2 tt) n

pub sound-taps : (s : List ℕ) (f : Feeder) → Sound s f → (k : ℕ) → k < row_count f → TapsIn (branch_at f (suc k)).phases (taps_on (branch_at f (suc k)).device)
unfolding not_zero
sound-taps s f w = subst (λ (g : Feeder). (k : ℕ) → k < row_count g → TapsIn (branch_at g (suc k)).phases (taps_on (branch_at g (suc k)).device)) w.made one
  where
    zero_in : (k : ℕ) (d : BranchRow) → k < length w.rows.branches → let b = get_or w.rows.branches k d in zeros b.kind b.phases b.p ≡ true
    zero_in k d q = not-false _ (none-bad (λ k b. not (zeros b.kind b.phases b.p)) 4 1 w.rows.branches d w.t24 k q)

    one : (k : ℕ) → k < row_count (feeder_of w.rows) → TapsIn (branch_at (feeder_of w.rows) (suc k)).phases (taps_on (branch_at (feeder_of w.rows) (suc k)).device)
    one k q =
        let n : k < length w.rows.branches = rw (row-count w.rows) at q in
        let d : BranchRow = row_of w.rows.branches (omega arith) in
        let b = get_or w.rows.branches k d in
        rw (branch-is w.rows k n d) (kind-taps b.kind b.phases b.p (branch-in s f w k n d) (zero_in k d n))

-- ---- each regulator stands at one place of the table: the row at that place finds it again
all_from : (a n : ℕ) (c : ℕ → Bool) → All (λ k. a ≤ k) (chosen c (tab (λ i. i) a n))
unfolding tab
all_from a n c = all-chosen (λ k. a ≤ k) c (tab (λ i. i) a n) (go a n)
  where
    go : (b n : ℕ) → All (λ k. c k ≡ true → b ≤ k) (tab (λ i. i) b n)
    go b zero = tt
    go b (suc n) = ((λ e. omega arith), all_map (tab (λ i. i) (b + 1) n) (λ k h e. let z = h e in omega arith) (go (b + 1) n))

one_place : (c : ℕ → Bool) (a n i : ℕ) → i < length (chosen c (tab (λ k. k) a n)) → place_of (get_or (chosen c (tab (λ k. k) a n)) i 0) (chosen c (tab (λ k. k) a n)) ≡ i
unfolding tab chosen place_of
one_place c a zero i q = absurd (omega arith)
one_place c a (suc n) i q = go (c a) i q (one_place c (a + 1) n)
  where
    rest : List ℕ
    rest = chosen c (tab (λ k. k) (a + 1) n)

    go : (d : Bool) (i : ℕ) → i < length (cond d (a ∷ rest) rest) → ((j : ℕ) → j < length rest → place_of (get_or rest j 0) rest ≡ j)
        → place_of (get_or (cond d (a ∷ rest) rest) i 0) (cond d (a ∷ rest) rest) ≡ i
    go true zero q next = rw (eq-eqb a a refl)
    go true (suc i) q next =
        let far = all-at (λ k. a + 1 ≤ k) rest (all_from (a + 1) n c) i 0 (omega arith) in
        rw (ne_eqb (get_or rest i 0) a (λ z. omega arith)) (ap suc (next i (omega arith)))
    go false i q next = next i q

pub place-regulator : (f : Feeder) (i : ℕ) → i < length (regulators f) → place_of (get_or (regulators f) i 0) (regulators f) ≡ i
unfolding regulators count
place-regulator f i q = one_place (λ k. regulates (branch_at f k).device) 1 (row_count f) i q
