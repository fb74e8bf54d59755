-- 56 (02, S-5): the search finds the first row of the last table of which a tap could still move as wanted, or is not the feeder's where level is 0. Assumes
-- nothing.
use Rattle.std.specs.Prelude.{Bool, ◌⊎◌, ◌≡◌, leb, ◌*ℤ◌, ◌+ℤ◌, ◌-ℤ◌, nat_abs, ℤ, List, [], ◌∷◌, get_or, length, None}
use Rattle.std.proofs.Math.Bool.{cond, false, not, true}
use Rattle.std.proofs.Math.Logic.{inl, inr, ⊎_elim}
use Rattle.std.proofs.Common.{◌∙◌, subst, mul-le-mul, leb-true, ltb-true}
use Rattle.std.proofs.Math.Path.{ap, refl, sym}
use Prim.Native.Nat.{◌*◌, ◌+◌, ◌<◌, ◌≤◌, suc, ℕ}
use native.Mathlib.Omega.{arith}
use Rattle.std.proofs.Math.IntN.{+ℤ_invr, negsuc, pos}
use Rattle.std.specs.Int.Signed.{le_z}
use Rattle.std.proofs.lemmas.Bool.{not-true}
use Rattle.equations.specs.Equations.{at, zero3}
use Rattle.equations.specs.Taps.{moved_on, moved_tap, moved_taps, relay_voltage, rests_at, same_taps, stepped, wants_down, wants_up}
use Rattle.feeder.specs.Feeder.{Feeder, abc, branch_at, branch_in, centivolts, column_of, device_of, feeder_of, has, impedance, in_limit, level_of, no_phases, no_taps, ratio, regulates, regulators, row_count, rows_of, tap_at, tapped_branch}
use Rattle.feeder.specs.RowLaws.{false-some, some-false}
use Rattle.feeder.specs.declared.Phase.{Phase}
use Rattle.feeder.specs.Phased.{Phases, Taps, Three}
use Rattle.feeder.specs.declared.TapChanger.{TapChanger}
use Rattle.integers.specs.Bools.{both, clash, fails-test}
use Rattle.integers.specs.Lists.{All, all}
use Rattle.integers.specs.Pairs.{inside, square}
use Rattle.integers.specs.Whole.{le_z-true, one-part, parts, products}
use Rattle.integers.specs.declared.Pair.{Pair}
use Rattle.feeder.proofs.FeederLaws.{Sound, branch-is, row-count, row_of}
use Rattle.feeder.proofs.RowFacts.{branch-in, column-in}
use Rattle.feeder.proofs.TapLaws.{all-chosen, branch-tapped, count-tapped, inside-zero, place-regulator}
use Rattle.feeder.specs.declared.BranchRow.{BranchRow}
use Rattle.feeder.specs.declared.Device.TheVariants.{Line, Regulator, Transformer}
use Rattle.feeder.specs.declared.Kind.{Kind}
use Rattle.feeder.specs.declared.Kind.TheVariants.{D, L, R, Y}
use Rattle.integers.specs.ListLaws.{all-at, all-count, get_or-tab}
use Rattle.report.specs.Report.{Reported, reported_currents, reported_taps, reported_voltages, taps_given, with_reported}
use Rattle.report.proofs.ReportRows.{RowsMatch}
use Rattle.verdicts.specs.ReportFaults.{CanMove, Fault56, ReportRowAt, TapFault, taps_in}
use Rattle.verdicts.proofs.ReportFinds.{filed-where, index_same, only-taps, regulator, same-regulator, taps-find, taps_row}
use Rattle.text.specs.Lines.{nth}
use Rattle.feeder.specs.Pointing.{Finds}
use Rattle.feeder.proofs.Standing.{at-stands}
use Rattle.feeder.specs.declared.Device.{Device}
use Rattle.equations.proofs.TapMoves.{moved_at, tap-equal}
use Rattle.compare.specs.Differences.{stays_at, tap_differs}
use Rattle.verdicts.specs.Unfiled.{stays}

-- ---- no phase wants both ways: level and band are not negative
bracket-less : (level band : ℤ) → le_z (pos 0) level ≡ true → le_z (pos 0) band ≡ true → le_z (pos 0) (pos 2 *ℤ level -ℤ band) ≡ true
    → nat_abs (pos 2 *ℤ level -ℤ band) ≤ nat_abs (pos 2 *ℤ level +ℤ band)
bracket-less level band l b e =
    let p = le_z-true (pos 0) level l in
    let q = le_z-true (pos 0) band b in
    let r = simp products at (le_z-true (pos 0) (pos 2 *ℤ level -ℤ band) e) in
    simp products (omega arith)

pub one_way : (d : TapChanger) (r : Pair) → le_z (pos 0) d.level ≡ true → le_z (pos 0) d.band ≡ true → wants_up d r ≡ true → wants_down d r ≡ true → ⊥
unfolding wants_up wants_down
one_way d r l b up down =
    let u = both (le_z (pos 0) (pos 2 *ℤ d.level -ℤ d.band)) _ up in
    let h = bracket-less d.level d.band l b u.0 in
    let m = mul-le-mul h h in
    let low : ℤ = pos 2 *ℤ d.level -ℤ d.band in
    let high : ℤ = pos 2 *ℤ d.level +ℤ d.band in
    omega (arith, m, ltb-true (4 * square r) (nat_abs low * nat_abs low) u.1, ltb-true (nat_abs high * nat_abs high) (4 * square r) down)

-- ---- a tap that does not stay could move, and one that could does not stay
step-away : (tap step : ℤ) → nat_abs step ≡ 1 → inside 0 ((tap +ℤ step) -ℤ tap) ≡ false
unfolding inside
step-away tap step one = fails-test (leb (nat_abs ((tap +ℤ step) -ℤ tap)) 0) (leb-true (nat_abs ((tap +ℤ step) -ℤ tap)) 0)
    (λ (h : nat_abs ((tap +ℤ step) -ℤ tap) ≤ 0). let k = simp parts at h in let m = simp parts at one in omega (arith, one-part step, one-part tap))

zero-inside : (z : ℤ) → z ≡ pos 0 → inside 0 z ≡ true
unfolding inside
zero-inside z e = rw e

stay-here : (tap : ℤ) → inside 0 (tap -ℤ tap) ≡ true
unfolding inside
stay-here tap = rw (+ℤ_invr tap)

module _ (d : TapChanger) (r : Pair) (tap : ℤ) where
  abbrev Could : Type 0
  Could = ((wants_up d r ≡ true) × (inside 16 (tap +ℤ pos 1) ≡ true)) ⊎ ((wants_down d r ≡ true) × (inside 16 (tap -ℤ pos 1) ≡ true))

  moved-could : inside 0 (moved_tap d r tap -ℤ tap) ≡ false → Could
  unfolding moved_tap stepped
  moved-could e = go (wants_up d r) refl (wants_down d r) refl (inside 16 (tap +ℤ pos 1)) refl (inside 16 (tap +ℤ negsuc 0)) refl e
    where
      go : (u : Bool) → wants_up d r ≡ u → (w : Bool) → wants_down d r ≡ w → (p : Bool) → inside 16 (tap +ℤ pos 1) ≡ p → (q : Bool) → inside 16 (tap +ℤ negsuc 0) ≡ q
          → inside 0 (cond u (cond p (tap +ℤ pos 1) tap) (cond w (cond q (tap +ℤ negsuc 0) tap) tap) -ℤ tap) ≡ false → Could
      go true a w b true p q n e = inl (a, p)
      go true a w b false p q n e = clash _ (stay-here tap) e
      go false a true b p m true n e = inr (b, n)
      go false a true b p m false n e = clash _ (stay-here tap) e
      go false a false b p m q n e = clash _ (stay-here tap) e

  could-move : (wants_up d r ≡ true → wants_down d r ≡ true → ⊥) → Could → inside 0 (moved_tap d r tap -ℤ tap) ≡ false
  unfolding moved_tap stepped
  could-move one = ⊎_elim (λ h. rw (h.0, h.1) (step-away tap (pos 1) refl))
      (λ h. let n : wants_up d r ≡ false = fails-test (wants_up d r) (λ e. e) (λ e. one e h.0) in rw (n, h.0, h.1) (step-away tap (negsuc 0) refl))

first-false : (c a b : Bool) → c ≡ true → a ≡ false → cond c a b ≡ false
first-false c a b e h = rw e h

second-false : (c a b : Bool) → c ≡ false → b ≡ false → cond c a b ≡ false
second-false c a b e h = rw e h

-- a regulator with other taps
abbrev own : TapChanger → Taps → TapChanger
own d t = record { taps = t; level = d.level; band = d.band; potential = d.potential; current = d.current; z = d.z }

-- ---- of a regulator's row: which of its taps could move
module _ (d : TapChanger) (t : Taps) (f : Phases) (u i : Three) (regulating : inside 0 d.level ≡ false) where
  abbrev mine : TapChanger
  mine = own d t

  abbrev relay : Phase → Pair
  relay p = relay_voltage d (at u p) (at i p)

  move : Phase → ℤ
  move p = cond (has f p) (moved_tap mine (relay_voltage mine (at u p) (at i p)) (tap_at t p)) (tap_at t p)

  rests-phases : same_taps (moved_taps mine f u i) t ≡ all (λ p. inside 0 (move p -ℤ tap_at t p)) abc
  unfolding moved_taps move all
  rests-phases = rw regulating

  -- the relay does not read the taps
  same-wish : (p : Phase) → moved_tap mine (relay_voltage mine (at u p) (at i p)) (tap_at t p) ≡ moved_tap d (relay p) (tap_at t p)
  unfolding moved_tap wants_up wants_down relay_voltage
  same-wish p = refl

  phase-could : (p : Phase) → inside 0 (move p -ℤ tap_at t p) ≡ false → (has f p ≡ true) × Could d (relay p) (tap_at t p)
  unfolding move
  phase-could p e = go (has f p) refl e
    where
      go : (c : Bool) → has f p ≡ c → inside 0 (cond c (moved_tap mine (relay_voltage mine (at u p) (at i p)) (tap_at t p)) (tap_at t p) -ℤ tap_at t p) ≡ false → (has f p ≡ true) × Could d (relay p) (tap_at t p)
      go true h e = (h, moved-could d (relay p) (tap_at t p) (rw (same-wish p) at e))
      go false h e = clash _ (stay-here (tap_at t p)) e

  could-phase : (p : Phase) → (wants_up d (relay p) ≡ true → wants_down d (relay p) ≡ true → ⊥) → has f p ≡ true → Could d (relay p) (tap_at t p) → inside 0 (move p -ℤ tap_at t p) ≡ false
  unfolding move
  could-phase p one h c = rw (h, same-wish p) (could-move d (relay p) (tap_at t p) one c)

  pub row-could : same_taps (moved_taps mine f u i) t ≡ false → (p : Phase) × ((has f p ≡ true) × Could d (relay p) (tap_at t p))
  row-could e = let w = some-false (λ p. inside 0 (move p -ℤ tap_at t p)) (sym rests-phases ∙ e) in (w.0, phase-could w.0 w.1)

  pub could-row : (p : Phase) → (wants_up d (relay p) ≡ true → wants_down d (relay p) ≡ true → ⊥) → has f p ≡ true → Could d (relay p) (tap_at t p) → same_taps (moved_taps mine f u i) t ≡ false
  could-row p one h c = rests-phases ∙ false-some (λ p. inside 0 (move p -ℤ tap_at t p)) p (could-phase p one h c)

-- ---- of the feeder that is read, level and band of a regulator that moves are not negative
record NotNegative (d : TapChanger) : Type 0 where
  level : le_z (pos 0) d.level ≡ true
  band : inside 0 d.level ≡ false → le_z (pos 0) d.band ≡ true

kind-positive : (k : Kind) (p : List ℤ) → branch_in k p ≡ true → (d : TapChanger) → device_of k p ≡ Regulator d → NotNegative d
unfolding device_of column_of
kind-positive L p e d g = let z : ◌≡◌ {A = ℕ} 0 1 = cc in absurd (omega arith)
kind-positive Y p e d g = let z : ◌≡◌ {A = ℕ} 0 1 = cc in absurd (omega arith)
kind-positive D p e d g = let z : ◌≡◌ {A = ℕ} 0 1 = cc in absurd (omega arith)
kind-positive R p e d g =
    let l : nth p 4 ≡ d.level = cc in
    let b : nth p 5 ≡ d.band = cc in
    record {
      level = rw (← l) (both (le_z (pos 0) (nth p 4)) _ (column-in R p e 3 (omega arith))).0;
      band = λ n. rw (← b) (go (inside 0 (nth p 4)) (rw l n) (column-in R p e 4 (omega arith)));
    }
  where
    go : (c : Bool) → c ≡ false → in_limit (get_or (cond c [] (centivolts ∷ ratio ∷ ratio ∷ impedance no_phases ∷ impedance no_phases ∷ [])) 0 None) (nth p 5) ≡ true → le_z (pos 0) (nth p 5) ≡ true
    go true n h = clash true refl n
    go false n h = (both (le_z (pos 0) (nth p 5)) _ h).0

read-positive : (s : List ℕ) (f : Feeder) → Sound s f → (k : ℕ) → k < row_count f → (d : TapChanger) → (branch_at f (suc k)).device ≡ Regulator d → NotNegative d
read-positive s f w = subst (λ (g : Feeder). (k : ℕ) → k < row_count g → (d : TapChanger) → (branch_at g (suc k)).device ≡ Regulator d → NotNegative d) w.made one
  where
    one : (k : ℕ) → k < row_count (feeder_of w.rows) → (d : TapChanger) → (branch_at (feeder_of w.rows) (suc k)).device ≡ Regulator d → NotNegative d
    one k q d e =
        let n : k < length w.rows.branches = rw (row-count w.rows) at q in
        let r : BranchRow = row_of w.rows.branches (omega arith) in
        let b = get_or w.rows.branches k r in
        kind-positive b.kind b.p (branch-in s f w k n r) d (rw (branch-is w.rows k n r) at e)

-- ---- 56
module _ (s : List ℕ) (f : Feeder) (sound : Sound s f) (x : Reported) (sizes : RowsMatch f x) where
  abbrev reg : ℕ → ℕ
  reg i = regulator f x sizes i

  abbrev taps-of : ℕ → Taps
  taps-of i = taps_in (taps_row f x sizes i)

  -- the i-th regulator is a branch row
  record IsRow (k : ℕ) : Type 0 where
    row : ℕ
    next : k ≡ suc row
    among : row < row_count f
    is-regulator : regulates (branch_at f k).device ≡ true

  all-rows : All IsRow (regulators f)
  unfolding regulators
  all-rows = all-chosen IsRow (λ k. regulates (branch_at f k).device) (rows_of f)
      (all-count _ 1 (row_count f) (λ j q. let z : 1 + j ≡ suc j = omega arith in λ e. record { row = j; next = z; among = q; is-regulator = e }))

  regulator-row : (i : ℕ) → i < length (regulators f) → IsRow (reg i)
  regulator-row i q = all-at IsRow (regulators f) all-rows i 0 q

  given : (i : ℕ) → i < length (regulators f) → taps_given f x.taps (reg i) ≡ taps-of i
  unfolding taps_given
  given i q = rw (place-regulator f i q)

  reported-count : row_count (with_reported f x) ≡ row_count f
  unfolding with_reported
  reported-count = count-tapped (reported_taps f x) f

  -- the feeder with the reported taps has them there
  reported-branch : (i : ℕ) → i < length (regulators f) → branch_at (with_reported f x) (reg i) ≡ tapped_branch (taps-of i) (branch_at f (reg i))
  unfolding with_reported reported_taps
  reported-branch i q =
      let r = regulator-row i q in
      let z : 0 + reg i ≡ reg i = omega arith in
      branch-tapped (reported_taps f x) f (reg i)
      ∙ ap (λ (t : Taps). tapped_branch t (branch_at f (reg i))) (rw z at (get_or-tab (taps_given f x.taps) 0 (suc (row_count f)) (reg i) no_taps (omega (arith, r.next, r.among))) ∙ given i q)

  abbrev v : List Three
  v = reported_voltages x

  abbrev c : List Three
  c = reported_currents x

  -- where the i-th regulator is d: what `stays_at` tests
  module _ (i : ℕ) (q : i < length (regulators f)) (d : TapChanger) (device : (branch_at f (reg i)).device ≡ Regulator d) where
    level-is : level_of (branch_at f (reg i)).device ≡ d.level
    level-is = ap level_of device

    u : Three
    u = get_or v (reg i) zero3

    n : Three
    n = get_or c (reg i) zero3

    phases : Phases
    phases = (branch_at f (reg i)).phases

    stays-is : stays_at f x (reg i) ≡ cond (inside 0 d.level) (same_taps (taps-of i) d.taps) (same_taps (moved_taps (own d (taps-of i)) phases u n) (taps-of i))
    unfolding stays_at rests_at moved_on u n phases
    stays-is =
        let r = regulator-row i q in
        let few : reg i < suc (row_count (with_reported f x)) = omega (arith, r.next, r.among, reported-count) in
        rw (moved_at (with_reported f x) v c (reg i) few, reported-branch i q, device)

    -- a row that does not stay has the fault, and one that has it does not stay
    fault-of : stays_at f x (reg i) ≡ false → TapFault f x (suc i) (taps_row f x sizes i)
    unfolding u n phases
    fault-of e = go (inside 0 d.level) refl (sym stays-is ∙ e)
      where
        go : (b : Bool) → inside 0 d.level ≡ b → cond b (same_taps (taps-of i) d.taps) (same_taps (moved_taps (own d (taps-of i)) phases u n) (taps-of i)) ≡ false → TapFault f x (suc i) (taps_row f x sizes i)
        go true z e =
            let w = some-false (λ p. inside 0 (tap_at (taps-of i) p -ℤ tap_at d.taps p)) e in
            record {
              branch = reg i;
              changer = d;
              regulator = at-stands (regulators f) i 0 q;
              device = device;
              phase = w.0;
              fault = inl (inside-zero d.level z, λ h. clash _ (rw h (stay-here (tap_at d.taps w.0))) w.1);
            }
        go false z e =
            let w = row-could d (taps-of i) phases u n z e in
            record {
              branch = reg i;
              changer = d;
              regulator = at-stands (regulators f) i 0 q;
              device = device;
              phase = w.0;
              fault = inr (λ h. clash (inside 0 d.level) (zero-inside d.level h) z, (w.1.0, w.1.1));
            }

    of-fault : TapFault f x (suc i) (taps_row f x sizes i) → stays_at f x (reg i) ≡ false
    unfolding u n phases
    of-fault w = stays-is ∙ go w.fault
      where
        here : w.branch ≡ reg i
        here = sym (same-regulator f x sizes i w.branch w.regulator)

        same-changer : w.changer ≡ d
        same-changer = let e : Regulator w.changer ≡ Regulator d = sym w.device ∙ ap (λ (k : ℕ). (branch_at f k).device) here ∙ device in cc

        positive : NotNegative d
        positive = let r = regulator-row i q in read-positive s f sound r.row r.among d (ap (λ (k : ℕ). (branch_at f k).device) (sym r.next) ∙ device)

        go : ((w.changer.level ≡ pos 0) × (tap_at (taps-of i) w.phase ≡ tap_at w.changer.taps w.phase → ⊥))
            ⊎ ((w.changer.level ≡ pos 0 → ⊥) × ((has (branch_at f w.branch).phases w.phase ≡ true) × CanMove x w.branch w.changer w.phase (tap_at (taps-of i) w.phase)))
            → cond (inside 0 d.level) (same_taps (taps-of i) d.taps) (same_taps (moved_taps (own d (taps-of i)) phases u n) (taps-of i)) ≡ false
        go = ⊎_elim
            (λ h. let l : d.level ≡ pos 0 = ap (λ (k : TapChanger). k.level) (sym same-changer) ∙ h.0 in
            first-false (inside 0 d.level) _ _ (zero-inside d.level l) (false-some (λ p. inside 0 (tap_at (taps-of i) p -ℤ tap_at d.taps p)) w.phase
            (fails-test _ (tap-equal (tap_at (taps-of i) w.phase) (tap_at d.taps w.phase)) (λ e. h.1 (e ∙ ap (λ (k : TapChanger). tap_at k.taps w.phase) (sym same-changer))))))
            (λ h.
            let l : inside 0 d.level ≡ false = fails-test (inside 0 d.level) (inside-zero d.level) (λ e. h.0 (ap (λ (k : TapChanger). k.level) same-changer ∙ e)) in
            let y : (has (branch_at f (reg i)).phases w.phase ≡ true) × CanMove x (reg i) d w.phase (tap_at (taps-of i) w.phase)
            = subst (λ (k : TapChanger). (has (branch_at f (reg i)).phases w.phase ≡ true) × CanMove x (reg i) k w.phase (tap_at (taps-of i) w.phase)) same-changer
            (subst (λ (k : ℕ). (has (branch_at f k).phases w.phase ≡ true) × CanMove x k w.changer w.phase (tap_at (taps-of i) w.phase)) here h.1) in
            second-false (inside 0 d.level) _ _ l (could-row d (taps-of i) phases u n l w.phase (one_way d _ positive.level (positive.band l)) y.0 y.1))

  -- the i-th regulator, whichever it is
  changer-of : (k : ℕ) → regulates (branch_at f k).device ≡ true → (d : TapChanger) × ((branch_at f k).device ≡ Regulator d)
  changer-of k e = go (branch_at f k).device refl e
    where
      go : (y : Device) → (branch_at f k).device ≡ y → regulates y ≡ true → (d : TapChanger) × ((branch_at f k).device ≡ Regulator d)
      go (Line z) g e = clash false e refl
      go (Regulator d) g e = (d, g)
      go (Transformer w) g e = clash false e refl

  not-stays : (i : ℕ) → i < length (regulators f) → TapFault f x (suc i) (taps_row f x sizes i) → stays_at f x (reg i) ≡ false
  not-stays i q w = let d = changer-of (reg i) (regulator-row i q).is-regulator in of-fault i q d.0 d.1 w

  -- of a report without the last table no tap is off
  filed : (i : ℕ) → i < length (regulators f) → TapFault f x (suc i) (taps_row f x sizes i) → x.filed ≡ true
  filed i q = filed-where f x sizes (λ e w.
      let r = regulator-row i q in
      clash (stays_at f x (reg i)) (ap (stays_at f x) r.next ∙ stays f x (sizes.own e).1 (sizes.own e).0 r.row r.among) (not-stays i q w))

  pub finds-56 : Finds (tap_differs f x) (ReportRowAt Fault56 f x)
  unfolding tap_differs
  finds-56 = only-taps f x sizes (λ i h. h) (λ i h. h) filed (index_same
      (λ i q h. let d = changer-of (reg i) (regulator-row i q).is-regulator in fault-of i q d.0 d.1 (not-true _ h))
      (λ i q h. ap not (not-stays i q h))
      (taps-find f x sizes (λ j k. not (stays_at f x k))))
