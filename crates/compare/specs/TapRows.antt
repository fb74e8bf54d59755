-- Tests over the rows of a report's last table, made branch row by branch row with a count of the regulators; and taps after a move. Assumes nothing.
use Rattle.std.specs.Prelude.{Bool, ◌&&◌, cond, false, true, ◌≡◌, refl, ℕ, Option, Some, None}
use mathlib.Core.List.{List, ◌∷◌}
use Rattle.std.proofs.Common.{◌∙◌}
use Prim.Native.Nat.{◌*◌, ◌+◌, ◌-◌, ◌<◌, ◌≤◌, suc, zero, ℕ}
use native.Mathlib.Omega.{arith}
use Rattle.equations.specs.Limits.{DeviceOk, TapsOk}
use Rattle.equations.specs.Taps.{moved_on, moved_taps, same_taps}
use Rattle.feeder.specs.Feeder.{first_row, no_taps, regulator_of, taps_on}
use Rattle.feeder.specs.declared.Branch.{Branch}
use Rattle.feeder.specs.declared.Device.{Device}
use Rattle.feeder.specs.declared.Device.TheVariants.{Line, Regulator, Transformer}
use Rattle.feeder.specs.Phased.{Three}
use Rattle.feeder.specs.declared.TapChanger.{TapChanger}
use Rattle.integers.specs.Bools.{clash}
use Rattle.integers.specs.Lists.{all, chosen, count, tab}
use Rattle.integers.specs.Pairs.{inside}
use Rattle.tap_table.specs.Regulators.{regulates_in, regulators_from}
use Rattle.compare.specs.Compare.{tap_scan}

-- ---- one branch row
module _ (bad : ℕ → ℕ → Bool) (bs : List Branch) (rows : ℕ) where
  pub tap-row : (k j : ℕ) → k ≤ rows → tap_scan bad bs rows k j ≡ cond (regulates_in bs k) (cond (bad (j + 1) k) (Some (2 * rows + 9 + (j + 1))) (tap_scan bad bs rows (k + 1) (j + 1))) (tap_scan bad bs rows (k + 1) j)
  unfolding regulators_from count tab chosen first_row
  tap-row k j h =
      let e : suc rows - k ≡ suc (suc rows - (k + 1)) = omega arith in
      rw e (go (regulates_in bs k))
    where
      rest : List ℕ
      rest = chosen (regulates_in bs) (tab (λ i. i) (k + 1) (suc rows - (k + 1)))

      go : (d : Bool) → first_row bad (2 * rows + 9) (j + 1) (cond d (k ∷ rest) rest) ≡ cond d (cond (bad (j + 1) k) (Some (2 * rows + 9 + (j + 1))) (first_row bad (2 * rows + 9) ((j + 1) + 1) rest)) (first_row bad (2 * rows + 9) (j + 1) rest)
      go true = refl
      go false = refl

  -- a regulator's row fails the test: it is the first; or it does not fail; or the row is no regulator's
  pub tap-found : (k j : ℕ) → k ≤ rows → regulates_in bs k ≡ true → bad (j + 1) k ≡ true → tap_scan bad bs rows k j ≡ Some (2 * rows + 9 + (j + 1))
  tap-found k j h e f = tap-row k j h ∙ (λ i. cond (e i) (cond (f i) (Some (2 * rows + 9 + (j + 1))) (tap_scan bad bs rows (k + 1) (j + 1))) (tap_scan bad bs rows (k + 1) j))

  pub tap-passed : (k j : ℕ) → k ≤ rows → regulates_in bs k ≡ true → bad (j + 1) k ≡ false → tap_scan bad bs rows k j ≡ tap_scan bad bs rows (k + 1) (j + 1)
  tap-passed k j h e f = tap-row k j h ∙ (λ i. cond (e i) (cond (f i) (Some (2 * rows + 9 + (j + 1))) (tap_scan bad bs rows (k + 1) (j + 1))) (tap_scan bad bs rows (k + 1) j))

  pub tap-other : (k j : ℕ) → k ≤ rows → regulates_in bs k ≡ false → tap_scan bad bs rows k j ≡ tap_scan bad bs rows (k + 1) j
  tap-other k j h e = tap-row k j h ∙ (λ i. cond (e i) (cond (bad (j + 1) k) (Some (2 * rows + 9 + (j + 1))) (tap_scan bad bs rows (k + 1) (j + 1))) (tap_scan bad bs rows (k + 1) j))

  -- both that pass on, in one
  pub tap-next : (k j : ℕ) → k ≤ rows → (regulates_in bs k && bad (j + 1) k) ≡ false → tap_scan bad bs rows k j ≡ tap_scan bad bs rows (k + 1) (j + cond (regulates_in bs k) 1 0)
  tap-next k j h e = tap-row k j h ∙ go (regulates_in bs k) (bad (j + 1) k) _ e
    where
      go : (c d : Bool) (x : Option ℕ) → (c && d) ≡ false → cond c (cond d x (tap_scan bad bs rows (k + 1) (j + 1))) (tap_scan bad bs rows (k + 1) j) ≡ tap_scan bad bs rows (k + 1) (j + cond c 1 0)
      go true true x e = clash true refl e
      go true false x e = refl
      go false d x e = let z : j + 0 ≡ j = omega arith in rw z

  pub tap-none : (k j : ℕ) → rows < k → tap_scan bad bs rows k j ≡ None
  unfolding regulators_from count tab chosen first_row
  tap-none k j h =
      let e : suc rows - k ≡ 0 = omega arith in
      rw e

-- two tests that are one at every row: row m has fewer than m regulators before it
pub same-tap-rows : (p q : ℕ → ℕ → Bool) (bs : List Branch) (rows : ℕ) → ((i m : ℕ) → i < m → m ≤ rows → p (i + 1) m ≡ q (i + 1) m) → tap_scan p bs rows 1 0 ≡ tap_scan q bs rows 1 0
unfolding regulators_from count tab chosen first_row
same-tap-rows p q bs rows h = go (suc rows - 1) 1 0 (omega arith) (omega arith)
  where
    go : (n k j : ℕ) → k + n ≤ suc rows → j < k → first_row p (2 * rows + 9) (j + 1) (chosen (regulates_in bs) (tab (λ i. i) k n)) ≡ first_row q (2 * rows + 9) (j + 1) (chosen (regulates_in bs) (tab (λ i. i) k n))
    go zero k j s l = refl
    go (suc n) k j s l = one (regulates_in bs k) (go n (k + 1) (j + 1) (omega arith) (omega arith)) (go n (k + 1) j (omega arith) (omega arith))
      where
        rest : List ℕ
        rest = chosen (regulates_in bs) (tab (λ i. i) (k + 1) n)

        one : (d : Bool) → first_row p (2 * rows + 9) ((j + 1) + 1) rest ≡ first_row q (2 * rows + 9) ((j + 1) + 1) rest → first_row p (2 * rows + 9) (j + 1) rest ≡ first_row q (2 * rows + 9) (j + 1) rest →
            first_row p (2 * rows + 9) (j + 1) (cond d (k ∷ rest) rest) ≡ first_row q (2 * rows + 9) (j + 1) (cond d (k ∷ rest) rest)
        one true a b = rw (h j k l (omega arith), a)
        one false a b = b

-- ---- taps
pub taps-ok : (d : Device) → DeviceOk d → TapsOk (taps_on d)
taps-ok (Line z) h = record { a = omega arith; b = omega arith; c = omega arith }
taps-ok (Regulator x) h = h.taps
taps-ok (Transformer x) h = record { a = omega arith; b = omega arith; c = omega arith }

-- a regulator's taps and those after a move; a line and a transformer have none
module _ (b : Branch) (u i : Three) where
  pub no-taps-rest : regulator_of b.device ≡ None → same_taps (moved_on b u i) (taps_on b.device) ≡ true
  unfolding moved_on all inside
  no-taps-rest = go b.device
    where
      go : (d : Device) → regulator_of d ≡ None → same_taps (elim d [ Line z ↦ no_taps | Regulator x ↦ moved_taps x b.phases u i | Transformer x ↦ no_taps ]) (taps_on d) ≡ true
      go (Line z) e = refl
      go (Regulator x) e = cc
      go (Transformer x) e = refl

  pub regulator-rests : {x : TapChanger} → regulator_of b.device ≡ Some x → same_taps (moved_taps x b.phases u i) x.taps ≡ same_taps (moved_on b u i) (taps_on b.device)
  unfolding moved_on
  regulator-rests {x} = go b.device
    where
      go : (d : Device) → regulator_of d ≡ Some x → same_taps (moved_taps x b.phases u i) x.taps ≡ same_taps (elim d [ Line z ↦ no_taps | Regulator y ↦ moved_taps y b.phases u i | Transformer y ↦ no_taps ]) (taps_on d)
      go (Line z) e = cc
      go (Regulator y) e = let z : y ≡ x = cc in rw z
      go (Transformer y) e = cc
