-- A report that is read has taps within ±16, and 0 on absent phases: its feeder with them keeps its form. Assumes nothing.
use Rattle.std.specs.Prelude.{Bool, ◌&&◌, cond, false, List, map, ◌≡◌, pos, get_or, length, Ok}
use Rattle.std.proofs.Math.Bool.{true}
use Rattle.std.proofs.Common.{◌∙◌, ap, sym, leb-true}
use Rattle.std.proofs.Math.Path.{refl}
use Prim.Native.Nat.{◌+◌, ◌<◌, suc, ℕ}
use native.Mathlib.Omega.{arith}
use Rattle.std.proofs.lemmas.Bool.{not-false}
use Rattle.feeder.specs.Feeder.{Feeder, branch_at, has, no_taps, place_of, regulates, regulators, row_count, tap_at, tapped, taps_on}
use Rattle.feeder.proofs.RowFacts.{Formed}
use Rattle.feeder.specs.RowLaws.{each-true}
use Rattle.feeder.proofs.TapLaws.{Retapped, TapsIn, all-place, branch-tapped, get_or-place, inside-zero, no-taps-in, regulates-same, regulator-place, regulators-same, retapped-eq, retapped-formed, retapped-self, retapped-with}
use Rattle.feeder.specs.declared.Device.{Device}
use Rattle.feeder.specs.declared.Device.TheVariants.{Line, Regulator, Transformer}
use Rattle.feeder.specs.declared.Phase.{Phase}
use Rattle.feeder.specs.Phased.{Phases, Taps}
use Rattle.integers.specs.Bools.{both, clash}
use Rattle.integers.specs.ListLaws.{all_true, get_or-tab}
use Rattle.integers.specs.Lists.{All}
use Rattle.integers.specs.Pairs.{inside}
use Rattle.report.specs.Report.{Reported, no_row, report_of, reported_taps, tap_row, taps_fit, taps_given, with_reported}
use Rattle.report.proofs.ReportRows.{report-parts}
use Rattle.text.specs.Lines.{Row, nth}

-- ---- the rows of a feeder's own taps, read by a feeder that differs in its taps alone
abbrev taps_of : Row → Taps
taps_of x = record { a = nth x.values 1; b = nth x.values 2; c = nth x.values 3 }

pub given-rows : (e f : Feeder) → Retapped e f → (j : ℕ) → j < row_count e → regulates (branch_at e (suc j)).device ≡ true → taps_given e (map (tap_row f) (regulators f)) (suc j) ≡ taps_on (branch_at f (suc j)).device
unfolding taps_given tap_row
given-rows e f h j q r =
    let n : j < row_count f = rw h.rows q in
    let p : place_of (suc j) (regulators f) < length (regulators f) = regulator-place f j n (regulates-same h (suc j) ∙ r) in
    ap (λ (l : List ℕ). taps_of (get_or (map (tap_row f) (regulators f)) (place_of (suc j) l) no_row)) (sym (regulators-same h)) ∙ ap taps_of (get_or-place (tap_row f) (suc j) (regulators f) no_row p)

-- the feeder with the taps that such rows give
pub rows-feeder : (e f : Feeder) → Retapped e f → (r : Reported) → r.taps ≡ map (tap_row f) (regulators f) → with_reported e r ≡ f
unfolding with_reported reported_taps
rows-feeder e f h r t = retapped-eq e f h _ (λ j q g. let z : 0 + suc j ≡ suc j = omega arith in
    rw z at (get_or-tab (taps_given e r.taps) 0 (suc (row_count e)) (suc j) no_taps (omega arith)) ∙ rw t (given-rows e f h j q g))

-- ---- the taps
fits_in : (f : Phases) (t : Taps) → taps_fit f t ≡ true → TapsIn f t
unfolding taps_fit inside
fits_in f t e = record { small = λ p. leb-true _ _ (both (inside 16 (tap_at t p)) _ (at p)).0; off = λ p n. go p (has f p) (both (inside 16 (tap_at t p)) _ (at p)).1 n }
  where
    at : (p : Phase) → (inside 16 (tap_at t p) && cond (has f p) true (inside 0 (tap_at t p))) ≡ true
    at p = each-true (λ p. inside 16 (tap_at t p) && cond (has f p) true (inside 0 (tap_at t p))) e p

    go : (p : Phase) (c : Bool) → cond c true (inside 0 (tap_at t p)) ≡ true → c ≡ false → tap_at t p ≡ pos 0
    go p true h n = clash true refl n
    go p false h n = inside-zero (tap_at t p) h

module _ (f : Feeder) (s : List ℕ) (r : Reported) (e : report_of f s ≡ Ok r) where
  given-in : (k : ℕ) → k < row_count f → regulates (branch_at f (suc k)).device ≡ true → TapsIn (branch_at f (suc k)).phases (taps_given f r.taps (suc k))
  given-in k q g =
      let w = report-parts f s r e in
      let h : All (λ j. taps_fit (branch_at f j).phases (taps_given f r.taps j) ≡ true) (regulators f) = all_true _ (regulators f) (not-false _ w.taps-in) in
      fits_in _ _ (all-place (λ j. taps_fit (branch_at f j).phases (taps_given f r.taps j) ≡ true) (suc k) (regulators f) h (regulator-place f k q g))

  -- the feeder with the reported taps differs in its taps alone, and these are within ±16
  pub reported-retapped : Retapped f (with_reported f r)
  unfolding with_reported
  reported-retapped = retapped-with f f (reported_taps f r) (retapped-self f)

  pub reported-within : (k : ℕ) → k < row_count f → TapsIn (branch_at f (suc k)).phases (taps_on (branch_at (with_reported f r) (suc k)).device)
  unfolding with_reported reported_taps
  reported-within k q =
      let z : 0 + suc k ≡ suc k = omega arith in
      rw (branch-tapped (reported_taps f r) f (suc k), get_or-tab (taps_given f r.taps) 0 (suc (row_count f)) (suc k) no_taps (omega arith), z) (go (branch_at f (suc k)).device (given-in k q))
    where
      go : (d : Device) → (regulates d ≡ true → TapsIn (branch_at f (suc k)).phases (taps_given f r.taps (suc k))) → TapsIn (branch_at f (suc k)).phases (taps_on (tapped (taps_given f r.taps (suc k)) d))
      go (Line z) h = no-taps-in (branch_at f (suc k)).phases
      go (Regulator x) h = h refl
      go (Transformer x) h = no-taps-in (branch_at f (suc k)).phases

  pub reported-formed : Formed f → Formed (with_reported f r)
  reported-formed w = retapped-formed f (with_reported f r) reported-retapped reported-within w
