-- A report that is read with its feeder's own taps, as one filed without their table (02, S-5): the check is what it was before. Assumes nothing.
use Rattle.std.specs.Prelude.{false, true, List, map, ◌≡◌, refl, ◌-ℤ◌, eqb, get_or, None, Ok, Err}
use Rattle.std.proofs.Math.Bool.{not}
use Rattle.std.proofs.Math.Path.{ap}
use Prim.Native.Nat.{◌*◌, ◌+◌, ◌-◌, ◌<◌, suc, ℕ}
use native.Mathlib.Omega.{arith}
use Rattle.std.proofs.Math.IntN.{+ℤ_invr}
use borrow.Author.Tests.{eq-eqb, not-false}
use Rattle.answers.specs.Answers.{Done, Outcome, ◌>>◌, done, refuse_at}
use Rattle.answers.specs.declared.Refusal.TheVariants.{TapDiffers}
use Rattle.compare.specs.Differences.{first_tap_row, name_at_node, stays_at, tap_differs}
use Rattle.equations.specs.Taps.{same_taps}
use Rattle.feeder.specs.Feeder.{Feeder, branch_at, level_of, reading, regulates, regulators, row_count, rows_of, tap_at, taps_on, too_long}
use Rattle.feeder.specs.RowLaws.{none_found, true-each}
use Rattle.feeder.proofs.TapLaws.{all-chosen, retapped-self}
use Rattle.feeder.specs.Phased.{Taps}
use Rattle.integers.specs.ListLaws.{all-at, all-count, any_false, get_or_map, tab-all}
use Rattle.integers.specs.Lists.{All, any, count}
use Rattle.integers.specs.Pairs.{inside}
use Rattle.report.specs.Report.{Reported, no_row, report_of, tap_row}
use Rattle.report.proofs.ReportTaps.{rows-feeder}
use Rattle.verdicts.specs.Check.{checked, compared}
use Rattle.report.proofs.ReportRows.{rows-match}
use Rattle.text.specs.Lines.{word_of}

module _ (f : Feeder) (r : Reported) (own : r.taps ≡ map (tap_row f) (regulators f)) (fixed : any (λ k. not (inside 0 (level_of (branch_at f k).device))) (rows_of f) ≡ false) where
  same-taps : (t : Taps) → same_taps t t ≡ true
  unfolding inside
  same-taps t = true-each (λ p. inside 0 (tap_at t p -ℤ tap_at t p)) (λ p. rw (+ℤ_invr (tap_at t p)))

  level-zero : (j : ℕ) → j < row_count f → inside 0 (level_of (branch_at f (suc j)).device) ≡ true
  unfolding count
  level-zero j q = let z : 1 + j ≡ suc j = omega arith in not-false _ (rw z at (tab-all (λ k. not (inside 0 (level_of (branch_at f k).device)) ≡ false) (λ i. i) 1 (row_count f) (any_false _ (rows_of f) fixed) j q))

  pub stays : (j : ℕ) → j < row_count f → stays_at f r (suc j) ≡ true
  unfolding stays_at
  stays j q = rw (rows-feeder f f (retapped-self f) r own, level-zero j q) (same-taps (taps_on (branch_at f (suc j)).device))

  none_moves : tap_differs f r ≡ None
  unfolding tap_differs regulators
  none_moves =
      let all_stay : All (λ k. stays_at f r k ≡ true) (regulators f) = all-chosen _ (λ k. regulates (branch_at f k).device) (rows_of f) (all-count _ 1 (row_count f) (λ j q e. let z : 1 + j ≡ suc j = omega arith in rw z (stays j q))) in
      none_found (λ j k. not (stays_at f r k)) (2 * row_count f + 9) 1 (regulators f) (λ j d q. ap not (all-at (λ k. stays_at f r k ≡ true) (regulators f) all_stay j d q))

  -- 51 finds no name of the last table
  own-names : first_tap_row f (λ j k. not (eqb (word_of (get_or r.taps (j - 1) no_row) 0) (name_at_node f k))) ≡ None
  unfolding tap_row
  own-names = none_found (λ j k. not (eqb (word_of (get_or r.taps (j - 1) no_row) 0) (name_at_node f k))) (2 * row_count f + 9) 1 (regulators f)
      (λ j d q. let z : 1 + j - 1 ≡ j = omega arith in
      rw (z, own, get_or_map (tap_row f) (regulators f) j d no_row q) (ap not (eq-eqb (name_at_node f (get_or (regulators f) j d)) _ refl)))

-- ---- "A report filed without that table": it is compared with the feeder itself, as before 02's S-5, and 56 is no answer
pub unfiled-checks : (s t : List ℕ) (f : Feeder) (r : Reported) → too_long t ≡ false → reading s ≡ Ok f → report_of f t ≡ Ok r → r.filed ≡ false → checked s t ≡ compared f r
unfolding checked
unfiled-checks s t f r l e g n =
    let own = (rows-match f t r g).own n in
    rw (l, e, g, rows-feeder f f (retapped-self f) r own.1, none_moves f r own.1 own.0) (same (compared f r))
  where
    same : (x : Outcome Done) → (x >> (refuse_at TapDiffers None >> Ok done)) ≡ x
    same (Ok done) = refl
    same (Err y) = refl

-- and 51 is of the nodes' and the branches' names alone
pub unfiled-names : (t : List ℕ) (f : Feeder) (r : Reported) → report_of f t ≡ Ok r → r.filed ≡ false
    → first_tap_row f (λ j k. not (eqb (word_of (get_or r.taps (j - 1) no_row) 0) (name_at_node f k))) ≡ None
unfiled-names t f r g n = let own = (rows-match f t r g).own n in own-names f r own.1 own.0
