-- The last table from its rows, or from the feeder where it is missing, and the test of its taps. Assumes nothing.
use Rattle.std.specs.Prelude.{Bool, false, not, true, List, map, ◌≡◌, ◌+◌, ℕ, drop, get_or, length, Err}
use Rattle.std.proofs.Common.{◌∙◌, ap, subst, eq-eqb, ne_eqb}
use Rattle.std.proofs.Math.Path.{refl, sym}
use Rattle.std.proofs.lemmas.Bool.{not-false, not-true}
use Rattle.answers.specs.Answers.{Outcome}
use Rattle.answers.specs.declared.Refusal.TheVariants.{ReportLayout}
use Rattle.feeder.specs.Feeder.{Feeder, no_branch, no_taps, regulators, row_count, taps_on}
use Rattle.feeder.specs.Network.{branch_array, kept}
use Rattle.feeder.specs.declared.Network.{Network}
use Rattle.feeder.specs.Phased.{Taps}
use Rattle.report.specs.Report.{tap_rows, tap_table, unfiled_taps}
use Rattle.report_reader.specs.Read.{FeederShown, LastIs, fitting, last_taps}
use Rattle.tap_table.specs.FeederTaps.{fits-held, given-taps, levels-refused, own_held}
use Rattle.tap_table.specs.OwnRows.{OwnHeld, fits_from, given_taps, levels_from}
use Rattle.tap_table.specs.Regulators.{regulators-held, regulators_from}
use Rattle.tap_table.specs.TapTable.{TapsAre, TapsHeld}
use Rattle.text.specs.LineLaws.{text-missing, text-stands}
use Rattle.text.specs.Lines.{Row}
use Rattle.text.specs.Text.{begins, bytes}

-- what arrays that hold a feeder give is what the feeder gives
module _ (f : Feeder) (g : Network) (limit : ℕ) (h : FeederShown f g limit) (s : List ℕ) (at : ℕ) where
  -- ---- the report ends behind the totals
  missing : at ≡ length s → tap_rows f s at ≡ unfiled_taps f
  unfolding tap_rows
  missing e = rw (eq-eqb at (length s) e) refl

  level-is : levels_from g.branches 1 g.rows ≡ levels_from (branch_array f) 1 (row_count f)
  level-is = λ i. levels_from (h.branches i) 1 (h.rows i)

  own_is : (names : List ℕ) (taps : List Taps) → OwnHeld g.nodes g.branches (regulators_from g.branches 1 g.rows) names taps
      → OwnHeld (kept 0 201 f.nodes) (branch_array f) (regulators_from (branch_array f) 1 (row_count f)) names taps
  own_is names taps o = record {
    named = o.named ∙ (λ i. kept 0 201 (map (λ k. get_or (h.nodes i) k 0) (regulators_from (h.branches i) 1 (h.rows i))));
    held = o.held ∙ (λ i. kept no_taps 201 (map (λ k. taps_on (get_or (h.branches i) k no_branch).device) (regulators_from (h.branches i) 1 (h.rows i))));
  }

  pub taps-own : (r : Bool) (names : List ℕ) (taps : List Taps) → at ≡ length s → r ≡ not (levels_from g.branches 1 g.rows)
      → (r ≡ true → OwnHeld g.nodes g.branches (regulators_from g.branches 1 g.rows) names taps) → TapsAre (tap_rows f s at) r (length (regulators f)) names taps
  taps-own r names taps e d o =
      subst (λ (x : Outcome (List Row)). TapsAre x r (length (regulators f)) names taps) (sym (missing e)) (record {
        held = λ t. own_held f h.few-rows names taps (sym level-is ∙ not-true _ (sym d ∙ t)) (own_is names taps (o t));
        refusal = λ t. levels-refused f h.few-rows (sym level-is ∙ not-false _ (sym d ∙ t));
      })

  -- ---- it goes on
  module _ (n : at ≡ length s → ⊥) where
    pub taps-no-line : begins (bytes "\n") (drop at s) ≡ false → tap_rows f s at ≡ Err ReportLayout
    unfolding tap_rows
    taps-no-line e = rw (ne_eqb at (length s) n, text-missing ReportLayout "\n" s at e) refl

    filed : begins (bytes "\n") (drop at s) ≡ true → tap_rows f s at ≡ tap_table (length (regulators f)) (drop (at + 1) s)
    unfolding tap_rows bytes
    filed e = rw (ne_eqb at (length s) n, text-stands ReportLayout "\n" s at e) refl

    pub taps-filed : (r : Bool) (count : ℕ) (names : List ℕ) (taps : List Taps) → begins (bytes "\n") (drop at s) ≡ true → count ≡ length (regulators_from g.branches 1 g.rows)
        → TapsAre (tap_table count (drop (at + 1) s)) r count names taps → TapsAre (tap_rows f s at) r (length (regulators f)) names taps
    taps-filed r count names taps e c t =
        let z : count ≡ length (regulators f) = c ∙ (λ i. length (regulators_from (h.branches i) 1 (h.rows i))) ∙ ap length (regulators-held f h.few-rows) in
        subst (λ (x : Outcome (List Row)). TapsAre x r (length (regulators f)) names taps) (sym (filed e)) (subst (λ (k : ℕ). TapsAre (tap_table k (drop (at + 1) s)) r k names taps) z t)

  -- ---- the test of the taps
  pub last_none : tap_rows f s at ≡ Err ReportLayout → last_taps f s at ≡ Err ReportLayout
  unfolding last_taps
  last_none e = rw e refl

  pub last-is : (r : Bool) (names : List ℕ) (table taps : List Taps) → TapsHeld (tap_rows f s at) (length (regulators f)) names table → r ≡ fits_from g.branches table 1 g.rows
      → (r ≡ true → taps ≡ given_taps g.branches table g.rows) → LastIs f s at r names taps
  unfolding last_taps
  last-is r names table taps w e d = record {
    held = λ t. record {
      list = w.list;
      whole = w.whole;
      fit = sym fits ∙ t;
      named = w.named;
      held = d t ∙ (λ i. given_taps (h.branches i) table (h.rows i)) ∙ given-taps f h.few-rows w.list table w.counted w.held;
    };
    refusal = λ t. rw (w.whole, sym fits ∙ t) refl;
  }
    where
      fits : r ≡ fitting f w.list
      fits = e ∙ (λ i. fits_from (h.branches i) table 1 (h.rows i)) ∙ fits-held f h.few-rows w.list table w.counted w.held
