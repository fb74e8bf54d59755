-- The rows of the last table, read one after the other into arrays, and the report's end behind them. Assumes nothing.
use Rattle.std.specs.Prelude.{Bool, eqb, refl, false, true, List, [], ◌++◌, ◌∷◌, ◌≡◌, ◌+◌, ◌-◌, ◌<◌, ◌≤◌, ℕ, length, replicate, set, Ok, Err}
use Rattle.std.proofs.Common.{◌∙◌, sym, arith, length-append}
use borrow.Author.Tests.{eq-eqb, ne_eqb}
use Rattle.std.proofs.lemmas.Bool.{eqb-false, eqb-true}
use Rattle.answers.specs.declared.Refusal.TheVariants.{ReportLayout}
use Rattle.feeder.specs.Feeder.{no_taps}
use Rattle.feeder.specs.Phased.{Taps}
use Rattle.text.specs.LineLaws.{text-missing, text-stands}
use Rattle.text.specs.Lines.{Row, row, text, word_of}
use Rattle.text.specs.Text.{begins, bytes}
use Rattle.report.specs.Report.{rows_just, tap_table}
use Rattle.report_tables.specs.TableLaws.{behind, behind-none, column-next, column-start, just-next, just-none, just-stop}
use Rattle.report_tables.specs.TablesRead.{column_of}
use Rattle.tap_table.specs.TapTable.{TapRowHeld, TapsAre, TapsHeld, taps_at}
use Rattle.tap_table.specs.AnswerLaws.{stands-held, stands-refused}
use Rattle.tap_table.specs.declared.taps.TapRow.{TapRow}

-- k rows have been read, and the next is due at place `at`
pub record GoingTaps (s : List ℕ) (count : ℕ) (names : List ℕ) (taps : List Taps) (at k : ℕ) : Type 0 where
  pub list : List Row
  pub whole : rows_just count 1 3 s 21 ≡ behind list (rows_just (count - k) 1 3 s at)
  pub counted : k ≡ 0 + length list
  pub before : k ≤ count
  pub named : names ≡ column_of 0 false (λ y. word_of y 0) list
  pub held : taps ≡ column_of no_taps false (λ y. taps_at y.values) list

module _ (s : List ℕ) (count : ℕ) where
  pub taps-start : (names : List ℕ) (taps : List Taps) → names ≡ replicate 201 0 → taps ≡ replicate 201 no_taps → GoingTaps s count names taps 21 0
  taps-start names taps a b =
      let z : count - 0 ≡ count = omega arith in
      record {
        list = [];
        whole = simp z (sym (behind-none _));
        counted = omega arith;
        before = omega arith;
        named = column-start 0 false names a;
        held = column-start no_taps false taps b;
      }

  pub taps-no-names : begins (bytes "to,tap_a,tap_b,tap_c\n") s ≡ false → tap_table count s ≡ Err ReportLayout
  unfolding tap_table
  taps-no-names e = rw (text-missing ReportLayout "to,tap_a,tap_b,tap_c\n" s 0 e)

  module _ (names : List ℕ) (taps : List Taps) (at k : ℕ) (g : GoingTaps s count names taps at k) where
    pub taps-next : (x : TapRow) (p : ℕ) (next : List Taps) → count ≤ 200 → k < count → TapRowHeld s at x p → next ≡ set taps k x.taps → GoingTaps s count (set names k x.name) next p (k + 1)
    taps-next x p next f h w e =
        let z : count - k - 1 ≡ count - (k + 1) = omega arith in
        let q : k < 201 = omega arith in
        let l = g.list in
        record {
          list = l ++ (w.read ∷ []);
          whole = g.whole ∙ just-next 1 3 s at l (count - k) w.read p (omega arith) w.whole ∙ simp z;
          counted = simp length-append (omega (arith, g.counted));
          before = omega arith;
          named = column-next 0 false _ l w.read k names x.name g.counted q g.named w.name;
          held = e ∙ column-next no_taps false _ l w.read k taps x.taps g.counted q g.held w.taps;
        }

    module _ (e : begins (bytes "to,tap_a,tap_b,tap_c\n") s ≡ true) where
      starts : text ReportLayout "to,tap_a,tap_b,tap_c\n" s 0 ≡ Ok 21
      unfolding bytes
      starts = text-stands ReportLayout "to,tap_a,tap_b,tap_c\n" s 0 e

      pub taps-stop : k < count → row ReportLayout 1 3 s at ≡ Err ReportLayout → tap_table count s ≡ Err ReportLayout
      unfolding tap_table
      taps-stop h b = rw (starts, g.whole ∙ just-stop 1 3 s at g.list (count - k) (omega arith) b)

      -- all rows
      all_read : count ≤ k → rows_just count 1 3 s 21 ≡ Ok (g.list, at)
      all_read h = let z : count - k ≡ 0 = omega arith in g.whole ∙ simp z (just-none 1 3 s at g.list)

      pub taps-more : count ≤ k → (at ≡ length s → ⊥) → tap_table count s ≡ Err ReportLayout
      unfolding tap_table
      taps-more h b = rw (starts, all_read h, ne_eqb at (length s) b)

      pub taps-whole : count ≤ k → at ≡ length s → TapsHeld (tap_table count s) count names taps
      unfolding tap_table
      taps-whole h b = record {
        list = g.list;
        whole = rw (starts, all_read h, eq-eqb at (length s) b);
        counted = let c = g.counted in let d = g.before in omega arith;
        named = g.named;
        held = g.held;
      }

      -- whether the report ends behind the last row
      pub taps-ended : count ≤ k → TapsAre (tap_table count s) (eqb at (length s)) count names taps
      taps-ended h = go (eqb at (length s)) refl
        where
          go : (d : Bool) → eqb at (length s) ≡ d → TapsAre (tap_table count s) d count names taps
          go true e = stands-held (taps-whole h (eqb-true at (length s) e)) refl
          go false e = stands-refused (taps-more h (eqb-false at (length s) e)) refl
