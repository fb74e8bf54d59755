-- The row of the totals, from what the reader of its numbers leaves. Assumes nothing.
use Rattle.std.specs.Prelude.{false, true, List, [], ◌≡◌, ℕ, ℤ, Ok, Err, Option, Some, None}
use Rattle.answers.specs.declared.Refusal.TheVariants.{ReportLayout}
use Rattle.text.specs.LineLaws.{names-none, text-missing, text-stands}
use Rattle.text.specs.Promises.{filled}
use Rattle.text.specs.Lines.{numbers, row, text}
use Rattle.text.specs.Text.{begins, bytes}
use Rattle.report.specs.Report.{totals_row}
use Rattle.report_tables.specs.RowLaws.{row_as, row_of}

module _ (s : List ℕ) where
  pub last-no-names : begins (bytes "sweeps,source_p,source_q,drawn_p,drawn_q,lost_p,lost_q\n") s ≡ false → totals_row s ≡ Err ReportLayout
  unfolding totals_row
  last-no-names e = rw (text-missing ReportLayout "sweeps,source_p,source_q,drawn_p,drawn_q,lost_p,lost_q\n" s 0 e)

  module _ (x : Option ℕ) (values : List ℤ) (e : begins (bytes "sweeps,source_p,source_q,drawn_p,drawn_q,lost_p,lost_q\n") s ≡ true) (f : numbers ReportLayout 7 s 55 ≡ filled ReportLayout x values) where
    last-starts : text ReportLayout "sweeps,source_p,source_q,drawn_p,drawn_q,lost_p,lost_q\n" s 0 ≡ Ok 55
    unfolding bytes
    last-starts = text-stands ReportLayout "sweeps,source_p,source_q,drawn_p,drawn_q,lost_p,lost_q\n" s 0 e

    last_row : (y : Option ℕ) → x ≡ y → row ReportLayout 0 7 s 55 ≡ row_of ReportLayout [] y values
    last_row y b = row_as 0 7 s 55 [] 55 x y values (names-none ReportLayout s 55) f b

    pub last-bad : x ≡ None → totals_row s ≡ Err ReportLayout
    unfolding totals_row
    last-bad b = rw (last-starts, last_row None b)

    pub last-whole : (next : ℕ) → x ≡ Some next → totals_row s ≡ Ok (record { words = []; values = values }, next)
    unfolding totals_row
    last-whole next b = rw (last-starts, last_row (Some next) b)
