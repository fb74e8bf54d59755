-- A regulator's row that is read. Assumes nothing.
use Rattle.std.specs.Prelude.{List, [], ◌∷◌, ◌≡◌, ◌≤◌, ℕ, ℤ, length, Ok, Option, Some}
use Rattle.answers.specs.declared.Refusal.TheVariants.{ReportLayout}
use Rattle.text.specs.Promises.{filled}
use Rattle.text.specs.Lines.{names, numbers}
use Rattle.tap_table.specs.declared.taps.TapRow.{TapRow}
use Rattle.report_tables.specs.RowLaws.{row_as}
use Rattle.tap_table.specs.TapTable.{TapRowHeld, taps_at}

-- the same of a regulator's row in the last table
pub tap-held : (s : List ℕ) (at p : ℕ) (x : Option ℕ) (values : List ℤ) (r : TapRow) (next : ℕ) → x ≡ Some next → next ≤ length s → (v : ℕ) → names ReportLayout 1 s at ≡ Ok (v ∷ [], p) →
    numbers ReportLayout 3 s p ≡ filled ReportLayout x values → r.name ≡ v → r.taps ≡ taps_at values → TapRowHeld s at r next
tap-held s at p x values r next b h v e f a t =
    record {
      read = record { words = v ∷ []; values = values };
      whole = row_as 1 3 s at (v ∷ []) p x (Some next) values e f b;
      name = a;
      taps = t;
      within = h;
    }
