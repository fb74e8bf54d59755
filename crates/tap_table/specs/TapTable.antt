-- What the readers of the report's last table answer, by its definitions. Assumes nothing.
use Rattle.std.specs.Prelude.{Bool, false, true, List, map, ◌≡◌, ◌≤◌, ℕ, ℤ, length, Ok, Err, Option}
use Rattle.answers.specs.Answers.{Outcome}
use Rattle.answers.specs.declared.Refusal.TheVariants.{ReportLayout}
use Rattle.text.specs.Lines.{Row, nth, row, word_of}
use Rattle.text.specs.Text.{Placed}
use Rattle.feeder.specs.Feeder.{no_taps}
use Rattle.feeder.specs.Network.{kept}
use Rattle.feeder.specs.Phased.{Taps}
use Rattle.tap_table.specs.declared.taps.TapRow.{TapRow}
use Rattle.report_tables.specs.TablesRead.{Answer}

-- ---- the last table: a regulator's row, and the arrays of names and taps, row j at place j - 1
abbrev pub taps_at : List ℤ → Taps
taps_at l = record { a = nth l 1; b = nth l 2; c = nth l 3 }

pub record TapRowHeld (s : List ℕ) (at : ℕ) (r : TapRow) (next : ℕ) : Type 0 where
  pub read : Row
  pub whole : row ReportLayout 1 3 s at ≡ Ok (read, next)
  pub name : r.name ≡ word_of read 0
  pub taps : r.taps ≡ taps_at read.values
  pub within : next ≤ length s

abbrev pub TapRowIs : List ℕ → ℕ → Option (Placed TapRow) → Type 0
TapRowIs s at r = Answer (row ReportLayout 1 3 s at) r (λ x. TapRowHeld s at x.0 x.1)

-- o is the table of n rows that the arrays hold
pub record TapsHeld (o : Outcome (List Row)) (n : ℕ) (names : List ℕ) (taps : List Taps) : Type 0 where
  pub list : List Row
  pub whole : o ≡ Ok list
  pub counted : length list ≡ n
  pub named : names ≡ kept 0 201 (map (λ y. word_of y 0) list)
  pub held : taps ≡ kept no_taps 201 (map (λ y. taps_at y.values) list)

-- whether it stands there: then H, or o is refused
pub record Stands {X : Type 0} (o : Outcome X) (there : Bool) (H : Type 0) : Type 0 where
  pub held : there ≡ true → H
  pub refusal : there ≡ false → o ≡ Err ReportLayout

abbrev pub TapsAre : Outcome (List Row) → Bool → ℕ → List ℕ → List Taps → Type 0
TapsAre o there n names taps = Stands o there (TapsHeld o n names taps)
