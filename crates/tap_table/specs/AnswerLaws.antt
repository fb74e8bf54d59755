-- A reader's answer, made of what it holds or of the refusal. Assumes nothing.
use Rattle.std.specs.Prelude.{Bool, false, true, ◌≡◌, Err}
use Rattle.answers.specs.Answers.{Outcome}
use Rattle.answers.specs.declared.Refusal.TheVariants.{ReportLayout}
use Rattle.integers.specs.Bools.{clash}
use Rattle.tap_table.specs.TapTable.{Stands}

pub stands-held : {X : Type 0} {o : Outcome X} {there : Bool} {H : Type 0} → H → there ≡ true → Stands o there H
stands-held {there = there} h e = record { held = λ t. h; refusal = λ t. clash there e t }

pub stands-refused : {X : Type 0} {o : Outcome X} {there : Bool} {H : Type 0} → o ≡ Err ReportLayout → there ≡ false → Stands o there H
stands-refused {there = there} h e = record { held = λ t. clash there t e; refusal = λ t. h }
