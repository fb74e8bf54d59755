-- `tap_table::taps::read_tap_row` meets its contract: field by field, what was read is what the definition reads. Assumes nothing.
use Rattle.std.specs.Prelude.{Some, None}
use mathlib.Core.Path.{◌∙◌, ◌≡◌, refl, sym}
use native.Mathlib.Omega.{arith}
use borrow.Author.Rules.{rules}
use Rattle.answers.specs.declared.Refusal.TheVariants.{ReportLayout}
use Rattle.text.specs.LineLaws.{names-stop, row-stop}
use Rattle.text.specs.Text.{name_at}
use Rattle.report_tables.specs.RowLaws.{node-names, row_as}
use Rattle.tap_table.specs.TapRowLaws.{tap-held}
use Rattle.tap_table.proofs.taps.read_tap_row.Goals as goal
use Rattle.tap_table.proofs.taps.read_tap_row.Goals.{In_ok-name}

-- the name that was read
named : (c : In_ok-name) → name_at 44 c.args.s.now c.args.at ≡ Some (c.in_ok-name.name, c.in_ok-name.p)
named c = sym c.read_name.ensures.value ∙ c.in_ok-name.was

pub returns-in_err-name : goal.returns-in_err-name
returns-in_err-name c = rw c.from_residual.ensures (row-stop ReportLayout 1 3 _ _ (names-stop ReportLayout 0 _ _ (sym c.read_name.ensures.value ∙ c.in_err-name.was)))

pub returns-in_err-next : goal.returns-in_err-next
returns-in_err-next c = rw c.from_residual-in_err-next.ensures (row_as 1 3 _ _ _ _ _ None _ (node-names _ _ _ _ (named (goal.at.returns-in_err-next c).In_ok-name)) (c.read_numbers.ensures.value ReportLayout) c.in_err-next.was)

pub returns : goal.returns
returns c = tap-held _ _ _ _ _ _ _ c.in_ok-next.was (c.read_numbers.ensures.past _ c.in_ok-next.was (omega arith)).1 _ (node-names _ _ _ _ (named (goal.at.returns c).In_ok-name)) (c.read_numbers.ensures.value ReportLayout) refl (search rules)
