-- `report_tables::fields::read_node` meets its contract: field by field, what was read is what the definition reads. Assumes nothing.
use Rattle.std.specs.Prelude.{Some, None}
use mathlib.Core.Path.{◌∙◌, ◌≡◌, refl, sym}
use native.Mathlib.Omega.{arith}
use borrow.Author.Rules.{rules}
use Rattle.answers.specs.declared.Refusal.TheVariants.{ReportLayout}
use Rattle.text.specs.LineLaws.{names-stop, row-stop}
use Rattle.text.specs.Text.{name_at}
use Rattle.report_tables.specs.RowLaws.{node-held, node-names, row_as}
use Rattle.report_tables.proofs.fields.read_node.Goals as goal
use Rattle.report_tables.proofs.fields.read_node.Goals.{In_ok-first}

-- the name that was read
name : (c : In_ok-first) → name_at 44 c.args.s.now c.args.at ≡ Some (c.in_ok-first.first, c.in_ok-first.p)
name c = sym c.read_name.ensures.value ∙ c.in_ok-first.was

pub returns-in_err-first : goal.returns-in_err-first
returns-in_err-first c = rw c.from_residual.ensures (row-stop ReportLayout 1 6 _ _ (names-stop ReportLayout 0 _ _ (sym c.read_name.ensures.value ∙ c.in_err-first.was)))

pub returns-in_err-next : goal.returns-in_err-next
returns-in_err-next c = rw c.from_residual-in_err-next.ensures (row_as 1 6 _ _ _ _ _ None _ (node-names _ _ _ _ (name (goal.at.returns-in_err-next c).In_ok-first)) (c.read_numbers.ensures.value ReportLayout) c.in_err-next.was)

pub returns : goal.returns
returns c = node-held _ _ _ _ _ _ _ c.in_ok-next.was c.three_at-voltages.ensures c.within_three-inside.ensures (c.read_numbers.ensures.past _ c.in_ok-next.was (omega arith)).1 _ (node-names _ _ _ _ (name (goal.at.returns c).In_ok-first)) (c.read_numbers.ensures.value ReportLayout) (search rules) refl refl refl
