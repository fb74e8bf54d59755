-- `report_tables::fields::read_branch` meets its contract: field by field, what was read is what the definition reads. Assumes nothing.
use Rattle.std.specs.Prelude.{Ok, Some, None}
use mathlib.Core.List.{[], ◌∷◌}
use mathlib.Core.Path.{◌∙◌, ◌≡◌, refl, sym}
use native.Mathlib.Omega.{arith}
use Rattle.answers.specs.declared.Refusal.TheVariants.{ReportLayout}
use Rattle.text.specs.LineLaws.{names-stop, row-stop}
use Rattle.text.specs.Lines.{names}
use Rattle.text.specs.Text.{name_at}
use Rattle.report_tables.specs.RowLaws.{branch_held, branch-names, row_as, second-missing}
use Rattle.report_tables.proofs.fields.read_branch.Goals as goal
use Rattle.report_tables.proofs.fields.read_branch.Goals.{In_ok-first, In_ok-second}

-- the name that was read, and both
name : (c : In_ok-first) → name_at 44 c.args.s.now c.args.at ≡ Some (c.in_ok-first.first, c.in_ok-first.p)
name c = sym c.read_name.ensures.value ∙ c.in_ok-first.was

both : (c : In_ok-second) → names ReportLayout 2 c.args.s.now c.args.at ≡ Ok (c.in_ok-first.first ∷ c.in_ok-second.second ∷ [], c.in_ok-second.q)
both c = branch-names _ _ _ _ _ _ (sym c.read_name.ensures.value ∙ c.in_ok-first.was) (sym c.read_name-2.ensures.value ∙ c.in_ok-second.was)

pub returns-in_err-first : goal.returns-in_err-first
returns-in_err-first c = rw c.from_residual.ensures (row-stop ReportLayout 2 8 _ _ (names-stop ReportLayout 1 _ _ (sym c.read_name.ensures.value ∙ c.in_err-first.was)))

pub returns-in_err-second : goal.returns-in_err-second
returns-in_err-second c = rw c.from_residual-in_err-second.ensures (row-stop ReportLayout 2 8 _ _ (second-missing _ _ _ _ (name (goal.at.returns-in_err-second c).In_ok-first) (sym c.read_name-2.ensures.value ∙ c.in_err-second.was)))

pub returns-in_err-next : goal.returns-in_err-next
returns-in_err-next c = rw c.from_residual-in_err-next.ensures (row_as 2 8 _ _ _ _ _ None _ (both (goal.at.returns-in_err-next c).In_ok-second) (c.read_numbers.ensures.value ReportLayout) c.in_err-next.was)

pub returns : goal.returns
returns c = branch_held _ _ _ _ _ _ _ c.in_ok-next.was c.three_at-currents.ensures c.within_three-inside.ensures (c.read_numbers.ensures.past _ c.in_ok-next.was (omega arith)).1 _ _ (both (goal.at.returns c).In_ok-second) (c.read_numbers.ensures.value ReportLayout) refl refl c.pair_at-loss.ensures
