-- `report_tables::totals::read_totals` meets its contract: the line of names, and the row. Assumes nothing.
use mathlib.Core.Bool.{true}
use mathlib.Core.Path.{◌∙◌, ◌≡◌, sym}
use borrow.Author.Rules.{rules}
use native.Mathlib.Omega.{arith}
use Rattle.answers.specs.declared.Refusal.TheVariants.{ReportLayout}
use Rattle.text.specs.Text.{begins, bytes}
use Rattle.report_tables.specs.TotalsLaws.{last-bad, last-no-names, last-whole}
use Rattle.report_tables.proofs.totals.read_totals.Goals as goal
use Rattle.report_tables.proofs.totals.read_totals.Goals.{Else-not-stands}

-- the line of names stands
names : (c : Else-not-stands) → begins (bytes "sweeps,source_p,source_q,drawn_p,drawn_q,lost_p,lost_q\n") c.args.part.now ≡ true
unfolding bytes
names c = sym c.stands.ensures ∙ c.if-not-stands.false

pub returns-then-not-stands : goal.returns-then-not-stands
unfolding bytes
returns-then-not-stands c = last-no-names _ (sym c.stands.ensures ∙ c.if-not-stands.true)

pub returns-in_err-next : goal.returns-in_err-next
returns-in_err-next c = rw c.from_residual.ensures (last-bad _ _ _ (names (goal.at.returns-in_err-next c).Else-not-stands) (c.read_numbers.ensures.value ReportLayout) c.in_err-next.was)

pub returns : goal.returns
returns c = record { whole = last-whole _ _ _ (names (goal.at.returns c).Else-not-stands) (c.read_numbers.ensures.value ReportLayout) _ c.in_ok-next.was; seven = search rules; within = (c.read_numbers.ensures.past _ c.in_ok-next.was (omega arith)).1 }
