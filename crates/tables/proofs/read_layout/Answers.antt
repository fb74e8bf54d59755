-- `tables::read_layout` meets its contract: one table after the other, as the definition has them. Assumes nothing.
use Rattle.std.specs.Prelude.{Err}
use Rattle.std.proofs.lemmas.Result.{err_from_is_err_and}
use borrow.Author.Rules.{rules}
use mathlib.Core.Path.{◌∙◌, ap, refl}
use Rattle.answers.specs.declared.Refusal.{Refusal}
use Rattle.text.specs.TextLaws.{part-from}
use Rattle.tables.specs.LayoutLaws.{laid_out, no-branches, no-loads, no-source, read-bad, read-good}
use Rattle.tables.proofs.read_layout.Goals as goal

pub returns-in_err-source-clause-value : goal.returns-in_err-source-clause-value
returns-in_err-source-clause-value c =
    let e = err_from_is_err_and c.from_residual.result c.from_residual.ensures.1 in
    read-bad _ (no-source c.args.file.now _ c.in_err-source.ensures.value) (e.1 ∙ ap (λ (r : Refusal). Err r) e.2)

pub returns-in_err-rows-clause-value : goal.returns-in_err-rows-clause-value
returns-in_err-rows-clause-value c =
    let s = c.args.file.now in
    let a = c.in_ok-source in
    let e = err_from_is_err_and c.from_residual-in_err-rows.result c.from_residual-in_err-rows.ensures.1 in
    read-bad _ (no-branches s _ a.p _ a.ensures.value (part-from s a.p) _ c.in_err-rows.ensures.value.said) (e.1 ∙ ap (λ (r : Refusal). Err r) e.2)

pub returns-in_err-tables-clause-value : goal.returns-in_err-tables-clause-value
returns-in_err-tables-clause-value c =
    let s = c.args.file.now in
    let a = c.in_ok-source in
    let b = c.in_ok-rows.ensures.value.said in
    let e = err_from_is_err_and c.from_residual-in_err-tables.result c.from_residual-in_err-tables.ensures.1 in
    read-bad _ (no-loads s _ a.p _ a.ensures.value (part-from s a.p) b.list c.in_ok-rows.q _ b.whole (part-from _ c.in_ok-rows.q) _ b.counted _ c.in_err-tables.ensures.value.said) (e.1 ∙ ap (λ (r : Refusal). Err r) e.2)

pub returns-clause-value : goal.returns-clause-value
returns-clause-value c =
    let s = c.args.file.now in
    let a = c.in_ok-source in
    let b = c.in_ok-rows.ensures.value.said in
    let l = c.in_ok-tables.ensures.value.said in
    read-good _ (laid_out s _ a.p _ a.ensures.value (part-from s a.p) b.list c.in_ok-rows.q _ b.whole (part-from _ c.in_ok-rows.q) _ b.counted l.list l.whole)
    (record { tabled = record { source = refl; given = refl; rows = b.counted; branches = b.held; count = l.counted; loads = l.held }; eight = search rules })
