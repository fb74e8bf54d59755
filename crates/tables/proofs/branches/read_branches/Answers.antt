-- `tables::branches::read_branches` meets its contract: behind the line of names it is what the reader of the rows answers. Assumes nothing.
use Rattle.std.specs.Prelude.{true, ◌≡◌, refl, drop, length}
use Rattle.std.proofs.Common.{◌∙◌, arith, rules, sym}
use Rattle.std.proofs.lemmas.Result.{err_from_is_err_and}
use Rattle.feeder.specs.Layout.{branch_row, empty_line, rows}
use Rattle.feeder.specs.Network.{no_branch_row}
use Rattle.text.specs.Text.{begins, bytes}
use Rattle.text.specs.LineLaws.{begins-within}
use Rattle.tables.specs.LineLaws.{empty-line}
use Rattle.tables.specs.Read.{RowsRead, branch_names}
use Rattle.tables.specs.TableLaws.{branches-bad, branches-good, branches-named, branches-unnamed}
use Rattle.tables.proofs.branches.read_branches.Goals as goal
use Rattle.tables.proofs.branches.read_branches.Goals.{After-read_rows, Else-not-stands}

-- the line of names stands at the start
named : (c : Else-not-stands) → begins (bytes branch_names) (drop 0 c.args.part.now) ≡ true
unfolding bytes
named c = sym c.stands.ensures ∙ c.if-not-stands.false

pub returns-then-not-stands-clause-value : goal.returns-then-not-stands-clause-value
unfolding bytes
returns-then-not-stands-clause-value c = record { said = branches-unnamed c.args.part.now (sym c.stands.ensures ∙ c.if-not-stands.true) }

pub read_rows-requires : goal.read_rows-requires
unfolding bytes
read_rows-requires c =
    let i = begins-within (bytes branch_names) c.args.part.now 0 (omega arith) (named (goal.at.read_rows-requires c).Else-not-stands) in
    (search rules, ((omega arith, omega (arith, i), omega arith), (search rules, (search rules, (λ at x n h q. q.1 x n refl)))))

-- the rows, by what is defined of a row and of the table's end
read : (c : After-read_rows) → RowsRead no_branch_row 200 (rows branch_row (length c.args.part.now) c.args.part.now 5 59 (empty_line c.args.part.now)) c.read_rows.result c.read_rows.new.table
unfolding bytes
read c =
    let s = c.args.part.now in
    c.read_rows.ensures.value branch_row (empty_line s) no_branch_row
    (record {
      row-read = λ p at x e h q r. rw e at (q.0 r);
      end-seen = λ p at b e h q. sym (empty-line s at) ∙ sym (rw e at q);
    })
    c.requires

pub returns-in_err-rows-clause-value : goal.returns-in_err-rows-clause-value
returns-in_err-rows-clause-value c =
    let at = goal.at.returns-in_err-rows-clause-value c in
    let e = err_from_is_err_and c.from_residual.result c.from_residual.ensures.1 in
    let w = rw c.in_err-rows.was at (read at.After-read_rows) in
    rw (e.1, e.2) (record { said = branches-named c.args.part.now (named at.Else-not-stands) ∙ branches-bad _ _ _ w.said })

pub returns-clause-value : goal.returns-clause-value
unfolding bytes
returns-clause-value c =
    let at = goal.at.returns-clause-value c in
    let w = (rw c.in_ok-rows.was at (read at.After-read_rows)).said in
    record { said = record { list = w.list; whole = branches-named c.args.part.now (named at.Else-not-stands) ∙ branches-good _ _ _ _ w.whole (sym c.in_ok-rows.ensures.end.2); counted = w.counted; held = w.held } }

pub returns-clause-past : goal.returns-clause-past
unfolding bytes
returns-clause-past c =
    let e = c.in_ok-rows.ensures.end in
    let i = begins-within (bytes "\n") c.args.part.now c.in_ok-rows.end (omega arith) (sym e.2) in
    (omega (arith, e.0), omega (arith, i))
