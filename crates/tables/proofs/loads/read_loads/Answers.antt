-- `tables::loads::read_loads` meets its contract: behind the line of names it is what the reader of the rows answers. Assumes nothing.
use Rattle.std.specs.Prelude.{true, ◌≡◌, ◌+◌, refl, drop, length}
use Rattle.std.proofs.Common.{◌∙◌, arith, rules, sym}
use Rattle.std.proofs.lemmas.Result.{err_from_is_err_and}
use Rattle.feeder.specs.Layout.{file_end, load_row, rows}
use Rattle.feeder.specs.Network.{no_load_row}
use Rattle.text.specs.Text.{begins, bytes}
use Rattle.text.specs.LineLaws.{begins-within}
use Rattle.tables.specs.Read.{RowsRead, load_names}
use Rattle.tables.specs.TableLaws.{loads-bad, loads-good, loads-named, loads-unnamed}
use Rattle.tables.proofs.loads.read_loads.Goals as goal
use Rattle.tables.proofs.loads.read_loads.Goals.{After-read_rows, Else-not-stands}

-- the line of names stands at the start
named : (c : Else-not-stands) → begins (bytes load_names) (drop 0 c.args.part.now) ≡ true
unfolding bytes
named c = sym c.stands.ensures ∙ c.if-not-stands.false

pub returns-then-not-stands-clause-value : goal.returns-then-not-stands-clause-value
unfolding bytes
returns-then-not-stands-clause-value c = record { said = loads-unnamed _ c.args.part.now (sym c.stands.ensures ∙ c.if-not-stands.true) }

pub overflow_add-line : goal.overflow_add-line
unfolding bytes
overflow_add-line c = let i = begins-within (bytes load_names) c.args.part.now 0 (omega arith) (named (goal.at.overflow_add-line c).Else-not-stands) in record { fits = omega (arith, i, c.requires.room) }

pub read_rows-requires : goal.read_rows-requires
unfolding bytes
read_rows-requires c =
    let i = begins-within (bytes load_names) c.args.part.now 0 (omega arith) (named (goal.at.read_rows-requires c).Else-not-stands) in
    (search rules, ((omega arith, omega (arith, i), omega (arith, c.requires.room)), (search rules, (search rules, (λ at x n h q. q.1 x n refl)))))

-- the rows, by what is defined of a row and of the table's end
read : (c : After-read_rows) → let s = c.args.part.now in RowsRead no_load_row 300 (rows load_row (length s) s (c.args.line + 1) 23 (file_end s)) c.read_rows.result c.read_rows.new.table
read c =
    let s = c.args.part.now in
    c.read_rows.ensures.value load_row (file_end s) no_load_row
    (record {
      row-read = λ p at x e h q r. rw e at (q.0 r);
      end-seen = λ p at b e h q. search rules;
    })
    c.requires.none

pub returns-in_err-rows-clause-value : goal.returns-in_err-rows-clause-value
returns-in_err-rows-clause-value c =
    let at = goal.at.returns-in_err-rows-clause-value c in
    let e = err_from_is_err_and c.from_residual.result c.from_residual.ensures.1 in
    let w = rw c.in_err-rows.was at (read at.After-read_rows) in
    rw (e.1, e.2) (record { said = loads-named c.args.line c.args.part.now (named at.Else-not-stands) ∙ loads-bad _ _ _ _ w.said })

pub returns-clause-value : goal.returns-clause-value
returns-clause-value c =
    let at = goal.at.returns-clause-value c in
    let w = (rw c.in_ok-rows.was at (read at.After-read_rows)).said in
    record { said = record { list = w.list; whole = loads-named c.args.line c.args.part.now (named at.Else-not-stands) ∙ loads-good _ _ _ _ _ w.whole; counted = w.counted; held = w.held } }
