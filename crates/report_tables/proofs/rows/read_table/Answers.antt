-- `report_tables::rows::read_table` meets its contract: the line of names, the rows, the empty line. Assumes nothing.
use mathlib.Core.Bool.{true}
use mathlib.Core.List.{List}
use mathlib.Core.Path.{◌∙◌, ◌≡◌, ap, sym}
use Prim.Native.Nat.{ℕ}
use Prim.Native.String.{String}
use native.Mathlib.Omega.{arith}
use lib.ListN.{drop, length}
use Rattle.std.proofs.lemmas.Option.{MatchOption-at_none, MatchOption-at_some}
use Rattle.text.specs.LineLaws.{begins-within}
use Rattle.text.specs.Text.{begins, bytes}
use Rattle.report.specs.Report.{rows_just}
use Rattle.report_tables.specs.TablesRead.{TableHeld, TableRead, name_count, table_read, value_count}
use Rattle.report_tables.specs.TableLaws.{table-held, table-no-end, table-no-names, table-no-rows}
use Rattle.report_tables.proofs.rows.read_table.Goals as goal
use Rattle.report_tables.proofs.rows.read_table.Goals.{Else-not-stands, Else-not-stands_empty, In_ok-rows}

-- the line of names stands
standing : (c : Else-not-stands) → begins c.args.header.now c.args.part.now ≡ true
standing c = sym c.stands.ensures ∙ c.if-not-stands.false

named : (c : Else-not-stands) (name : String) → bytes name ≡ c.args.header.now → begins (bytes name) c.args.part.now ≡ true
named c name e = ap (λ (h : List ℕ). begins h c.args.part.now) e ∙ standing c

-- the rows behind it
abbrev rows : In_ok-rows → TableRead
rows c = let l = c.read_rows.new in table_read c.in_ok-rows.rows l.first l.second l.threes l.pairs

rows-held : (c : In_ok-rows) (name : String) → let a = c.args in bytes name ≡ a.header.now →
    TableHeld a.branch a.count a.part.now (rows_just a.count (name_count a.branch) (value_count a.branch) a.part.now (length (bytes name))) (rows c)
rows-held c name d = let a = c.args in rw d (MatchOption-at_some _ _ _ c.in_ok-rows.was c.read_rows.ensures)

-- and the empty line behind those
empty : (c : Else-not-stands_empty) → begins (bytes "\n") (drop c.in_ok-rows.rows.next c.args.part.now) ≡ true
empty c = sym c.stands_empty.ensures ∙ c.if-not-stands_empty.false

pub returns-then-not-stands : goal.returns-then-not-stands
returns-then-not-stands c = λ name n e d. table-no-names name n _ _ _ (ap (λ (h : List ℕ). begins h c.args.part.now) e ∙ sym c.stands.ensures ∙ c.if-not-stands.true)

pub read_rows-requires : goal.read_rows-requires
read_rows-requires c = let h = begins-within _ _ 0 c.requires.header_nonzero (standing (goal.at.read_rows-requires c).Else-not-stands) in record { from_in_bounds = omega arith; count_bound = c.requires.count_bound; empty = c.requires.empty }

pub returns-in_err-rows : goal.returns-in_err-rows
returns-in_err-rows c = λ name n e d. rw (c.from_residual.ensures, d) (table-no-rows name _ _ _ _ (named (goal.at.returns-in_err-rows c).Else-not-stands name e) (rw e (MatchOption-at_none _ _ c.in_err-rows.was c.read_rows.ensures)))

pub returns-then-not-stands_empty : goal.returns-then-not-stands_empty
returns-then-not-stands_empty c = λ name n e d. rw d (table-no-end name _ _ _ _ (named (goal.at.returns-then-not-stands_empty c).Else-not-stands name e) _ _ (rows-held (goal.at.returns-then-not-stands_empty c).In_ok-rows name e).whole (sym c.stands_empty.ensures ∙ c.if-not-stands_empty.true))

pub returns : goal.returns
returns c = λ name n e d. rw d (table-held _ name _ _ _ (named (goal.at.returns c).Else-not-stands name e) (rows-held (goal.at.returns c).In_ok-rows name e) (empty c))
