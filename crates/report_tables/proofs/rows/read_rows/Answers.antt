-- `report_tables::rows::read_rows` meets its contract: at each turn the arrays hold the rows read so far, and the rows that are left are behind them. Assumes nothing.
use mathlib.Core.Path.{refl}
use native.Mathlib.Omega.{arith}
use Rattle.std.proofs.lemmas.Option.{MatchOption-at_none, MatchOption-at_some}
use Rattle.report_tables.specs.TableLaws.{going_end, going_next, going_start, going-stop}
use Rattle.report_tables.proofs.rows.read_rows.Goals as goal
use Rattle.report_tables.proofs.rows.read_rows.Goals.{else-t, then-t}

pub loop-k-init : goal.loop-k-init
loop-k-init c = going_start _ _ _ _ _ _ _ _ _ _ c.requires.empty c.unused_count-start.ensures refl (omega (arith, c.unused_count-start.ensures, c.requires.count_bound)) c.requires.from_in_bounds

pub returns-in_err-row : goal.returns-in_err-row
returns-in_err-row c = rw c.from_residual.ensures (going-stop _ _ _ _ _ _ _ c.loop-k.invariant c.loop-k-test.true (MatchOption-at_none _ _ c.in_err-row.was c.read_row.ensures))

pub loop-k-preserved : goal.loop-k-preserved
loop-k-preserved c =
    going_next _ _ _ _ _ _ _ c.loop-k.invariant _ _ _ _ _ c.loop-k-test.true (MatchOption-at_some _ _ _ c.in_ok-row.was c.read_row.ensures) refl refl
    (elim c.if-t.branch [ then-t w ↦ rw (w.if-t.true, w.inside-is) refl | else-t w ↦ rw (w.inside-is, w.if-t.false) refl ])

pub returns : goal.returns
returns c = going_end _ _ _ _ _ _ _ c.loop-k.invariant c.loop-k-test.false
