-- `report_tables::rows::read_rows` meets its contract: at each turn the arrays hold the rows read so far, and the rows that are left are behind them. Assumes nothing.
use Rattle.report_tables.specs.TablesRead.{table_read}
use Rattle.report_tables.specs.TableLaws.{Going}
use Rattle.report_tables.proofs.rows.read_rows.Given as goal

abbrev pub invariant-loop-k : goal.invariant-loop-k
invariant-loop-k l = Going l.branch l.part l.from l.count l.last (table_read l.t l.first l.second l.threes l.pairs) l.k
