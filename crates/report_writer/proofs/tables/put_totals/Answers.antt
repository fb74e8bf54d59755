-- `report_writer::tables::put_totals` meets its contract. Assumes nothing.
use Rattle.report_writer.specs.Tables.{totals_table}
use Rattle.text.specs.Stores.{written_behind}
use Rattle.text.specs.Text.{bytes}
use Rattle.report_writer.proofs.tables.put_totals.Goals as goal

pub returns : goal.returns
unfolding totals_table bytes
returns c = written_behind c.put_bytes-at.ensures (written_behind c.put_totals_line-end.ensures c.put_byte.ensures)
