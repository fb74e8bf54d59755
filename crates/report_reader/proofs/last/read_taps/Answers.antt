-- `report_reader::last::read_taps` meets its contract: the rows, and then the test of their taps. Assumes nothing.
use mathlib.Core.Path.{refl}
use Rattle.tap_table.specs.AnswerLaws.{stands-refused}
use Rattle.report_reader.specs.LastLaws.{last-is, last_none}
use Rattle.report_reader.proofs.last.read_taps.Goals as goal

pub returns-then-not-read_tap_rows : goal.returns-then-not-read_tap_rows
returns-then-not-read_tap_rows c = λ f limit h. stands-refused (last_none f _ limit h _ _ ((c.read_tap_rows.ensures f limit h).refusal c.if-not-read_tap_rows.true)) refl

pub returns : goal.returns
returns c = λ f limit h. last-is f _ limit h _ _ _ _ _ _ ((c.read_tap_rows.ensures f limit h).held c.if-not-read_tap_rows.false) c.taps_by_node.ensures.fit c.taps_by_node.ensures.held
