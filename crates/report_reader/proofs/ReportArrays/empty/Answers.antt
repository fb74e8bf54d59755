-- `report_reader::ReportArrays::empty` meets its contract. Assumes nothing.
use Rattle.report_reader.specs.Read.{no_report}
use borrow.Author.Rules.{rules}
use Rattle.report_reader.proofs.ReportArrays.empty.Goals as goal

pub returns : goal.returns
unfolding no_report
returns c = search rules
