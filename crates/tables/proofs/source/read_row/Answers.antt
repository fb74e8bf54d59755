-- `tables::source::read_row` meets its contract: the place behind the empty line lies in the file. Assumes nothing.
use Rattle.std.proofs.Common.{◌∙◌, arith, sym}
use Rattle.text.specs.Text.{bytes}
use Rattle.text.specs.LineLaws.{begins-within}
use Rattle.tables.proofs.source.read_row.Goals as goal

pub returns-clause-past : goal.returns-clause-past
unfolding bytes
returns-clause-past c = omega (arith, begins-within (bytes "\n") c.args.file.now c.in_ok-next.next (omega arith) (sym c.stands_empty.ensures ∙ c.if-not-stands_empty.false))
