-- `text::lines::stands_empty` meets its contract: the bytes of a constant are those of the text in quotes. Assumes nothing.
use Rattle.text.specs.Text.{bytes}
use Rattle.text.proofs.lines.stands_empty.Goals as goal

pub returns : goal.returns
unfolding bytes
returns c = c.stands.ensures
