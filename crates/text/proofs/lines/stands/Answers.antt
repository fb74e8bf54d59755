-- `text::lines::stands` meets its contract. Assumes nothing.
use mathlib.Core.Path.{◌∙◌}
use Rattle.text.specs.TextLaws.{begins-part}
use Rattle.text.proofs.lines.stands.Goals as goal

pub returns : goal.returns
returns c = c.starts_with.ensures.value ∙ begins-part _ _ _ _ c.min.ensures
