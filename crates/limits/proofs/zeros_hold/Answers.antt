-- `limits::zeros_hold` meets its contract: each kind has its own columns, and D those of Y. Assumes nothing.
use mathlib.Core.Path.{◌∙◌, sym}
use Rattle.limits.specs.Columns.{transformer-zeros}
use Rattle.limits.proofs.zeros_hold.Goals as goal

pub returns-in-Y : goal.returns-in-Y
returns-in-Y c = c.all_zero.ensures ∙ sym (transformer-zeros _ _ _ c.in-Y.is)
