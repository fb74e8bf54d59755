-- `tap_table::taps::taps_fit` meets its contract: what holds on each phase is the definition's test. Assumes nothing.
use mathlib.Core.Bool.{◌&&◌}
use mathlib.Core.Path.{◌∙◌, sym}
use Rattle.tap_table.specs.Regulators.{fits-three}
use Rattle.tap_table.proofs.taps.taps_fit.Goals as goal

pub returns : goal.returns
returns c = c.all.ensures ∙ (λ i. c.zip.ensures.a i && (c.zip.ensures.b i && c.zip.ensures.c i)) ∙ sym (fits-three _ _)
