-- `compare::tap_rows::rests` meets its contract: a regulator's taps and those after a move, and nothing to move on any other branch. Assumes nothing.
use mathlib.Core.Path.{◌∙◌, ap, sym}
use lib.ListN.{get_or}
use Rattle.equations.specs.Equations.{zero3}
use Rattle.equations.specs.Taps.{same_taps}
use Rattle.feeder.specs.Feeder.{no_branch}
use Rattle.feeder.specs.Phased.{Taps}
use Rattle.compare.specs.TapRows.{no-taps-rest, regulator-rests}
use Rattle.compare.proofs.tap_rows.rests.Goals as goal

pub returns-in_default : goal.returns-in_default
returns-in_default c =
    let a = c.args in
    sym (no-taps-rest (get_or a.own.now.branches a.k no_branch) (get_or a.read.now.voltages a.k zero3) (get_or a.read.now.currents a.k zero3) (sym c.regulator.ensures ∙ c.in_default.is))

pub returns : goal.returns
returns c =
    let a = c.args in
    c.same_taps.ensures ∙ ap (λ (t : Taps). same_taps t c.in-Some.x.taps) c.moved_taps-moved.ensures ∙ regulator-rests (get_or a.own.now.branches a.k no_branch) (get_or a.read.now.voltages a.k zero3) (get_or a.read.now.currents a.k zero3) (sym c.regulator.ensures ∙ c.in-Some.is)
