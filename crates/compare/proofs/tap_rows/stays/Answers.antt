-- `compare::tap_rows::stays` meets its contract: by the level of the feeder's regulator. Assumes nothing.
use mathlib.Core.Bool.{Bool, cond}
use mathlib.Core.Path.{◌∙◌, ◌≡◌, ap, sym}
use lib.ListN.{get_or}
use borrow.Author.Tests.{not-false, not-true}
use Rattle.equations.specs.Taps.{same_taps}
use Rattle.feeder.specs.Feeder.{level_of, no_branch, taps_on}
use Rattle.integers.specs.Pairs.{inside}
use Rattle.compare.specs.Compare.{rests_in, stays_in}
use Rattle.compare.proofs.tap_rows.stays.Goals as goal
use Rattle.compare.proofs.tap_rows.stays.Goals.{Start}

-- what has to hold, by the test of the level
by_level : (s : Start) {b : Bool} → let a = s.args in let old = (get_or a.network.now.branches a.k no_branch).device in let new = (get_or a.own.now.branches a.k no_branch).device in
    inside 0 (level_of old) ≡ b → cond b (same_taps (taps_on new) (taps_on old)) (rests_in a.own.now.branches a.read.now.voltages a.read.now.currents a.k) ≡ stays_in a.network.now.branches a.own.now.branches a.read.now.voltages a.read.now.currents a.k
by_level s e =
    let a = s.args in
    let old = (get_or a.network.now.branches a.k no_branch).device in
    let new = (get_or a.own.now.branches a.k no_branch).device in
    ap (λ (b : Bool). cond b (same_taps (taps_on new) (taps_on old)) (rests_in a.own.now.branches a.read.now.voltages a.read.now.currents a.k)) (sym e)

pub returns-then-moves_taps : goal.returns-then-moves_taps
returns-then-moves_taps c = c.rests.ensures ∙ by_level (goal.at.returns-then-moves_taps c).Start (not-true _ (sym c.moves_taps.ensures ∙ c.if-moves_taps.true))

pub returns : goal.returns
returns c =
    c.same_taps.ensures ∙ (λ j. same_taps (c.taps-reported.ensures j) (c.taps-filed.ensures j)) ∙ by_level (goal.at.returns c).Start (not-false _ (sym c.moves_taps.ensures ∙ c.if-moves_taps.false))
