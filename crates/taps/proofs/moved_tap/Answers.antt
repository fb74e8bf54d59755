-- `moved_tap` meets its contract: the test that holds is the definition's. Assumes nothing.
use mathlib.Core.Bool.{Bool}
use mathlib.Core.Path.{◌∙◌, ◌≡◌, ap, sym}
use lib.IntN.{negsuc, pos}
use mir.Facts.{to_z-of_z}
use borrow.Author.Rules.{rules}
use Rattle.equations.specs.Taps.{moved_tap, stepped, wants_down, wants_up}
use Rattle.taps.proofs.moved_tap.Goals as goal
use Rattle.taps.proofs.moved_tap.Goals.{After-wants_down, After-wants_up}

up : (c : After-wants_up) {d : Bool} → c.wants_up.result ≡ d → wants_up c.args.x c.args.r ≡ d
up c t = sym c.wants_up.ensures ∙ t

down : (c : After-wants_down) {d : Bool} → c.wants_down.result ≡ d → wants_down c.args.x c.args.r ≡ d
down c t = sym c.wants_down.ensures ∙ t

pub returns-then-wants_up : goal.returns-then-wants_up
unfolding moved_tap
returns-then-wants_up c =
    record { value = simp (up (goal.at.returns-then-wants_up c).After-wants_up c.if-wants_up.true) (to_z-of_z c.stepped.ensures.fits ∙ c.stepped.ensures.value ∙ ap (stepped (pos 1)) (to_z-of_z c.ranges.tap)); fits = search rules }

pub returns-then-wants_down : goal.returns-then-wants_down
unfolding moved_tap
returns-then-wants_down c =
    record { value = simp (up (goal.at.returns-then-wants_down c).After-wants_up c.if-wants_up.false, down (goal.at.returns-then-wants_down c).After-wants_down c.if-wants_down.true) (to_z-of_z c.stepped-then-wants_down.ensures.fits ∙ c.stepped-then-wants_down.ensures.value ∙ ap (stepped (negsuc 0)) (to_z-of_z c.ranges.tap)); fits = search rules }

pub returns : goal.returns
unfolding moved_tap
returns c =
    record { value = simp (up (goal.at.returns c).After-wants_up c.if-wants_up.false, down (goal.at.returns c).After-wants_down c.if-wants_down.false) (to_z-of_z c.ranges.tap); fits = search rules }
