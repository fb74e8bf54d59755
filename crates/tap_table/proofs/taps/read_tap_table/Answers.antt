-- `tap_table::taps::read_tap_table` meets its contract: at each turn the arrays hold the rows read so far, and the rows that are left are behind them. Assumes nothing.
use mathlib.Core.Bool.{true}
use mathlib.Core.Path.{◌∙◌, ◌≡◌, refl, sym}
use Rattle.std.proofs.lemmas.Option.{MatchOption-at_none, MatchOption-at_some}
use Rattle.text.specs.Text.{begins, bytes}
use Rattle.tap_table.specs.AnswerLaws.{stands-refused}
use Rattle.tap_table.specs.TapTableLaws.{taps-ended, taps-next, taps-no-names, taps-start, taps-stop}
use Rattle.tap_table.proofs.taps.read_tap_table.Goals as goal
use Rattle.tap_table.proofs.taps.read_tap_table.Goals.{Else-not-stands}

-- the line of names stands
named : (c : Else-not-stands) → begins (bytes "to,tap_a,tap_b,tap_c\n") c.args.part.now ≡ true
unfolding bytes
named c = sym c.stands.ensures ∙ c.if-not-stands.false

pub returns-then-not-stands : goal.returns-then-not-stands
unfolding bytes
returns-then-not-stands c = stands-refused (taps-no-names _ _ (sym c.stands.ensures ∙ c.if-not-stands.true)) refl

pub loop-k-init : goal.loop-k-init
loop-k-init c = taps-start _ _ _ _ c.requires.names_value c.requires.taps_value

pub returns-in_default : goal.returns-in_default
returns-in_default c = stands-refused (taps-stop _ _ _ _ _ _ c.loop-k.invariant (named (goal.at.returns-in_default c).Else-not-stands) c.loop-k-test.true (MatchOption-at_none _ _ c.in_default.is c.read_tap_row.ensures)) refl

pub loop-k-preserved : goal.loop-k-preserved
loop-k-preserved c = taps-next _ _ _ _ _ _ c.loop-k.invariant _ _ _ c.requires.count_bound c.loop-k-test.true (MatchOption-at_some _ _ _ c.in-Some.is c.read_tap_row.ensures) refl

pub returns : goal.returns
returns c = taps-ended _ _ _ _ _ _ c.loop-k.invariant (named (goal.at.returns c).Else-not-stands) c.loop-k-test.false
