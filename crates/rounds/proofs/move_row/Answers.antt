-- `move_row` meets its contract: a regulator's taps are moved and stored, any other branch stays. Assumes nothing.
use Rattle.std.specs.Prelude.{false, not, ◌≡◌, None, Some}
use Rattle.std.proofs.Common.{◌∙◌, ap, refl, sym}
use Rattle.std.proofs.lemmas.Option.{none-some}
use Rattle.equations.specs.Taps.{moved_on, moved_taps, same_taps}
use Rattle.feeder.specs.Feeder.{regulates, regulator_of, tapped_branch, taps_on}
use Rattle.feeder.specs.declared.Branch.{Branch}
use Rattle.feeder.specs.declared.Device.{Device}
use Rattle.feeder.specs.declared.Device.TheVariants.{Line, Regulator, Transformer}
use Rattle.feeder.specs.declared.TapChanger.{TapChanger}
use Rattle.feeder.specs.Phased.{Taps, Three}
use Rattle.rounds.specs.Moving.{row-without-taps}
use Rattle.taps.specs.MovedTaps.{regulator-moves}
use Rattle.rounds.proofs.move_row.Goals as goal

-- a branch that is no regulator, and one that is
none-told : (d : Device) → regulator_of d ≡ None → regulates d ≡ false
none-told (Line z) h = refl
none-told (Regulator x) h = absurd (none-some x (sym h))
none-told (Transformer x) h = refl

one-told : (d : Device) (x : TapChanger) → regulator_of d ≡ Some x → d ≡ Regulator x
one-told (Line z) x h = absurd (none-some x h)
one-told (Regulator y) x h = cc
one-told (Transformer z) x h = absurd (none-some x h)

pub returns-in_default-clause-any : goal.returns-in_default-clause-any
returns-in_default-clause-any c =
    sym (ap not (row-without-taps c.args.b.now c.args.u c.args.i (none-told c.args.b.now.device (sym c.in_default.ensures))).0)

moved : (b : Branch) (u i : Three) (x : TapChanger) (t : Taps) → Some x ≡ regulator_of b.device → t ≡ moved_taps x b.phases u i → t ≡ moved_on b u i
moved b u i x t e h = h ∙ sym (regulator-moves b u i x (one-told b.device x (sym e)))

pub returns-clause-any : goal.returns-clause-any
returns-clause-any c =
    let b = c.args.b.now in
    let t = moved b c.args.u c.args.i c.in-Some.x c.moved_taps-t.result c.in-Some.ensures c.moved_taps-t.ensures in
    ap not (c.same_taps.ensures ∙ (λ j. same_taps (t j) (taps_on (sym (one-told b.device c.in-Some.x (sym c.in-Some.ensures)) j))))

pub returns-clause-row : goal.returns-clause-row
returns-clause-row c =
    let b = c.args.b.now in
    c.set_taps.ensures ∙ ap (λ (y : Taps). tapped_branch y b) (moved b c.args.u c.args.i c.in-Some.x c.moved_taps-t.result c.in-Some.ensures c.moved_taps-t.ensures)
