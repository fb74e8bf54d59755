-- `moved_taps` meets its contract, phase by phase. Assumes nothing.
use mathlib.Core.Bool.{Bool, cond}
use mathlib.Core.Path.{◌∙◌, ◌≡◌, ap, sym}
use lib.IntN.{ℤ}
use mir.Facts.{to_z-of_z}
use mir.Syntax.{w64}
use mir.Val.{SFits}
use borrow.Author.Rules.{sfits_of}
use Rattle.equations.specs.Taps.{moved_tap, moved_taps, relay_voltage}
use Rattle.integers.specs.Pairs.{inside}
use Rattle.taps.proofs.moved_taps.Goals as goal
use Rattle.taps.proofs.moved_taps.Goals.{After-inside, Start}

fits : (s : Start) → SFits w64 s.args.x.level × (SFits w64 s.args.x.taps.a × (SFits w64 s.args.x.taps.b × SFits w64 s.args.x.taps.c))
fits s = search sfits_of

tested : (c : After-inside) {d : Bool} → c.inside.result ≡ d → inside 0 c.args.x.level ≡ d
tested c t = sym (ap (inside 0) (to_z-of_z (fits (goal.at.After-inside c).Start).0)) ∙ sym c.inside.ensures ∙ t

pub returns-then-inside : goal.returns-then-inside
unfolding moved_taps
returns-then-inside c = simp (tested (goal.at.returns-then-inside c).After-inside c.if-inside.true)

pub phase_tap-a-requires-clause-relay_ok : goal.phase_tap-a-requires-clause-relay_ok
phase_tap-a-requires-clause-relay_ok c = c.requires.changer_ok.relay (tested (goal.at.phase_tap-a-requires-clause-relay_ok c).After-inside c.if-inside.false)

pub phase_tap-b-requires-clause-relay_ok : goal.phase_tap-b-requires-clause-relay_ok
phase_tap-b-requires-clause-relay_ok c = c.requires.changer_ok.relay (tested (goal.at.phase_tap-b-requires-clause-relay_ok c).After-inside c.if-inside.false)

pub phase_tap-c-requires-clause-relay_ok : goal.phase_tap-c-requires-clause-relay_ok
phase_tap-c-requires-clause-relay_ok c = c.requires.changer_ok.relay (tested (goal.at.phase_tap-c-requires-clause-relay_ok c).After-inside c.if-inside.false)

pub returns : goal.returns
unfolding moved_taps
returns c =
    simp (tested (goal.at.returns c).After-inside c.if-inside.false) (λ j. record {
      a = (to_z-of_z c.phase_tap-a.ensures.fits ∙ c.phase_tap-a.ensures.value ∙ ap (λ (t : ℤ). cond c.args.f.a (moved_tap c.args.x (relay_voltage c.args.x c.args.u.a c.args.i.a) t) t) (to_z-of_z (fits (goal.at.returns c).Start).1.0)) j;
      b = (to_z-of_z c.phase_tap-b.ensures.fits ∙ c.phase_tap-b.ensures.value ∙ ap (λ (t : ℤ). cond c.args.f.b (moved_tap c.args.x (relay_voltage c.args.x c.args.u.b c.args.i.b) t) t) (to_z-of_z (fits (goal.at.returns c).Start).1.1.0)) j;
      c = (to_z-of_z c.phase_tap-c.ensures.fits ∙ c.phase_tap-c.ensures.value ∙ ap (λ (t : ℤ). cond c.args.f.c (moved_tap c.args.x (relay_voltage c.args.x c.args.u.c c.args.i.c) t) t) (to_z-of_z (fits (goal.at.returns c).Start).1.1.1)) j;
    })
