-- Taps after a move are within ±16, as the code asks of them. Assumes nothing.
use Rattle.std.specs.Prelude.{Bool, cond, false, true, ◌≡◌, ◌≤◌, nat_abs, ℤ}
use Rattle.std.proofs.Common.{ap}
use Rattle.equations.specs.Equations.{at}
use Rattle.equations.specs.Limits.{TapsOk}
use Rattle.equations.proofs.TapMoves.{moved-in}
use Rattle.equations.specs.Taps.{moved_on, moved_tap, moved_taps, relay_voltage}
use Rattle.feeder.specs.Feeder.{has, no_taps, tap_at}
use Rattle.feeder.specs.declared.Branch.{Branch}
use Rattle.feeder.specs.declared.Device.{Device}
use Rattle.feeder.specs.declared.Device.TheVariants.{Line, Regulator, Transformer}
use Rattle.feeder.specs.declared.Phase.{Phase}
use Rattle.feeder.specs.declared.Phase.TheVariants.{A, B, C}
use Rattle.feeder.specs.Phased.{Phases, Three}
use Rattle.feeder.specs.declared.TapChanger.{TapChanger}
use Rattle.integers.specs.Pairs.{inside}

either : (c : Bool) (x y : ℤ) → nat_abs x ≤ 16 → nat_abs y ≤ 16 → nat_abs (cond c x y) ≤ 16
either true x y h k = h
either false x y h k = k

pub moved_ok : (x : TapChanger) (f : Phases) (u i : Three) → TapsOk x.taps → TapsOk (moved_taps x f u i)
unfolding moved_taps
moved_ok x f u i h = go (inside 0 x.level)
  where
    one : (p : Phase) → nat_abs (tap_at x.taps p) ≤ 16 → nat_abs (cond (has f p) (moved_tap x (relay_voltage x (at u p) (at i p)) (tap_at x.taps p)) (tap_at x.taps p)) ≤ 16
    one p s = either (has f p) _ _ (moved-in x _ (tap_at x.taps p) s) s

    go : (c : Bool) → TapsOk (cond c x.taps (record {
      a = cond (has f A) (moved_tap x (relay_voltage x (at u A) (at i A)) (tap_at x.taps A)) (tap_at x.taps A);
      b = cond (has f B) (moved_tap x (relay_voltage x (at u B) (at i B)) (tap_at x.taps B)) (tap_at x.taps B);
      c = cond (has f C) (moved_tap x (relay_voltage x (at u C) (at i C)) (tap_at x.taps C)) (tap_at x.taps C);
    }))
    go true = h
    go false = record { a = one A h.a; b = one B h.b; c = one C h.c }

-- what a regulator's branch gets by a move
pub regulator-moves : (b : Branch) (u i : Three) (x : TapChanger) → b.device ≡ Regulator x → moved_on b u i ≡ moved_taps x b.phases u i
unfolding moved_on
regulator-moves b u i x e = ap (λ (d : Device). elim d [ Line z ↦ no_taps | Regulator x ↦ moved_taps x b.phases u i | Transformer x ↦ no_taps ]) e
