-- What is known where the rounds have ended: a feeder that differs in its taps alone, its solution, and that no phase that wants can move. Assumes nothing.
use Rattle.std.specs.Prelude.{Bool, cond, false, true, ◌≡◌, refl, ◌<◌, ◌≤◌, suc, zero, ℕ, Ok}
use Rattle.std.proofs.Common.{◌∙◌, subst, arith}
use Rattle.answers.specs.AnswerLaws.{bound, not-refused, same_good}
use Rattle.answers.specs.Answers.{◌>>=◌}
use Rattle.answers.specs.Only.{Only, cond-only, good-only, refused-only, then-only}
use Rattle.answers.specs.declared.Refusal.{Refusal}
use Rattle.answers.specs.declared.Refusal.TheVariants.{NotSettled, TapsMoving}
use Rattle.equations.proofs.TapMoves.{feeder-fixed, feeder-moves-in}
use Rattle.equations.specs.Taps.{at_rest, moved}
use Rattle.feeder.specs.Feeder.{Feeder, branch_at, level_of, row_count, taps_on, with_taps}
use Rattle.feeder.proofs.TapLaws.{Retapped, TapsIn, level-same, phases-same, retapped-self, retapped-with}
use Rattle.integers.specs.Pairs.{inside}
use Rattle.iteration.specs.Ladder.{Solution, solution}
use Rattle.iteration.proofs.LadderLaws.{SweepsHave, solution-only}
use Rattle.rounds.specs.Rounds.{Regulated, regulated, rounds}

-- one round
pub rounds-step : (left : ℕ) (f : Feeder) → rounds (suc left) f
    ≡ (solution f >>= λ x. cond (at_rest f x.voltages x.currents) (Ok (record { feeder = f; solution = x })) (rounds left (with_taps (moved f x.voltages x.currents) f)))
unfolding rounds
rounds-step left f = refl

-- the taps of g, on the phases of f
abbrev pub TapsWithin : Feeder → Feeder → Type 0
TapsWithin f g = (k : ℕ) → k < row_count f → TapsIn (branch_at f (suc k)).phases (taps_on (branch_at g (suc k)).device)

-- taps that level 0 keeps as they were in f
abbrev pub TapsFixed : Feeder → Feeder → Type 0
TapsFixed f g = (k : ℕ) → k < row_count f → inside 0 (level_of (branch_at f (suc k)).device) ≡ true → taps_on (branch_at g (suc k)).device ≡ taps_on (branch_at f (suc k)).device

pub record Ended (f : Feeder) (y : Regulated) : Type 0 where
  pub retapped : Retapped f y.feeder
  pub taps : TapsWithin f y.feeder
  pub fixed : TapsFixed f y.feeder
  pub solved-as : solution y.feeder ≡ Ok y.solution
  pub rest : at_rest y.feeder y.solution.voltages y.solution.currents ≡ true

-- a move leaves all but the taps, and these within ±16
moved-within : (f g : Feeder) (x : Solution) → Retapped f g → TapsWithin f g → TapsWithin f (with_taps (moved g x.voltages x.currents) g)
moved-within f g x h t k q =
    let n : k < row_count g = rw h.rows q in
    rw (phases-same h (suc k)) at (feeder-moves-in g x.voltages x.currents (suc k) (omega arith) (rw (phases-same h (suc k)) (t k q)))

moved-fixed : (f g : Feeder) (x : Solution) → Retapped f g → TapsFixed f g → TapsFixed f (with_taps (moved g x.voltages x.currents) g)
moved-fixed f g x h t k q e =
    let n : k < row_count g = rw h.rows q in
    feeder-fixed g x.voltages x.currents (suc k) (omega arith) (rw (level-same h (suc k)) e) ∙ t k q e

rounds-end : (left : ℕ) (f g : Feeder) (y : Regulated) → Retapped f g → TapsWithin f g → TapsFixed f g → rounds left g ≡ Ok y → Ended f y
unfolding rounds
rounds-end zero f g y h t z e = not-refused _ y e
rounds-end (suc left) f g y h t z e =
    let after : Solution → Feeder = λ x. with_taps (moved g x.voltages x.currents) g in
    let b = bound (solution g) (λ x. cond (at_rest g x.voltages x.currents) (Ok (record { feeder = g; solution = x })) (rounds left (after x))) y e in
    go b.value b.came (at_rest g b.value.voltages b.value.currents) refl b.rest (rounds-end left f (after b.value) y (retapped-with f g _ h) (moved-within f g b.value h t) (moved-fixed f g b.value h z))
  where
    go : (x : Solution) → solution g ≡ Ok x → (c : Bool) → at_rest g x.voltages x.currents ≡ c
        → cond c (Ok (record { feeder = g; solution = x })) (rounds left (with_taps (moved g x.voltages x.currents) g)) ≡ Ok y
        → (rounds left (with_taps (moved g x.voltages x.currents) g) ≡ Ok y → Ended f y) → Ended f y
    go x s true r e far = subst (Ended f) (same_good _ y e) (record { retapped = h; taps = t; fixed = z; solved-as = s; rest = r })
    go x s false r e far = far e

pub regulated-end : (f : Feeder) (y : Regulated) → TapsWithin f f → regulated f ≡ Ok y → Ended f y
unfolding regulated
regulated-end f y t e = rounds-end 32 f f y (retapped-self f) t (λ k q n. refl) e

-- ---- what they can refuse with: 30 to 34 of a round, and 35
rounds-only : {P : Refusal → Type 0} (left : ℕ) (f : Feeder) → P (TapsMoving 32) → P (NotSettled f.limit) → ((j : ℕ) → j ≤ f.limit → SweepsHave P j) → Only P (rounds left f)
unfolding rounds with_taps
rounds-only zero f moving last h = refused-only (TapsMoving 32) moving
rounds-only (suc left) f moving last h = then-only (solution f) _ (solution-only f last h)
    (λ x e. cond-only (at_rest f x.voltages x.currents) _ _ (good-only _) (rounds-only left (with_taps (moved f x.voltages x.currents) f) moving last h))

pub regulated-only : {P : Refusal → Type 0} (f : Feeder) → P (TapsMoving 32) → P (NotSettled f.limit) → ((j : ℕ) → j ≤ f.limit → SweepsHave P j) → Only P (regulated f)
unfolding regulated
regulated-only f = rounds-only 32 f
