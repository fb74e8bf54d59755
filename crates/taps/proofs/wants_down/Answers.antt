-- `wants_down` meets its contract: the two sides are those of the definition. Assumes nothing.
use mathlib.Core.Path.{◌∙◌, ◌≡◌, ap}
use Prim.Native.Nat.{◌*◌, ◌≤◌, ℕ}
use native.Mathlib.Nat.{mul-le-mul}
use native.Mathlib.Omega.{arith}
use lib.Dec.{ltb}
use lib.IntN.{◌*ℤ◌, ◌+ℤ◌, nat_abs, pos, ℤ}
use mir.Facts.{to_z-of_z}
use mir.Syntax.{w64}
use mir.Val.{SFits}
use borrow.Author.Rules.{sfits_of}
use Rattle.equations.specs.Taps.{wants_down}
use Rattle.integers.specs.Machine.{abs-read, read}
use Rattle.integers.specs.PairLaws.{square-bound}
use Rattle.integers.specs.Pairs.{square}
use Rattle.taps.proofs.wants_down.Goals as goal
use Rattle.taps.proofs.wants_down.Goals.{After-add-bracket, After-mul-twice, After-size-k, Start}

fits : (s : Start) → SFits w64 s.args.x.level × SFits w64 s.args.x.band
fits s = search sfits_of

-- 2·level, and the bracket
twice : (c : After-mul-twice) → read c.mul-twice.result ≡ pos 2 *ℤ c.args.x.level
twice c = to_z-of_z c.mul-twice.ensures.fits ∙ c.mul-twice.ensures.value ∙ ap (λ (k : ℤ). pos 2 *ℤ k) (to_z-of_z (fits (goal.at.After-mul-twice c).Start).0)

bracket : (c : After-add-bracket) → let x = c.args.x in c.add-bracket.result ≡ pos 2 *ℤ x.level +ℤ x.band
bracket c = c.add-bracket.ensures.value ∙ (λ i. twice (goal.at.After-add-bracket c).After-mul-twice i +ℤ to_z-of_z (fits (goal.at.After-add-bracket c).Start).1 i)

small : (c : After-add-bracket) → nat_abs c.add-bracket.result ≤ 60000
small c =
    omega (arith, c.add-bracket.ensures.size, abs-read c.mul-twice.ensures.fits, c.mul-twice.ensures.size, abs-read (fits (goal.at.After-add-bracket c).Start).0, abs-read (fits (goal.at.After-add-bracket c).Start).1, c.requires.level, c.requires.band)

-- the sides of the test
left : (c : After-size-k) → 4 * c.square-m.result ≡ 4 * square c.args.r
left c = ap (λ (n : ℕ). 4 * n) c.square-m.ensures

right : (c : After-size-k) → c.size-k.result ≡ nat_abs c.add-bracket.result
right c = c.size-k.ensures ∙ abs-read c.add-bracket.ensures.fits

most : (c : After-size-k) → c.size-k.result * c.size-k.result ≤ 3600000000
most c = let h : c.size-k.result ≤ 60000 = rw (right c) (small (goal.at.After-size-k c).After-add-bracket) in mul-le-mul h h

pub overflow_mul-result-2 : goal.overflow_mul-result-2
overflow_mul-result-2 c = record { fits = omega (arith, left c, square-bound c.requires.within) }

pub returns : goal.returns
unfolding wants_down
returns c =
    let e = right c ∙ ap nat_abs (bracket (goal.at.returns c).After-add-bracket) in
    λ i. ltb (e i * e i) (left c i)
