-- `wants_up` meets its contract: the two sides are those of the definition. Assumes nothing.
use mathlib.Core.Bool.{false, true}
use mathlib.Core.Path.{◌∙◌, ◌≡◌, ap, refl}
use Prim.Native.Nat.{◌*◌, ◌≤◌, ℕ}
use native.Mathlib.Nat.{mul-le-mul}
use native.Mathlib.Omega.{arith}
use lib.Dec.{ltb}
use lib.IntN.{◌*ℤ◌, ◌-ℤ◌, nat_abs, negsuc, pos, ℤ}
use lib.Signed.{le_z, lt_z}
use mir.Facts.{to_z-of_z}
use mir.Syntax.{w64}
use mir.Val.{SFits}
use borrow.Author.Rules.{sfits_of}
use borrow.Author.Tests.{le-leb, ltb-true}
use Rattle.integers.specs.Bools.{clash}
use Rattle.equations.specs.Taps.{wants_up}
use Rattle.integers.specs.Machine.{abs-read, read}
use Rattle.integers.specs.PairLaws.{square-bound}
use Rattle.integers.specs.Pairs.{square}
use Rattle.taps.proofs.wants_up.Goals as goal
use Rattle.taps.proofs.wants_up.Goals.{After-mul-twice, After-size-k, After-sub-bracket, Start}

fits : (s : Start) → SFits w64 s.args.x.level × SFits w64 s.args.x.band
fits s = search sfits_of

-- 2·level, and the bracket
twice : (c : After-mul-twice) → read c.mul-twice.result ≡ pos 2 *ℤ c.args.x.level
twice c = to_z-of_z c.mul-twice.ensures.fits ∙ c.mul-twice.ensures.value ∙ ap (λ (k : ℤ). pos 2 *ℤ k) (to_z-of_z (fits (goal.at.After-mul-twice c).Start).0)

bracket : (c : After-sub-bracket) → let x = c.args.x in c.sub-bracket.result ≡ pos 2 *ℤ x.level -ℤ x.band
bracket c = c.sub-bracket.ensures.value ∙ (λ i. twice (goal.at.After-sub-bracket c).After-mul-twice i -ℤ to_z-of_z (fits (goal.at.After-sub-bracket c).Start).1 i)

small : (c : After-sub-bracket) → nat_abs c.sub-bracket.result ≤ 60000
small c =
    omega (arith, c.sub-bracket.ensures.size, abs-read c.mul-twice.ensures.fits, c.mul-twice.ensures.size, abs-read (fits (goal.at.After-sub-bracket c).Start).0, abs-read (fits (goal.at.After-sub-bracket c).Start).1, c.requires.level, c.requires.band)

-- a bracket below 0 is not at least 0, and one that is not below 0 is
below : (b : ℤ) → lt_z b (pos 0) ≡ true → le_z (pos 0) b ≡ false
below (pos n) e = let h = ltb-true n 0 e in absurd (omega arith)
below (negsuc n) e = refl

least : (b : ℤ) → lt_z b (pos 0) ≡ false → le_z (pos 0) b ≡ true
least (pos n) e = le-leb 0 n (omega arith)
least (negsuc n) e = clash true refl e

pub returns-then-negative : goal.returns-then-negative
unfolding wants_up
returns-then-negative c =
    let t : le_z (pos 0) c.sub-bracket.result ≡ false = below c.sub-bracket.result (rw (to_z-of_z c.sub-bracket.ensures.fits) at c.if-negative.true) in
    simp (rw (bracket (goal.at.returns-then-negative c).After-sub-bracket) at t)

-- the sides of the test
left : (c : After-size-k) → 4 * c.square-m.result ≡ 4 * square c.args.r
left c = ap (λ (n : ℕ). 4 * n) c.square-m.ensures

right : (c : After-size-k) → c.size-k.result ≡ nat_abs c.sub-bracket.result
right c = c.size-k.ensures ∙ abs-read c.sub-bracket.ensures.fits

most : (c : After-size-k) → c.size-k.result * c.size-k.result ≤ 3600000000
most c = let h : c.size-k.result ≤ 60000 = rw (right c) (small (goal.at.After-size-k c).After-sub-bracket) in mul-le-mul h h

pub overflow_mul-result : goal.overflow_mul-result
overflow_mul-result c = record { fits = omega (arith, left c, square-bound c.requires.within) }

pub returns : goal.returns
unfolding wants_up
returns c =
    let t : le_z (pos 0) c.sub-bracket.result ≡ true = least c.sub-bracket.result (rw (to_z-of_z c.sub-bracket.ensures.fits) at c.if-negative.false) in
    let e = right c ∙ ap nat_abs (bracket (goal.at.returns c).After-sub-bracket) in
    simp (rw (bracket (goal.at.returns c).After-sub-bracket) at t) (λ i. ltb (left c i) (e i * e i))
