-- `whole::rnd_div` meets its contract for every dividend. `quot_z` and `rem_z` are what the machine's division gives; each return is `near-stay` or `near_next`. Assumes nothing.
use mathlib.Core.Path.{◌≡◌, refl, sym, ap, ◌∙◌}
use mathlib.Core.Bool.{true, false}
use Prim.Native.Nat.{ℕ, zero, suc, ◌+◌, ◌-◌, ◌/◌, ◌%◌, ◌≤◌, ◌<◌, ◌^◌, min}
use native.Mathlib.Nat.{mod-lt, div-le_self, div-add-mod', le-mul_of_pos_right}
use native.Mathlib.Numerals.{add-one}
use native.Mathlib.Omega.{arith}
use lib.Dec.{ltb→lt}
use lib.IntN.{ℤ, pos, negsuc, nat_abs, neg_ℤ, ◌+ℤ◌, ◌-ℤ◌}
use lib.Signed.{mag, quot_z, rem_z, le_z, ◌<ℤ◌, mag_rem}
use mir.Syntax.{w64}
use mir.Val.{SFits, of_z}
use mir.Facts.{to_z-of_z}
use mir.ValLaws.{sfits_le}
use Rattle.integers.specs.Whole.{pos_part, neg_part, one-part, abs-parts, add_parts, pos-neg, neg-neg, parts, zarith, abs_neg, parts-eq, le_z-true, le_z-false}
use Rattle.integers.specs.Machine.{sfits, read}
use Rattle.integers.specs.Rounding.{rnd}
use Rattle.integers.proofs.RoundingLaws.{near-stay, near_next}
use Rattle.integers.proofs.whole.rnd_div.Goals as goal
use Rattle.integers.proofs.whole.rnd_div.Goals.{Else-b-r, Else-b-r-2, Else-r-ge0, Start, Then-b-r, Then-b-r-2, Then-r-ge0}

-- what is known of the parameters
record Given (a b : ℤ) : Type 0 where
  dividend : SFits w64 a
  divisor : SFits w64 b
  positive : pos 0 <ℤ b

given : (c : Start) → Given c.args.a c.args.b
given c = record { dividend = c.ranges.a; divisor = c.ranges.b; positive = c.requires }

bits_pos : (b : ℤ) → pos 0 <ℤ b → 0 < of_z w64 b
bits_pos (pos n) h = ltb→lt 0 n h.lt
bits_pos (negsuc n) h = absurd h.lt

mag-quot : (a b : ℤ) → pos 0 <ℤ b → mag (quot_z a b) ≤ mag a
mag-quot (pos n) (pos d) h = div-le_self n d
mag-quot (negsuc n) (pos d) h = mag-neg (suc n / d) (div-le_self (suc n) d)
  where
    mag-neg : (r : ℕ) {a : ℕ} → r ≤ suc a → mag (neg_ℤ (pos r)) ≤ a
    mag-neg zero h = omega arith
    mag-neg (suc r) h = omega arith
mag-quot a (negsuc d) h = absurd h.lt

fits-quot : {a b : ℤ} → Given a b → SFits w64 (quot_z a b)
fits-quot {a} {b} g = sfits_le (mag-quot a b g.positive) g.dividend

fits-rem : {a b : ℤ} → Given a b → SFits w64 (rem_z a b)
fits-rem {a} {b} g = sfits_le (mag_rem a b) g.dividend

-- ---- the steps, on whole numbers
rem_lt : {a b : ℤ} → Given a b → nat_abs (rem_z a b) < nat_abs b
rem_lt {a = pos n} {b = pos d} g = mod-lt n (ltb→lt 0 d g.positive.lt)
rem_lt {a = negsuc n} {b = pos d} g = omega (arith, abs_neg (pos (suc n % d)), mod-lt (suc n) (ltb→lt 0 d g.positive.lt))
rem_lt {b = negsuc d} g = absurd g.positive.lt

-- the remainder is nearer to 0 than to b
stay : {a b : ℤ} → Given a b → nat_abs (rem_z a b) < nat_abs b - nat_abs (rem_z a b) → quot_z a b ≡ rnd a (nat_abs b)
unfolding rnd
stay {a = pos n} {b = pos d} g h = ap pos (sym (near-stay n d (ltb→lt 0 d g.positive.lt) h))
stay {a = negsuc n} {b = pos d} g h = ap (λ (k : ℕ). neg_ℤ (pos k)) (sym (near-stay (suc n) d (ltb→lt 0 d g.positive.lt) (omega (arith, abs_neg (pos (suc n % d))))))
stay {b = negsuc d} g h = absurd g.positive.lt

-- it is not: the quotient moves away from 0, and still fits
away-up : {a b : ℤ} → Given a b → le_z (pos 0) (rem_z a b) ≡ true → nat_abs b - nat_abs (rem_z a b) ≤ nat_abs (rem_z a b) → (quot_z a b +ℤ pos 1 ≡ rnd a (nat_abs b)) × SFits w64 (quot_z a b +ℤ pos 1)
unfolding rnd
away-up {a = pos n} {b = pos d} g t h =
    let p = ltb→lt 0 d g.positive.lt in
    (ap pos (sym (near_next n d p h)), record { sfits = omega (arith, div-add-mod' n d, le-mul_of_pos_right (n / d) p, g.dividend.sfits) })
away-up {a = negsuc n} {b = pos d} g t h =
    absurd (omega (arith, ltb→lt 0 d g.positive.lt, simp parts at (le_z-true (pos 0) (neg_ℤ (pos (suc n % d))) t), abs_neg (pos (suc n % d))))
away-up {b = negsuc d} g t h = absurd g.positive.lt

neg-less : (q : ℕ) → neg_ℤ (pos q) -ℤ pos 1 ≡ negsuc q
neg-less q = parts-eq (simp parts (omega arith))

away-down : {a b : ℤ} → Given a b → le_z (pos 0) (rem_z a b) ≡ false → nat_abs b - nat_abs (rem_z a b) ≤ nat_abs (rem_z a b) → (quot_z a b -ℤ pos 1 ≡ rnd a (nat_abs b)) × SFits w64 (quot_z a b -ℤ pos 1)
unfolding rnd
away-down {a = pos n} {b = pos d} g t h = absurd (omega (arith, le_z-false (pos 0) (pos (n % d)) t))
away-down {a = negsuc n} {b = pos d} g t h =
    let p = ltb→lt 0 d g.positive.lt in
    let e = near_next (suc n) d p (omega (arith, abs_neg (pos (suc n % d)))) in
    (neg-less (suc n / d) ∙ sym (ap (λ (k : ℕ). neg_ℤ (pos k)) (e ∙ add-one (suc n / d))), rw neg-less (record { sfits = omega (arith, div-add-mod' (suc n) d, le-mul_of_pos_right (suc n / d) p, g.dividend.sfits, abs_neg (pos (suc n % d)), mod-lt (suc n) p) }))
away-down {b = negsuc d} g t h = absurd g.positive.lt

pub nonzero_div-q : goal.nonzero_div-q
nonzero_div-q c = (bits_pos c.args.b c.requires, rw (to_z-of_z c.ranges.a, to_z-of_z c.ranges.b) (fits-quot (given c)))

pub nonzero_rem-r : goal.nonzero_rem-r
nonzero_rem-r c = nonzero_div-q c

-- what `omega` is told of b, which is from 1 to 2 ^ 63 − 1, of the remainder r, and of b − r, b + r and −r
record Known (b r : ℤ) : Type 0 where
  low : 0 < pos_part b
  high : pos_part b < 2 ^ 63
  none : neg_part b ≡ 0
  size : nat_abs b ≡ pos_part b + neg_part b
  left : nat_abs r ≡ pos_part r + neg_part r
  one : min (pos_part r) (neg_part r) ≡ 0
  less : nat_abs r < nat_abs b
  gap : pos_part (b -ℤ r) + (neg_part b + pos_part r) ≡ pos_part b + neg_part r + neg_part (b -ℤ r)
  sum : pos_part (b +ℤ r) + (neg_part b + neg_part r) ≡ pos_part b + pos_part r + neg_part (b +ℤ r)
  back : pos_part (pos 0 -ℤ r) + pos_part r ≡ neg_part r + neg_part (pos 0 -ℤ r)

known : {a b : ℤ} → Given a b → Known b (rem_z a b)
known {a} {b = pos d} g =
    let r = rem_z a (pos d) in
    let m : pos_part (neg_ℤ r) ≡ neg_part r = pos-neg r in
    let n : neg_part (neg_ℤ r) ≡ pos_part r = neg-neg r in
    record {
      low = ltb→lt 0 d g.positive.lt;
      high = g.divisor.sfits;
      none = refl;
      size = abs-parts (pos d);
      left = abs-parts r;
      one = one-part r;
      less = rem_lt g;
      gap = omega (arith, add_parts (pos d) (neg_ℤ r));
      sum = add_parts (pos d) r;
      back = omega (arith, add_parts (pos 0) (neg_ℤ r));
    }
known {b = negsuc d} g = absurd g.positive.lt

-- b − r for r from 0 up; b + r and −r for r below 0
fits-gap : {a b : ℤ} → Given a b → le_z (pos 0) (rem_z a b) ≡ true → SFits w64 (b -ℤ rem_z a b)
fits-gap {a} {b} g t = let k = known g in sfits (omega (zarith, abs-parts (b -ℤ rem_z a b), one-part (b -ℤ rem_z a b)))

fits_sum : {a b : ℤ} → Given a b → le_z (pos 0) (rem_z a b) ≡ false → SFits w64 (b +ℤ rem_z a b)
fits_sum {a} {b} g t = let k = known g in sfits (omega (zarith, abs-parts (b +ℤ rem_z a b), one-part (b +ℤ rem_z a b)))

fits_neg : {a b : ℤ} → Given a b → SFits w64 (pos 0 -ℤ rem_z a b)
fits_neg {a} {b} g = let k = known g in sfits (omega (arith, abs-parts (pos 0 -ℤ rem_z a b), one-part (pos 0 -ℤ rem_z a b)))

-- ---- what each test of the code says of the whole numbers
-- the parameters, the quotient and the remainder are read as they are
reads-q : (s : Start) → read (quot_z (read s.args.a) (read s.args.b)) ≡ quot_z s.args.a s.args.b
reads-q s = simp (to_z-of_z s.ranges.a, to_z-of_z s.ranges.b, to_z-of_z (fits-quot (given s)))

reads-r : (s : Start) → read (rem_z (read s.args.a) (read s.args.b)) ≡ rem_z s.args.a s.args.b
reads-r s = simp (to_z-of_z s.ranges.a, to_z-of_z s.ranges.b, to_z-of_z (fits-rem (given s)))

not-below : (c : Then-r-ge0) → le_z (pos 0) (rem_z c.args.a c.args.b) ≡ true
not-below c = rw (reads-r (goal.at.Then-r-ge0 c).Start) at c.if-r-ge0.true

below : (c : Else-r-ge0) → le_z (pos 0) (rem_z c.args.a c.args.b) ≡ false
below c = rw (reads-r (goal.at.Else-r-ge0 c).Start) at c.if-r-ge0.false

pub overflow_sub-b : goal.overflow_sub-b
overflow_sub-b c = rw (reads-r (goal.at.overflow_sub-b c).Start, to_z-of_z c.ranges.b) (fits-gap (given (goal.at.overflow_sub-b c).Start) (not-below c))

pub overflow_add-b : goal.overflow_add-b
overflow_add-b c = rw (reads-r (goal.at.overflow_add-b c).Start, to_z-of_z c.ranges.b) (fits_sum (given (goal.at.overflow_add-b c).Start) (below c))

pub overflow_sub-r : goal.overflow_sub-r
overflow_sub-r c = rw (reads-r (goal.at.overflow_sub-r c).Start) (fits_neg (given (goal.at.overflow_sub-r c).Start))

-- what is left to b is no larger than the remainder, or it is larger
gap-small : (c : Then-b-r) → nat_abs c.args.b - nat_abs (rem_z c.args.a c.args.b) ≤ nat_abs (rem_z c.args.a c.args.b)
gap-small c =
    let k = known (given (goal.at.Then-b-r c).Start) in
    let t = not-below (goal.at.Then-b-r c).Then-r-ge0 in
    let u = rw (reads-r (goal.at.Then-b-r c).Start, to_z-of_z c.ranges.b, to_z-of_z (fits-gap (given (goal.at.Then-b-r c).Start) t)) at c.if-b-r.true in
    omega zarith

gap-large : (c : Else-b-r) → nat_abs (rem_z c.args.a c.args.b) < nat_abs c.args.b - nat_abs (rem_z c.args.a c.args.b)
gap-large c =
    let k = known (given (goal.at.Else-b-r c).Start) in
    let t = not-below (goal.at.Else-b-r c).Then-r-ge0 in
    let u = rw (reads-r (goal.at.Else-b-r c).Start, to_z-of_z c.ranges.b, to_z-of_z (fits-gap (given (goal.at.Else-b-r c).Start) t)) at c.if-b-r.false in
    omega zarith

sum-small : (c : Then-b-r-2) → nat_abs c.args.b - nat_abs (rem_z c.args.a c.args.b) ≤ nat_abs (rem_z c.args.a c.args.b)
sum-small c =
    let k : Known c.args.b (rem_z c.args.a c.args.b) = known (given (goal.at.Then-b-r-2 c).Start) in
    let t : le_z (pos 0) (rem_z c.args.a c.args.b) ≡ false = below (goal.at.Then-b-r-2 c).Else-r-ge0 in
    let u : le_z (c.args.b +ℤ rem_z c.args.a c.args.b) (pos 0 -ℤ rem_z c.args.a c.args.b) ≡ true = rw (reads-r (goal.at.Then-b-r-2 c).Start, to_z-of_z c.ranges.b, to_z-of_z (fits_sum (given (goal.at.Then-b-r-2 c).Start) t), to_z-of_z (fits_neg (given (goal.at.Then-b-r-2 c).Start))) at c.if-b-r-2.true in
    omega zarith

sum-large : (c : Else-b-r-2) → nat_abs (rem_z c.args.a c.args.b) < nat_abs c.args.b - nat_abs (rem_z c.args.a c.args.b)
sum-large c =
    let k : Known c.args.b (rem_z c.args.a c.args.b) = known (given (goal.at.Else-b-r-2 c).Start) in
    let t : le_z (pos 0) (rem_z c.args.a c.args.b) ≡ false = below (goal.at.Else-b-r-2 c).Else-r-ge0 in
    let u : le_z (c.args.b +ℤ rem_z c.args.a c.args.b) (pos 0 -ℤ rem_z c.args.a c.args.b) ≡ false = rw (reads-r (goal.at.Else-b-r-2 c).Start, to_z-of_z c.ranges.b, to_z-of_z (fits_sum (given (goal.at.Else-b-r-2 c).Start) t), to_z-of_z (fits_neg (given (goal.at.Else-b-r-2 c).Start))) at c.if-b-r-2.false in
    omega zarith

next_up : (c : Then-b-r) → (quot_z c.args.a c.args.b +ℤ pos 1 ≡ rnd c.args.a (nat_abs c.args.b)) × SFits w64 (quot_z c.args.a c.args.b +ℤ pos 1)
next_up c =
    let g = given (goal.at.Then-b-r c).Start in
    away-up g (not-below (goal.at.Then-b-r c).Then-r-ge0) (gap-small c)

next_down : (c : Then-b-r-2) → (quot_z c.args.a c.args.b -ℤ pos 1 ≡ rnd c.args.a (nat_abs c.args.b)) × SFits w64 (quot_z c.args.a c.args.b -ℤ pos 1)
next_down c =
    let g = given (goal.at.Then-b-r-2 c).Start in
    away-down g (below (goal.at.Then-b-r-2 c).Else-r-ge0) (sum-small c)

pub overflow_add-result : goal.overflow_add-result
overflow_add-result c = rw (reads-q (goal.at.overflow_add-result c).Start) (next_up c).1

pub overflow_sub-result : goal.overflow_sub-result
overflow_sub-result c = rw (reads-q (goal.at.overflow_sub-result c).Start) (next_down c).1

pub returns-then-b-r : goal.returns-then-b-r
returns-then-b-r c = rw (reads-q (goal.at.returns-then-b-r c).Start, to_z-of_z (next_up c).1) (next_up c).0

pub returns-else-b-r : goal.returns-else-b-r
returns-else-b-r c =
    let g = given (goal.at.returns-else-b-r c).Start in
    rw (reads-q (goal.at.returns-else-b-r c).Start) (stay g (gap-large c))

pub returns-then-b-r-2 : goal.returns-then-b-r-2
returns-then-b-r-2 c = rw (reads-q (goal.at.returns-then-b-r-2 c).Start, to_z-of_z (next_down c).1) (next_down c).0

pub returns-else-b-r-2 : goal.returns-else-b-r-2
returns-else-b-r-2 c =
    let g = given (goal.at.returns-else-b-r-2 c).Start in
    rw (reads-q (goal.at.returns-else-b-r-2 c).Start) (stay g (sum-large c))
