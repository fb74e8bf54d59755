-- A pair for each phase: how large what is worked with them can be, and what the tests on them say. Assumes nothing.
use Rattle.std.specs.Prelude.{Bool, ◌&&◌, cond, false, not, true, List, [], ◌∷◌, ◌≡◌, refl, ◌*◌, ◌+◌, ◌≤◌, suc, ℕ, T, leb, ◌*ℤ◌, ◌-ℤ◌, nat_abs, negsuc, neg_ℤ, pos, ℤ}
use Rattle.std.proofs.Common.{◌∙◌, ap, sym, arith, lit≤}
use Rattle.std.proofs.Math.IntN.{+ℤ_idl, zero-*ℤ}
use Rattle.equations.specs.Equations.{at, beyond, beyond3, each, masked, minus3, mix, plus3, power, row_at, sign_at, sign_table, z_of, zero3}
use Rattle.equations.specs.Matrices.{Matrix}
use Rattle.feeder.specs.Feeder.{abc, has, phase_signs, signs}
use Rattle.feeder.specs.declared.Connection.{Connection}
use Rattle.feeder.specs.declared.Connection.TheVariants.{Delta, Wye}
use Rattle.feeder.specs.declared.LineZ.{LineZ}
use Rattle.feeder.specs.declared.Phase.{Phase}
use Rattle.feeder.specs.declared.Phase.TheVariants.{A, B, C}
use Rattle.feeder.specs.Phased.{Phases, Signs, Three}
use Rattle.feeder.specs.declared.Terminals.{Terminals}
use Rattle.feeder.specs.declared.Terminals.TheVariants.{AB, BC, CA, OnA, OnB, OnC}
use Rattle.integers.specs.Bools.{clash, cond_ind}
use Rattle.integers.specs.ListLaws.{all_true, true-all}
use Rattle.integers.specs.Lists.{all, any, csum, All}
use Rattle.integers.specs.PairLaws.{+c-comm, +c-idl, +c-idr, Close, Within, close-true, pair_eq, true-close, true-within, within-add, within-le, within_more, within-mul-conj, within-scaled, within-sub, within-true}
use Rattle.integers.specs.Pairs.{0c, ◌+c◌, ◌-c◌, ◌·*◌, ◌·c◌, close, rnd_pair, scaled, within}
use Rattle.integers.specs.Ring.{neg-mulℤ, ring}
use Rattle.integers.specs.Whole.{abs-parts, add_parts, neg-neg, one-part, pos-neg}
use Rattle.integers.specs.declared.Pair.{Pair}

-- no part of any phase is beyond ±m. Contracts ask it, and no type has it: each step of the equations has a bound of its own, and would take the numbers out of one type
-- and into the next
pub record Within3 (m : ℕ) (x : Three) : Type 0 where
  pub a : Within m x.a
  pub b : Within m x.b
  pub c : Within m x.c

-- ---- phase by phase
pub within3-at : {m : ℕ} {x : Three} → Within3 m x → (p : Phase) → Within m (at x p)
within3-at h A = h.a
within3-at h B = h.b
within3-at h C = h.c

pub within3-each : {m : ℕ} {f : Phase → Pair} → ((p : Phase) → Within m (f p)) → Within3 m (each f)
unfolding each
within3-each h = record { a = h A; b = h B; c = h C }

-- of three values, each of which is known
pub within3-of : {m : ℕ} {x : Three} (f : Phase → Pair) → x.a ≡ f A → x.b ≡ f B → x.c ≡ f C → ((p : Phase) → Within m (f p)) → Within3 m x
within3-of f p q r h = record { a = rw p (h A); b = rw q (h B); c = rw r (h C) }

pub within3-le : {m n : ℕ} {x : Three} → m ≤ n → Within3 m x → Within3 n x
within3-le l h = record { a = within-le l h.a; b = within-le l h.b; c = within-le l h.c }

pub within3-more : {m n : ℕ} {x : Three} → Within3 m x → T (leb m n) → Within3 n x
within3-more h t = record { a = within_more h.a t; b = within_more h.b t; c = within_more h.c t }

-- ---- sizes
pub within-zero : {m : ℕ} → Within m 0c
within-zero = record { re = omega arith; im = omega arith }

pub within3-zero : {m : ℕ} → Within3 m zero3
within3-zero = record { a = within-zero; b = within-zero; c = within-zero }

pub within3-plus : {m n : ℕ} {x y : Three} → Within3 m x → Within3 n y → Within3 (m + n) (plus3 x y)
unfolding plus3
within3-plus h k = within3-each (λ p. within-add (within3-at h p) (within3-at k p))

pub within3-minus : {m n : ℕ} {x y : Three} → Within3 m x → Within3 n y → Within3 (m + n) (minus3 x y)
unfolding minus3
within3-minus h k = within3-each (λ p. within-sub (within3-at h p) (within3-at k p))

pub within3-masked : {m : ℕ} (f : Phases) {x : Three} → Within3 m x → Within3 m (masked f x)
unfolding masked
within3-masked {m} f {x} h = within3-each (λ p. cond_ind (has f p) (at x p) 0c (Within m) (λ t. within3-at h p) (λ t. within-zero))

-- a sum over the phases, as the code makes it
pub csum-abc : (f : Phase → Pair) → csum f abc ≡ f A +c (f B +c f C)
unfolding csum
csum-abc f = ap (λ (x : Pair). f A +c (f B +c x)) (+c-idr (f C))

pub csum-of : {x y z : Pair} (f : Phase → Pair) → x ≡ f A → y ≡ f B → z ≡ f C → x +c (y +c z) ≡ csum f abc
csum-of f p q r = (λ i. p i +c (q i +c r i)) ∙ sym (csum-abc f)

-- one phase of a line's drop, with the row of its impedances as three
abbrev pub z_row : LineZ → Phase → Three
z_row z A = record { a = z.aa; b = z.ab; c = z.ac }
z_row z B = record { a = z.ab; b = z.bb; c = z.bc }
z_row z C = record { a = z.ac; b = z.bc; c = z.cc }

pub line_row : (z : LineZ) (p : Phase) (i : Three)
    → rnd_pair (csum (λ j. at (z_row z p) j ·c at i j) abc) 10000000 ≡ rnd_pair (csum (λ j. z_of z p j ·c at i j) abc) 10000000
unfolding z_of
line_row z p i = ap (λ (s : Pair). rnd_pair s 10000000) (csum-abc (λ j. at (z_row z p) j ·c at i j) ∙ same p ∙ sym (csum-abc (λ j. z_of z p j ·c at i j)))
  where
    same : (p : Phase) → at (z_row z p) A ·c i.a +c (at (z_row z p) B ·c i.b +c at (z_row z p) C ·c i.c) ≡ z_of z p A ·c i.a +c (z_of z p B ·c i.b +c z_of z p C ·c i.c)
    same A = refl
    same B = refl
    same C = refl

pub within-csum : {m : ℕ} (f : Phase → Pair) → ((p : Phase) → Within m (f p)) → Within (3 * m) (csum f abc)
within-csum {m} f h =
    let k : Within (m + (m + m)) (f A +c (f B +c f C)) = within-add (h A) (within-add (h B) (h C)) in
    rw (csum-abc f) (record { re = omega (arith, k.re); im = omega (arith, k.im) })

pub power-within : {m n : ℕ} {x y : Three} → Within3 m x → Within3 n y → Within (3 * (2 * (m * n))) (power x y)
unfolding power
power-within {x = x} {y = y} h k = within-csum (λ p. at x p ·* at y p) (λ p. within-mul-conj (within3-at h p) (within3-at k p))

-- ---- rows of signs
pub record SignsOk (s : Signs) : Type 0 where
  pub a : nat_abs s.a ≤ 1
  pub b : nat_abs s.b ≤ 1
  pub c : nat_abs s.c ≤ 1

pub record MatrixOk (m : Matrix) : Type 0 where
  pub a : SignsOk m.a
  pub b : SignsOk m.b
  pub c : SignsOk m.c

pub row_ok : {m : Matrix} → MatrixOk m → (p : Phase) → SignsOk (row_at m p)
row_ok h A = h.a
row_ok h B = h.b
row_ok h C = h.c

pub sign-ok : {s : Signs} → SignsOk s → (p : Phase) → nat_abs (sign_at s p) ≤ 1
sign-ok h A = h.a
sign-ok h B = h.b
sign-ok h C = h.c

pub mix-within : {m : ℕ} {s : Signs} {x : Three} → SignsOk s → Within3 m x → Within (3 * m) (mix s x)
unfolding mix
mix-within {m} {s} {x} h k = within-csum (λ p. scaled (sign_at s p) (at x p)) one
  where
    one : (p : Phase) → Within m (scaled (sign_at s p) (at x p))
    one p = let w = within-scaled (sign_at s p) (sign-ok h p) (within3-at k p) in record { re = omega (arith, w.re); im = omega (arith, w.im) }

small : {a b c : ℤ} → T (leb (nat_abs a) 1) → T (leb (nat_abs b) 1) → T (leb (nat_abs c) 1) → SignsOk (signs a b c)
small p q r = record { a = lit≤ p; b = lit≤ q; c = lit≤ r }

-- every sign of the table is −1, 0 or 1
pub table-ok : (c : Connection) → MatrixOk (sign_table c).voltage × MatrixOk (sign_table c).current
table-ok Wye = (record { a = small tt tt tt; b = small tt tt tt; c = small tt tt tt }, record { a = small tt tt tt; b = small tt tt tt; c = small tt tt tt })
table-ok Delta = (record { a = small tt tt tt; b = small tt tt tt; c = small tt tt tt }, record { a = small tt tt tt; b = small tt tt tt; c = small tt tt tt })

-- ---- what a load's row of signs makes of a voltage and of a current
one-times : (a : ℤ) → pos 1 *ℤ a ≡ a
one-times (pos n) = ap pos (omega arith)
one-times (negsuc n) = ap (λ (k : ℕ). neg_ℤ (pos k)) (let e : 1 * suc n ≡ suc n = omega arith in e)

one_of : (x : Pair) → scaled (pos 1) x ≡ x
unfolding scaled
one_of x = pair_eq (one-times x.re) (one-times x.im)

pub none_of : (x : Pair) → scaled (pos 0) x ≡ 0c
unfolding scaled
none_of x = pair_eq (zero-*ℤ x.re) (zero-*ℤ x.im)

minus-of : (x : Pair) → scaled (negsuc 0) x ≡ 0c -c x
unfolding scaled ◌-c◌
minus-of x = pair_eq (part x.re) (part x.im)
  where
    part : (a : ℤ) → negsuc 0 *ℤ a ≡ pos 0 -ℤ a
    part a = neg-mulℤ (pos 1) a ∙ ap neg_ℤ (one-times a) ∙ sym (+ℤ_idl (neg_ℤ a))

-- a sum with a difference from 0 in it, on either side
plus-minus : (x y : Pair) → x +c (0c -c y) ≡ x -c y
unfolding ◌+c◌ ◌-c◌
plus-minus x y = pair_eq (simp ring) (simp ring)

minus_plus : (x y : Pair) → 0c -c y +c x ≡ x -c y
minus_plus x y = +c-comm (0c -c y) x ∙ plus-minus x y

-- the voltage at which a load stands: its phase's, or the first phase's minus the second's
abbrev pub across : Terminals → Three → Pair
across OnA x = x.a
across OnB x = x.b
across OnC x = x.c
across AB x = x.a -c x.b
across BC x = x.b -c x.c
across CA x = x.c -c x.a

pub mix-phase : (p : Terminals) (x : Three) → mix (phase_signs p) x ≡ across p x
unfolding mix
mix-phase OnA x = csum-abc (λ p. scaled (sign_at (phase_signs OnA) p) (at x p)) ∙ (λ i. one_of x.a i +c (none_of x.b i +c none_of x.c i)) ∙ simp (+c-idl, +c-idr)
mix-phase OnB x = csum-abc (λ p. scaled (sign_at (phase_signs OnB) p) (at x p)) ∙ (λ i. none_of x.a i +c (one_of x.b i +c none_of x.c i)) ∙ simp (+c-idl, +c-idr)
mix-phase OnC x = csum-abc (λ p. scaled (sign_at (phase_signs OnC) p) (at x p)) ∙ (λ i. none_of x.a i +c (none_of x.b i +c one_of x.c i)) ∙ simp (+c-idl, +c-idr)
mix-phase AB x = csum-abc (λ p. scaled (sign_at (phase_signs AB) p) (at x p)) ∙ (λ i. one_of x.a i +c (minus-of x.b i +c none_of x.c i)) ∙ simp (+c-idl, +c-idr) (plus-minus x.a x.b)
mix-phase BC x = csum-abc (λ p. scaled (sign_at (phase_signs BC) p) (at x p)) ∙ (λ i. none_of x.a i +c (one_of x.b i +c minus-of x.c i)) ∙ simp (+c-idl, +c-idr) (plus-minus x.b x.c)
mix-phase CA x = csum-abc (λ p. scaled (sign_at (phase_signs CA) p) (at x p)) ∙ (λ i. minus-of x.a i +c (none_of x.b i +c one_of x.c i)) ∙ simp (+c-idl, +c-idr) (minus_plus x.c x.a)

pub mix-phase-within : {m : ℕ} (p : Terminals) {x : Three} → Within3 m x → Within (2 * m) (mix (phase_signs p) x)
mix-phase-within {m} p {x} h = rw (mix-phase p x) (go p)
  where
    one : {y : Pair} → Within m y → Within (2 * m) y
    one k = within-le (omega arith) k

    two : {y z : Pair} → Within m y → Within m z → Within (2 * m) (y -c z)
    two k l = within-le (omega arith) (within-sub k l)

    go : (p : Terminals) → Within (2 * m) (across p x)
    go OnA = one h.a
    go OnB = one h.b
    go OnC = one h.c
    go AB = two h.a h.b
    go BC = two h.b h.c
    go CA = two h.c h.a

-- what counts into each phase of a load's current: all of it, or all into the first and with the sign changed into the second
abbrev pub into : Terminals → Pair → Three
into OnA i = record { a = i; b = 0c; c = 0c }
into OnB i = record { a = 0c; b = i; c = 0c }
into OnC i = record { a = 0c; b = 0c; c = i }
into AB i = record { a = i; b = 0c -c i; c = 0c }
into BC i = record { a = 0c; b = i; c = 0c -c i }
into CA i = record { a = 0c -c i; b = 0c; c = i }

pub spread-phase : (p : Terminals) (i : Pair) → each (λ j. scaled (sign_at (phase_signs p) j) i) ≡ into p i
unfolding each
spread-phase OnA x = λ i. record { a = one_of x i; b = none_of x i; c = none_of x i }
spread-phase OnB x = λ i. record { a = none_of x i; b = one_of x i; c = none_of x i }
spread-phase OnC x = λ i. record { a = none_of x i; b = none_of x i; c = one_of x i }
spread-phase AB x = λ i. record { a = one_of x i; b = minus-of x i; c = none_of x i }
spread-phase BC x = λ i. record { a = none_of x i; b = one_of x i; c = minus-of x i }
spread-phase CA x = λ i. record { a = minus-of x i; b = none_of x i; c = one_of x i }

-- every sign of a load row is −1, 0 or 1
pub phase-ok : (p : Terminals) → SignsOk (phase_signs p)
phase-ok OnA = small tt tt tt
phase-ok OnB = small tt tt tt
phase-ok OnC = small tt tt tt
phase-ok AB = small tt tt tt
phase-ok BC = small tt tt tt
phase-ok CA = small tt tt tt

pub spread-within : {m : ℕ} (p : Terminals) {i : Pair} → Within m i → Within3 m (each (λ j. scaled (sign_at (phase_signs p) j) i))
spread-within {m} p {i} h = within3-each (λ j. let w = within-scaled (sign_at (phase_signs p) j) (sign-ok (phase-ok p) j) h in record { re = omega (arith, w.re); im = omega (arith, w.im) })

-- ---- tests: what `true` says, and when the test says it
-- a test on each phase, as the code makes it
pub all-of : {x y z : Bool} (f : Phase → Bool) → x ≡ f A → y ≡ f B → z ≡ f C → (x && (y && z)) ≡ all f abc
unfolding all
all-of f p q r = (λ i. p i && (q i && r i)) ∙ ap (λ (b : Bool). f A && (f B && b)) (last (f C))
  where
    last : (b : Bool) → b ≡ (b && true)
    last true = refl
    last false = refl

pub within3-true : {n : ℕ} {x : Three} → all (λ p. within n (at x p)) abc ≡ true → Within3 n x
within3-true {n} {x} e =
    let h = all_true (λ p. within n (at x p)) abc e in
    record { a = within-true h.0; b = within-true h.1.0; c = within-true h.1.1.0 }

pub true-within3 : {n : ℕ} {x : Three} → Within3 n x → all (λ p. within n (at x p)) abc ≡ true
true-within3 {n} {x} h =
    true-all (λ p. within n (at x p)) abc (true-within h.a, (true-within h.b, (true-within h.c, tt)))

not-any : {X : Type 0} (f : X → Bool) (l : List X) → any (λ x. not (f x)) l ≡ not (all f l)
unfolding any all
not-any f [] = refl
not-any f (x ∷ l) = go (f x) (not-any f l)
  where
    go : (b : Bool) → any (λ x. not (f x)) l ≡ not (all f l) → cond (not b) true (any (λ x. not (f x)) l) ≡ not (b && all f l)
    go true e = e
    go false e = refl

pub beyond3-not : (x : Three) → beyond3 x ≡ not (all (λ p. within 2000000 (at x p)) abc)
unfolding beyond3 beyond
beyond3-not x = not-any (λ p. within 2000000 (at x p)) abc

not-false : (b : Bool) → not b ≡ false → b ≡ true
not-false true e = refl
not-false false e = clash true refl e

pub beyond-false : {x : Pair} → beyond x ≡ false → Within 2000000 x
unfolding beyond
beyond-false {x} e = within-true (not-false (within 2000000 x) e)

pub false-beyond : {x : Pair} → Within 2000000 x → beyond x ≡ false
unfolding beyond
false-beyond h = ap not (true-within h)

pub beyond3-false : {x : Three} → beyond3 x ≡ false → Within3 2000000 x
beyond3-false {x} e = within3-true (not-false _ (sym (beyond3-not x) ∙ e))

pub false-beyond3 : {x : Three} → Within3 2000000 x → beyond3 x ≡ false
false-beyond3 {x} h = beyond3-not x ∙ ap not (true-within3 h)

-- x and y differ by at most n on each phase
pub close3-true : (n : ℕ) (x y : Three) → all (λ p. close n (at x p) (at y p)) abc ≡ true → (p : Phase) → Close n (at x p) (at y p)
close3-true n x y e = go
  where
    h : All (λ p. close n (at x p) (at y p) ≡ true) abc
    h = all_true (λ p. close n (at x p) (at y p)) abc e

    go : (p : Phase) → Close n (at x p) (at y p)
    go A = close-true h.0
    go B = close-true h.1.0
    go C = close-true h.1.1.0

pub true-close3 : (n : ℕ) (x y : Three) → ((p : Phase) → Close n (at x p) (at y p)) → all (λ p. close n (at x p) (at y p)) abc ≡ true
true-close3 n x y h = true-all (λ p. close n (at x p) (at y p)) abc (true-close (h A), (true-close (h B), (true-close (h C), tt)))

pub close-within : {m n : ℕ} {x y : Pair} → Close n x y → Within m y → Within (m + n) x
close-within {x = x} {y = y} h k = record { re = part x.re y.re k.re h.re; im = part x.im y.im k.im h.im }
  where
    part : {m n : ℕ} (a b : ℤ) → nat_abs b ≤ m → nat_abs (a -ℤ b) ≤ n → nat_abs a ≤ m + n
    part a b p q = omega (arith, add_parts a (neg_ℤ b), pos-neg b, neg-neg b, abs-parts (a -ℤ b), abs-parts a, abs-parts b, one-part a)

pub close3-within : {m : ℕ} (n : ℕ) (x y : Three) → all (λ p. close n (at x p) (at y p)) abc ≡ true → Within3 m y → Within3 (m + n) x
close3-within n x y e h =
    let k = close3-true n x y e in
    record { a = close-within (k A) h.a; b = close-within (k B) h.b; c = close-within (k C) h.c }
