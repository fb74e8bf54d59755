-- A whole number as the difference of two naturals, one of which is 0: what `omega` reads of it. Assumes nothing.
use Rattle.std.specs.Prelude.{◌≡◌, refl, true, false, not, ℕ, zero, suc, ◌+◌, ◌-◌, ◌*◌, ◌≤◌, ◌<◌, min, T, ltb, ◌≤ℤ◌, ◌<ℤ◌, ℤ, pos, negsuc, nat_abs, neg_ℤ, ◌+ℤ◌, ◌-ℤ◌, ◌*ℤ◌}
use Rattle.std.proofs.Common.{sym, ap, ◌∙◌, arith, add-zero, zero-add, mul-zero, zero-mul, ltb→lt, lt→ltb, nltb→le, leb→le, le→leb}
use Rattle.std.proofs.Math.Dec.{nleb→lt}
use Rattle.std.specs.Int.Signed.{le_z, lt_z, le_z_yes, lt_z_yes, lt_z_no}
use Rattle.std.proofs.Math.IntN.{sub_ℕ}
use Rattle.integers.specs.Bools.{cond_ind, true-T, false-T}

abbrev pub pos_part : ℤ → ℕ
pos_part (pos n) = n
pos_part (negsuc n) = zero

abbrev pub neg_part : ℤ → ℕ
neg_part (pos n) = zero
neg_part (negsuc n) = suc n

-- ---- the parts of sums, negatives and products
pos-sub : (a b : ℕ) → pos_part (sub_ℕ a b) ≡ a - b
pos-sub a b =
    cond_ind (ltb a b) (negsuc (b - suc a)) (pos (a - b)) (λ z. pos_part z ≡ a - b) (λ t. omega (arith, ltb→lt a b t)) (λ t. refl)

neg-sub : (a b : ℕ) → neg_part (sub_ℕ a b) ≡ b - a
neg-sub a b =
    cond_ind (ltb a b) (negsuc (b - suc a)) (pos (a - b)) (λ z. neg_part z ≡ b - a) (λ t. omega (arith, ltb→lt a b t)) (λ t. omega (arith, nltb→le a b t))

pub pos-add : (a b : ℤ) → pos_part (a +ℤ b) ≡ (pos_part a + pos_part b) - (neg_part a + neg_part b)
pos-add (pos a) (pos b) = omega arith
pos-add (pos a) (negsuc b) = pos-sub a (suc b) ∙ omega arith
pos-add (negsuc a) (pos b) = pos-sub b (suc a) ∙ omega arith
pos-add (negsuc a) (negsuc b) = omega arith

pub neg-add : (a b : ℤ) → neg_part (a +ℤ b) ≡ (neg_part a + neg_part b) - (pos_part a + pos_part b)
neg-add (pos a) (pos b) = omega arith
neg-add (pos a) (negsuc b) = neg-sub a (suc b) ∙ omega arith
neg-add (negsuc a) (pos b) = neg-sub b (suc a) ∙ omega arith
neg-add (negsuc a) (negsuc b) = omega arith

-- the sum without truncated differences, each of which `omega` would split into two cases
pub add_parts : (a b : ℤ) → pos_part (a +ℤ b) + (neg_part a + neg_part b) ≡ (pos_part a + pos_part b) + neg_part (a +ℤ b)
add_parts a b = omega (arith, pos-add a b, neg-add a b)

pub pos-neg : (a : ℤ) → pos_part (neg_ℤ a) ≡ neg_part a
pos-neg (pos zero) = refl
pos-neg (pos (suc a)) = refl
pos-neg (negsuc a) = refl

pub neg-neg : (a : ℤ) → neg_part (neg_ℤ a) ≡ pos_part a
neg-neg (pos zero) = refl
neg-neg (pos (suc a)) = refl
neg-neg (negsuc a) = refl

pub pos-mul : (a b : ℤ) → pos_part (a *ℤ b) ≡ pos_part a * pos_part b + neg_part a * neg_part b
pos-mul (pos a) (pos b) = simp (mul-zero, add-zero)
pos-mul (pos a) (negsuc b) = pos-neg (pos (a * suc b)) ∙ simp (mul-zero, zero-mul, add-zero)
pos-mul (negsuc a) (pos b) = pos-neg (pos (suc a * b)) ∙ simp (mul-zero, zero-mul, add-zero)
pos-mul (negsuc a) (negsuc b) = simp (mul-zero, zero-add)

pub neg-mul : (a b : ℤ) → neg_part (a *ℤ b) ≡ pos_part a * neg_part b + neg_part a * pos_part b
neg-mul (pos a) (pos b) = simp (mul-zero, zero-mul, add-zero)
neg-mul (pos a) (negsuc b) = neg-neg (pos (a * suc b)) ∙ simp (mul-zero, add-zero)
neg-mul (negsuc a) (pos b) = neg-neg (pos (suc a * b)) ∙ simp (mul-zero, zero-add)
neg-mul (negsuc a) (negsuc b) = simp (mul-zero, zero-mul, zero-add)

-- ---- what holds of the two parts of any whole number
pub one-part : (a : ℤ) → min (pos_part a) (neg_part a) ≡ 0
one-part (pos a) = omega arith
one-part (negsuc a) = omega arith

pub abs-parts : (a : ℤ) → nat_abs a ≡ pos_part a + neg_part a
abs-parts (pos a) = omega arith
abs-parts (negsuc a) = omega arith

-- `simp parts` takes sums, differences and sizes apart, down to the parts of the variables
pub ruleset parts = (pos-add, neg-add, pos-neg, neg-neg, abs-parts)

-- `simp products` takes products apart too, and drops a part that is 0
pub ruleset products = (parts, pos-mul, neg-mul, mul-zero, zero-mul, add-zero, zero-add)

-- ---- equations
pub eq-parts : {a b : ℤ} → pos_part a ≡ pos_part b → neg_part a ≡ neg_part b → a ≡ b
eq-parts {a = pos a} {b = pos b} p q = ap pos p
eq-parts {a = pos a} {b = negsuc b} p q = absurd (omega arith)
eq-parts {a = negsuc a} {b = pos b} p q = absurd (omega arith)
eq-parts {a = negsuc a} {b = negsuc b} p q = ap negsuc (omega arith)

-- an equation by the differences alone
pub parts-eq : {a b : ℤ} → pos_part a + neg_part b ≡ pos_part b + neg_part a → a ≡ b
parts-eq {a} {b} h = eq-parts (omega (arith, one-part a, one-part b)) (omega (arith, one-part a, one-part b))

pub eq-differences : {a b : ℤ} → a ≡ b → pos_part a + neg_part b ≡ pos_part b + neg_part a
eq-differences {a} {b} h = ap (λ z. pos_part z + neg_part b) h ∙ ap (λ z. pos_part b + neg_part z) (sym h)

-- ---- the order
pub le_parts : {a b : ℤ} → a ≤ℤ b → pos_part a + neg_part b ≤ pos_part b + neg_part a
le_parts {a = pos a} {b = pos b} h = omega (arith, leb→le a b h.le)
le_parts {a = pos a} {b = negsuc b} h = absurd h.le
le_parts {a = negsuc a} {b = pos b} h = omega arith
le_parts {a = negsuc a} {b = negsuc b} h = omega (arith, leb→le b a h.le)

pub parts-le : {a b : ℤ} → pos_part a + neg_part b ≤ pos_part b + neg_part a → a ≤ℤ b
parts-le {a = pos a} {b = pos b} h = le_z_yes (le→leb a b (omega arith))
parts-le {a = pos a} {b = negsuc b} h = absurd (omega arith)
parts-le {a = negsuc a} {b = pos b} h = le_z_yes tt
parts-le {a = negsuc a} {b = negsuc b} h = le_z_yes (le→leb b a (omega arith))

pub lt-parts : {a b : ℤ} → a <ℤ b → pos_part a + neg_part b < pos_part b + neg_part a
lt-parts {a = pos a} {b = pos b} h = omega (arith, ltb→lt a b h.lt)
lt-parts {a = pos a} {b = negsuc b} h = absurd h.lt
lt-parts {a = negsuc a} {b = pos b} h = omega arith
lt-parts {a = negsuc a} {b = negsuc b} h = omega (arith, ltb→lt b a h.lt)

pub parts-lt : {a b : ℤ} → pos_part a + neg_part b < pos_part b + neg_part a → a <ℤ b
parts-lt {a = pos a} {b = pos b} h = lt_z_yes (lt→ltb a b (omega arith))
parts-lt {a = pos a} {b = negsuc b} h = absurd (omega arith)
parts-lt {a = negsuc a} {b = pos b} h = lt_z_yes tt
parts-lt {a = negsuc a} {b = negsuc b} h = lt_z_yes (lt→ltb b a (omega arith))

-- ---- the outcome of a test of the code
not-le : (a b : ℤ) → T (not (le_z a b)) → T (lt_z b a)
not-le (pos a) (pos b) t = lt→ltb b a (nleb→lt a b t)
not-le (pos a) (negsuc b) t = tt
not-le (negsuc a) (pos b) t = t
not-le (negsuc a) (negsuc b) t = lt→ltb a b (nleb→lt b a t)

pub le_z-true : (a b : ℤ) → le_z a b ≡ true → pos_part a + neg_part b ≤ pos_part b + neg_part a
le_z-true a b e = le_parts {a = a} {b = b} (le_z_yes (true-T (le_z a b) e))

pub le_z-false : (a b : ℤ) → le_z a b ≡ false → pos_part b + neg_part a < pos_part a + neg_part b
le_z-false a b e = lt-parts {a = b} {b = a} (lt_z_yes (not-le a b (false-T (le_z a b) e)))

pub lt_z-true : (a b : ℤ) → lt_z a b ≡ true → pos_part a + neg_part b < pos_part b + neg_part a
lt_z-true a b e = lt-parts {a = a} {b = b} (lt_z_yes (true-T (lt_z a b) e))

pub lt_z-false : (a b : ℤ) → lt_z a b ≡ false → pos_part b + neg_part a ≤ pos_part a + neg_part b
lt_z-false a b e = le_parts {a = b} {b = a} (lt_z_no (false-T (lt_z a b) e))

-- `omega zarith` reads and proves orders and equations of ℤ whose sides are variables
pub ruleset zarith = (arith, le_parts, lt-parts, parts-le, parts-lt, parts-eq, eq-differences, le_z-true, le_z-false, lt_z-true, lt_z-false)

-- ---- sizes
pub abs-add : (a b : ℤ) → nat_abs (a +ℤ b) ≤ nat_abs a + nat_abs b
abs-add a b = simp parts (omega arith)

pub abs_neg : (a : ℤ) → nat_abs (neg_ℤ a) ≡ nat_abs a
abs_neg a = simp parts (omega arith)

pub abs-sub : (a b : ℤ) → nat_abs (a -ℤ b) ≤ nat_abs a + nat_abs b
abs-sub a b = simp parts (omega arith)

pub abs-mul : (a b : ℤ) → nat_abs (a *ℤ b) ≡ nat_abs a * nat_abs b
abs-mul (pos a) (pos b) = refl
abs-mul (pos a) (negsuc b) = abs_neg (pos (a * suc b))
abs-mul (negsuc a) (pos b) = abs_neg (pos (suc a * b))
abs-mul (negsuc a) (negsuc b) = refl
