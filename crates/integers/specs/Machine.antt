-- Signed machine numbers: what `search` and `omega` are handed, so that a proof of the code is one word for each need. Assumes nothing.
use Rattle.std.specs.Prelude.{◌≡◌, ℕ, ◌+◌, ◌*◌, ◌≤◌, ◌<◌, ◌^◌, ℤ, pos, negsuc, nat_abs, ◌+ℤ◌, ◌-ℤ◌, ◌*ℤ◌}
use Rattle.std.proofs.Common.{ap, ◌∙◌, arith, SFits, to_z, of_z, to_z-of_z}
use Rattle.std.specs.Int.{w64}
use borrow.Author.Rules.{sfits_of}
use Rattle.integers.specs.Rounding.{rnd}
use Rattle.integers.specs.Whole.{pos_part, neg_part, abs-parts, abs-add, abs-sub, abs-mul}

-- ---- what fits
pub parts-sfits : {z : ℤ} → pos_part z < 2 ^ 63 → neg_part z ≤ 2 ^ 63 → SFits w64 z
parts-sfits {z = pos n} p q = record { sfits = p }
parts-sfits {z = negsuc n} p q = record { sfits = omega arith }

pub sfits-parts : {z : ℤ} → SFits w64 z → (pos_part z < 2 ^ 63) × (neg_part z ≤ 2 ^ 63)
sfits-parts {z = pos n} f = omega (arith, f.sfits)
sfits-parts {z = negsuc n} f = omega (arith, f.sfits)

pub sfits : {z : ℤ} → nat_abs z < 2 ^ 63 → SFits w64 z
sfits {z} h = let e = abs-parts z in parts-sfits (omega arith) (omega arith)

pub sfits-add : (a b : ℤ) → nat_abs a + nat_abs b < 2 ^ 63 → SFits w64 (a +ℤ b)
sfits-add a b h = sfits (omega (arith, abs-add a b))

pub sfits-sub : (a b : ℤ) → nat_abs a + nat_abs b < 2 ^ 63 → SFits w64 (a -ℤ b)
sfits-sub a b h = sfits (omega (arith, abs-sub a b))

pub sfits-mul : (a b : ℤ) → nat_abs a * nat_abs b < 2 ^ 63 → SFits w64 (a *ℤ b)
sfits-mul a b h = sfits (omega (arith, abs-mul a b))

-- `search zops` answers the needs of one operation on signed numbers: that its result fits, its value and its size
pub ruleset zops = (to_z-of_z, sfits_of, sfits-add, sfits-sub, sfits-mul, abs-add, abs-sub, abs-mul)

-- ---- what is read
-- the number that the machine reads of the bits of z: z itself, where z fits
abbrev pub read : ℤ → ℤ
read z = to_z w64 (of_z w64 z)

pub abs-read : {z : ℤ} → SFits w64 z → nat_abs (read z) ≡ nat_abs z
abs-read h = ap nat_abs (to_z-of_z h)

-- `omega` does not look into a product: list this for each
pub abs-read-mul : {a b : ℤ} → SFits w64 a → SFits w64 b → nat_abs (read a) * nat_abs (read b) ≡ nat_abs a * nat_abs b
abs-read-mul f g = λ i. abs-read f i * abs-read g i

-- `omega zsize` proves bounds on sizes of signed parameters and results
pub ruleset zsize = (arith, abs-read)

-- a call's result z is read as its value at what is read of its arguments: by these `search` follows a chain of calls
pub read-add : (z a b x y : ℤ) → z ≡ read a +ℤ read b → read a ≡ x → read b ≡ y → SFits w64 z → read z ≡ x +ℤ y
read-add z a b x y e p q f = to_z-of_z f ∙ e ∙ (λ i. p i +ℤ q i)

pub read-sub : (z a b x y : ℤ) → z ≡ read a -ℤ read b → read a ≡ x → read b ≡ y → SFits w64 z → read z ≡ x -ℤ y
read-sub z a b x y e p q f = to_z-of_z f ∙ e ∙ (λ i. p i -ℤ q i)

pub read-mul : (z a b x y : ℤ) → z ≡ read a *ℤ read b → read a ≡ x → read b ≡ y → SFits w64 z → read z ≡ x *ℤ y
read-mul z a b x y e p q f = to_z-of_z f ∙ e ∙ (λ i. p i *ℤ q i)

pub read-cross : (z a b c d x y u v : ℤ) → z ≡ read a *ℤ read b +ℤ read c *ℤ read d → read a ≡ x → read b ≡ y → read c ≡ u → read d ≡ v → SFits w64 z
    → read z ≡ x *ℤ y +ℤ u *ℤ v
read-cross z a b c d x y u v e p q r s f = to_z-of_z f ∙ e ∙ (λ i. p i *ℤ q i +ℤ r i *ℤ s i)

pub read-cross-sub : (z a b c d x y u v : ℤ) → z ≡ read a *ℤ read b -ℤ read c *ℤ read d → read a ≡ x → read b ≡ y → read c ≡ u → read d ≡ v → SFits w64 z
    → read z ≡ x *ℤ y -ℤ u *ℤ v
read-cross-sub z a b c d x y u v e p q r s f = to_z-of_z f ∙ e ∙ (λ i. p i *ℤ q i -ℤ r i *ℤ s i)

pub read-rnd : (z a x : ℤ) (d : ℕ) → z ≡ rnd (read a) d → read a ≡ x → SFits w64 z → read z ≡ rnd x d
read-rnd z a x d e p f = to_z-of_z f ∙ e ∙ ap (λ y. rnd y d) p

-- `search zcalls` answers a return whose value is a chain of calls
pub ruleset zcalls = (to_z-of_z, sfits_of, read-add, read-sub, read-mul, read-cross, read-cross-sub, read-rnd)
