-- The ring laws of ℤ that the library lacks, and a list of them for `simp`. Assumes nothing.
use Rattle.std.specs.Prelude.{◌≡◌, ◌*◌, ℤ, neg_ℤ, ◌+ℤ◌, ◌*ℤ◌}
use Rattle.std.proofs.Common.{sym, ap, ◌∙◌, mul-add, add-mul, mul_comm, mul_assoc, mul_left_comm, add_assoc, add_comm, arith}
use Rattle.std.proofs.Math.Nat.{add_left_comm}
use Rattle.std.proofs.Math.IntN.{+ℤ_assoc, +ℤ_comm, *ℤ_comm, neg_ℤ-+ℤ, neg_ℤ-neg_ℤ, +ℤ_idl, +ℤ_idr, +ℤ_invr, +ℤ_invl}
use Rattle.integers.specs.Whole.{pos_part, neg_part, pos-neg, neg-neg, pos-mul, neg-mul, add_parts, eq-parts, parts-eq}

-- sums of products of naturals, sorted
ruleset semiring = (mul-add, add-mul, mul_assoc, mul_comm, mul_left_comm, add_assoc, add_comm, add_left_comm)

pub *ℤ-assoc : (a b c : ℤ) → a *ℤ b *ℤ c ≡ a *ℤ (b *ℤ c)
*ℤ-assoc a b c = eq-parts (simp (pos-mul, neg-mul, semiring)) (simp (pos-mul, neg-mul, semiring))

-- by the parts of b + c, of which only the difference is known
pub mul-addℤ : (a b c : ℤ) → a *ℤ (b +ℤ c) ≡ a *ℤ b +ℤ a *ℤ c
mul-addℤ a b c =
    parts-eq
    (omega (
      arith,
      add_parts (a *ℤ b) (a *ℤ c),
      pos-mul a (b +ℤ c),
      neg-mul a (b +ℤ c),
      pos-mul a b,
      neg-mul a b,
      pos-mul a c,
      neg-mul a c,
      simp mul-add at (ap (λ n. pos_part a * n) (add_parts b c)),
      simp mul-add at (ap (λ n. neg_part a * n) (add_parts b c)),
    ))

pub add-mulℤ : (a b c : ℤ) → (a +ℤ b) *ℤ c ≡ a *ℤ c +ℤ b *ℤ c
add-mulℤ a b c = *ℤ_comm (a +ℤ b) c ∙ mul-addℤ c a b ∙ (λ i. *ℤ_comm c a i +ℤ *ℤ_comm c b i)

pub neg-mulℤ : (a b : ℤ) → neg_ℤ a *ℤ b ≡ neg_ℤ (a *ℤ b)
neg-mulℤ a b = eq-parts (simp (pos-mul, neg-mul, pos-neg, neg-neg) (omega arith)) (simp (pos-mul, neg-mul, pos-neg, neg-neg) (omega arith))

pub mul-negℤ : (a b : ℤ) → a *ℤ neg_ℤ b ≡ neg_ℤ (a *ℤ b)
mul-negℤ a b = *ℤ_comm a (neg_ℤ b) ∙ neg-mulℤ b a ∙ ap neg_ℤ (*ℤ_comm b a)

pub +ℤ-left-comm : (a b c : ℤ) → a +ℤ (b +ℤ c) ≡ b +ℤ (a +ℤ c)
+ℤ-left-comm a b c = sym (+ℤ_assoc a b c) ∙ ap (λ x. x +ℤ c) (+ℤ_comm a b) ∙ +ℤ_assoc b a c

pub *ℤ-left-comm : (a b c : ℤ) → a *ℤ (b *ℤ c) ≡ b *ℤ (a *ℤ c)
*ℤ-left-comm a b c = sym (*ℤ-assoc a b c) ∙ ap (λ x. x *ℤ c) (*ℤ_comm a b) ∙ *ℤ-assoc b a c

-- a term and its negative cancel: side by side at the front, or around one other
pub cancel-after : (a b : ℤ) → a +ℤ (neg_ℤ a +ℤ b) ≡ b
cancel-after a b = sym (+ℤ_assoc a (neg_ℤ a) b) ∙ ap (λ x. x +ℤ b) (+ℤ_invr a) ∙ +ℤ_idl b

pub cancel-before : (a b : ℤ) → neg_ℤ a +ℤ (a +ℤ b) ≡ b
cancel-before a b = sym (+ℤ_assoc (neg_ℤ a) a b) ∙ ap (λ x. x +ℤ b) (+ℤ_invl a) ∙ +ℤ_idl b

pub cancel-around : (a b : ℤ) → a +ℤ (b +ℤ neg_ℤ a) ≡ b
cancel-around a b = +ℤ-left-comm a b (neg_ℤ a) ∙ ap (λ x. b +ℤ x) (+ℤ_invr a) ∙ +ℤ_idr b

-- `simp ring`: both sides as sorted sums of sorted products
pub ruleset ring = (
  mul-addℤ,
  add-mulℤ,
  neg-mulℤ,
  mul-negℤ,
  neg_ℤ-+ℤ,
  neg_ℤ-neg_ℤ,
  *ℤ-assoc,
  *ℤ_comm,
  *ℤ-left-comm,
  +ℤ_assoc,
  +ℤ_comm,
  +ℤ-left-comm,
  cancel-after,
  cancel-before,
  cancel-around,
  +ℤ_invr,
  +ℤ_invl,
  +ℤ_idl,
  +ℤ_idr,
)
