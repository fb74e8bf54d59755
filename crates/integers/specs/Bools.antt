-- Truth values that are chosen by or joined: what follows from the whole of its parts, and back; and the two cases of an equation of numbers. Assumes nothing.
use Rattle.std.specs.Prelude.{◌≡◌, Bool, true, false, not, cond, ◌&&◌, ◌⊎◌, ℕ, T}
use Rattle.std.proofs.Common.{sym, ap, subst, ◌∙◌, inl, inr}
use Rattle.std.proofs.Math.Decide.{ℕ_discrete}

-- what holds of both choices, each where it is taken, holds of the chosen one
pub cond_ind : {X : Type 0} (c : Bool) (x y : X) (P : X → Type 0) → (T c → P x) → (T (not c) → P y) → P (cond c x y)
cond_ind true x y P f g = f tt
cond_ind false x y P f g = g tt

pub true-T : (c : Bool) → c ≡ true → T c
true-T c e = subst T (sym e) tt

pub false-T : (c : Bool) → c ≡ false → T (not c)
false-T c e = subst (λ (t : Bool). T (not t)) (sym e) tt

-- nothing is both
pub clash : {X : Type 0} (c : Bool) → c ≡ true → c ≡ false → X
clash c p q = absurd (subst T (sym p ∙ q) tt)

pub both : (a b : Bool) → (a && b) ≡ true → (a ≡ true) × (b ≡ true)
both true b e = (λ i. true, e)
both false b e = clash false e (λ i. false)

pub joined : {a b : Bool} → a ≡ true → b ≡ true → (a && b) ≡ true
joined {b = b} p q = ap (λ (t : Bool). t && b) p ∙ q

pub and-false : (a : Bool) → (a && false) ≡ false
and-false true = λ i. false
and-false false = λ i. false

pub one-false : (a b : Bool) → (a && b) ≡ false → (a ≡ false) ⊎ (b ≡ false)
one-false true b e = inr e
one-false false b e = inl (λ i. false)

-- a test fails where what it tests for does not hold
pub fails-test : {X : Type 0} (c : Bool) → (c ≡ true → X) → (X → ⊥) → c ≡ false
fails-test true h n = absurd (n (h (λ i. true)))
fails-test false h n = λ i. false

-- `p && q` of the code, where p and q are the tests p' and q': with p true it is q, and with p false it is p
pub and_yes : {p q p' q' : Bool} → p ≡ true → p ≡ p' → q ≡ q' → q ≡ (p' && q')
and_yes {q' = q'} h e f = f ∙ sym (ap (λ (b : Bool). b && q') (sym e ∙ h))

pub and_no : {p p' : Bool} (q' : Bool) → p ≡ false → p ≡ p' → p ≡ (p' && q')
and_no q' h e = h ∙ sym (ap (λ (b : Bool). b && q') (sym e ∙ h))

-- two numbers are equal or not
pub same? : {X : Type 0} (a b : ℕ) → (a ≡ b → X) → ((a ≡ b → ⊥) → X) → X
same? a b f g = elim (ℕ_discrete a b) [ yes e ↦ f e | no n ↦ g n ]
