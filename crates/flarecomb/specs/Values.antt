-- A bound of the value that a refusal returns, step by step of the work. Assumes nothing.
use Rattle.std.specs.Prelude.{Bool, cond, false, true, List, [], ◌∷◌, ◌≡◌, ◌+◌, ◌≤◌, suc, ℕ, length, Option, Some, None}
use Rattle.std.proofs.Common.{arith}
use Rattle.answers.specs.Answers.{Outcome, refuse_at, value_of}
use Rattle.answers.specs.Only.{Only, at_only}
use Rattle.answers.specs.declared.Refusal.{Refusal}
use Rattle.feeder.specs.Feeder.{first_row, or_else}

-- where x is refused, the value is at most n
abbrev pub UpTo : {X : Type 0} → ℕ → Outcome X → Type 0
UpTo n x = Only (λ r. value_of r ≤ n) x

-- where a line is found, it is at most n
pub record LineUpTo (n : ℕ) (l : Option ℕ) : Type 0 where
  pub line : (m : ℕ) → l ≡ Some m → m ≤ n

-- a line that is searched for
pub at-up-to : {n : ℕ} (l : Option ℕ) (r : ℕ → Refusal) → ((m : ℕ) → value_of (r m) ≡ m) → LineUpTo n l → UpTo n (refuse_at r l)
at-up-to l r e h = at_only l r (λ m f. rw (e m) (h.line m f))

pub nothing-up-to : {n : ℕ} → LineUpTo n None
nothing-up-to = record { line = λ m e. none m e }
  where
    none : {Z : Type 0} (m : ℕ) → None ≡ Some m → Z
    none m e = let z : ◌≡◌ {A = ℕ} 0 1 = cc in absurd (omega arith)

pub found-up-to : {n : ℕ} (k : ℕ) → k ≤ n → LineUpTo n (Some k)
found-up-to {n} k q = record { line = λ m e. same m e }
  where
    same : (m : ℕ) → Some k ≡ Some m → m ≤ n
    same m e = let z : k ≡ m = cc in omega arith

pub unless-up-to : {n : ℕ} (c : Bool) (k : ℕ) → k ≤ n → LineUpTo n (cond c None (Some k))
unless-up-to true k q = nothing-up-to
unless-up-to false k q = found-up-to k q

pub or-up-to : {n : ℕ} (a b : Option ℕ) → LineUpTo n a → LineUpTo n b → LineUpTo n (or_else a b)
unfolding or_else
or-up-to (Some m) b h w = h
or-up-to None b h w = w

-- the line of a row
pub first-up-to : {X : Type 0} {n : ℕ} (bad : ℕ → X → Bool) (before k : ℕ) (l : List X) → before + k + length l ≤ suc n → LineUpTo n (first_row bad before k l)
unfolding first_row
first-up-to bad before k [] q = nothing-up-to
first-up-to {n = n} bad before k (x ∷ l) q = pick (bad k x) (first-up-to bad before (k + 1) l (omega arith))
  where
    pick : (c : Bool) → LineUpTo n (first_row bad before (k + 1) l) → LineUpTo n (cond c (Some (before + k)) (first_row bad before (k + 1) l))
    pick true h = found-up-to (before + k) (omega arith)
    pick false h = h
