-- What is known of a chain of steps: where it is good, the value that each step gave, and that no test refused; where it is refused, at which step. Assumes nothing.
use Rattle.std.specs.Prelude.{Bool, cond, false, true, ◌≡◌, refl, ℕ, Option, Some, None, Ok, Err}
use Rattle.std.proofs.Common.{ap, sym, arith}
use Rattle.answers.specs.Answers.{Outcome, ◌>>=◌, ◌>>◌, refuse_at, refuse_if}
use Rattle.answers.specs.declared.Refusal.{Refusal}

-- a first step that gave a value, and the rest of the work from there
pub record Bound {X Y : Type 0} (x : Outcome X) (k : X → Outcome Y) (y : Y) : Type 0 where
  pub value : X
  pub came : x ≡ Ok value
  pub rest : k value ≡ Ok y

-- what is refused is not good
pub not-refused : {X Z : Type 0} (r : Refusal) (x : X) → ◌≡◌ {A = Outcome X} (Err r) (Ok x) → Z
not-refused r x e = let z : ◌≡◌ {A = ℕ} 0 1 = cc in absurd (omega arith)

pub same_good : {X : Type 0} (x y : X) → ◌≡◌ {A = Outcome X} (Ok x) (Ok y) → x ≡ y
same_good x y e = cc

-- where the whole is good, so is its first step
pub bound : {X Y : Type 0} (x : Outcome X) (k : X → Outcome Y) (y : Y) → (x >>= k) ≡ Ok y → Bound x k y
bound (Ok a) k y e = record { value = a; came = refl; rest = e }
bound (Err r) k y e = not-refused r y e

-- a test that did not refuse, and a line that was not found
pub not-if : {Y : Type 0} (c : Bool) (r : Refusal) (x : Outcome Y) (y : Y) → (refuse_if c r >> x) ≡ Ok y → (c ≡ false) × (x ≡ Ok y)
not-if true r x y e = not-refused r y e
not-if false r x y e = (refl, e)

pub not_at : {Y : Type 0} (l : Option ℕ) (r : ℕ → Refusal) (x : Outcome Y) (y : Y) → (refuse_at r l >> x) ≡ Ok y → (l ≡ None) × (x ≡ Ok y)
not_at (Some n) r x y e = not-refused (r n) y e
not_at None r x y e = (refl, e)

-- ---- a chain of steps: it goes on behind a step that is good, and it is refused at a step or behind it
pub same-refused : {X : Type 0} (x y : Refusal) → ◌≡◌ {A = Outcome X} (Err x) (Err y) → x ≡ y
same-refused x y e = cc

-- what is good is not refused
pub not_good : {X Z : Type 0} (x : X) (y : Refusal) → ◌≡◌ {A = Outcome X} (Ok x) (Err y) → Z
not_good x y e = not-refused y x (sym e)

pub goes : {X Y : Type 0} (x : Outcome X) (k : X → Outcome Y) (v : X) (y : Outcome Y) → x ≡ Ok v → k v ≡ y → (x >>= k) ≡ y
goes x k v y e f = rw e f

pub stopped : {X Y Z : Type 0} (x : Outcome X) (k : X → Outcome Y) (y : Refusal) → (x >>= k) ≡ Err y → (x ≡ Err y → Z) → ((v : X) → x ≡ Ok v → k v ≡ Err y → Z) → Z
stopped (Ok v) k y e f g = g v refl e
stopped (Err z) k y e f g = f (ap (λ (w : Refusal). Err w) (same-refused z y e))

-- a step that a test decides
pub by-test : {X Z : Type 0} (c : Bool) (a b : X) (x : X) → cond c a b ≡ x → (c ≡ true → a ≡ x → Z) → (c ≡ false → b ≡ x → Z) → Z
by-test true a b x e f g = f refl e
by-test false a b x e f g = g refl e
