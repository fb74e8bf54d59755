-- Every refusal of an outcome has some property P, step by step of the work. Assumes nothing.
use Rattle.std.specs.Prelude.{Bool, cond, false, true, ◌≡◌, refl, ℕ, Option, Some, None, Ok, Err}
use Rattle.std.proofs.Common.{subst, sym}
use Rattle.answers.specs.AnswerLaws.{not-refused, same-refused}
use Rattle.answers.specs.Answers.{Done, Outcome, ◌>>=◌, ◌>>◌, done, refuse_at, refuse_if}
use Rattle.answers.specs.declared.Refusal.{Refusal}

-- where x is refused, P holds of the refusal
pub record Only {X : Type 0} (P : Refusal → Type 0) (x : Outcome X) : Type 0 where
  pub each : (r : Refusal) → x ≡ Err r → P r

module _ {P : Refusal → Type 0} where
  pub good-only : {X : Type 0} (x : X) → Only P (Ok x)
  good-only x = record { each = λ r e. not-refused r x (sym e) }

  pub refused-only : {X : Type 0} (r : Refusal) → P r → Only {X = X} P (Err r)
  refused-only r h = record { each = λ q e. subst P (same-refused r q e) h }

  -- one step after the other
  pub then-only : {X Y : Type 0} (x : Outcome X) (k : X → Outcome Y) → Only P x → ((a : X) → x ≡ Ok a → Only P (k a)) → Only P (x >>= k)
  then-only (Ok a) k h w = w a refl
  then-only (Err r) k h w = refused-only r (h.each r refl)

  pub after-only : {Y : Type 0} (x : Outcome Done) (y : Outcome Y) → Only P x → Only P y → Only P (x >> y)
  after-only (Ok d) y h w = w
  after-only (Err r) y h w = refused-only r (h.each r refl)

  pub cond-only : {X : Type 0} (c : Bool) (x y : Outcome X) → Only P x → Only P y → Only P (cond c x y)
  cond-only true x y h w = h
  cond-only false x y h w = w

  -- a test, and a line that is searched for
  pub if-only : (c : Bool) (r : Refusal) → P r → Only P (refuse_if c r)
  if-only true r h = refused-only r h
  if-only false r h = good-only done

  pub at_only : (l : Option ℕ) (r : ℕ → Refusal) → ((m : ℕ) → l ≡ Some m → P (r m)) → Only P (refuse_at r l)
  at_only (Some m) r h = refused-only (r m) (h m refl)
  at_only None r h = good-only done
