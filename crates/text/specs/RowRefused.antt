-- A line is refused only by the refusal that it is read with, whatever P says of that. Assumes nothing.
use mathlib.Core.List.{List, [], ◌∷◌}
use Prim.Native.Nat.{◌+◌, suc, zero, ℕ}
use Prim.Native.String.{String}
use Rattle.std.specs.Prelude.{eqb, drop, Ok, Option, ℕ, ℤ, Some, None}
use Rattle.std.proofs.Math.ListN.{length}
use Rattle.answers.specs.Only.{Only, cond-only, good-only, refused-only, then-only}
use Rattle.answers.specs.declared.Refusal.{Refusal}
use Rattle.text.specs.Lines.{got, listed, names, numbers, row, sep_of, text}
use Rattle.text.specs.Text.{begins, bytes, name_at, number_at}

module _ {P : Refusal → Type 0} (r : Refusal) (q : P r) where
  pub text-only : (w : String) (s : List ℕ) (at : ℕ) → Only P (text r w s at)
  unfolding text
  text-only w s at = cond-only (begins (bytes w) (drop at s)) (Ok (at + length (bytes w))) _ (good-only _) (refused-only r q)

  name-only : (x : Option (ℕ × ℕ)) → Only P (got r x)
  name-only (Some (v, next)) = good-only (v, next)
  name-only None = refused-only r q

  number-only : (x : Option (ℤ × ℕ)) → Only P (got r x)
  number-only (Some (z, next)) = good-only (z, next)
  number-only None = refused-only r q

  names-only : (m : ℕ) (s : List ℕ) (at : ℕ) → Only P (names r m s at)
  unfolding names
  names-only zero s at = good-only ([], at)
  names-only (suc m) s at = then-only (got r (name_at 44 s at)) _ (name-only (name_at 44 s at)) (λ a e. then-only (names r m s a.1) _ (names-only m s a.1) (λ b f. good-only _))

  numbers-only : (m : ℕ) (s : List ℕ) (at : ℕ) → Only P (numbers r m s at)
  unfolding numbers
  numbers-only zero s at = good-only ([], at)
  numbers-only (suc m) s at = then-only (got r (number_at (sep_of m) s at)) _ (number-only (number_at (sep_of m) s at)) (λ a e. then-only (numbers r m s a.1) _ (numbers-only m s a.1) (λ b f. good-only _))

  pub row-only : (a b : ℕ) (s : List ℕ) (at : ℕ) → Only P (row r a b s at)
  unfolding row
  row-only a b s at = then-only (names r a s at) _ (names-only a s at) (λ x e. then-only (numbers r b s x.1) _ (numbers-only b s x.1) (λ y f. good-only _))

  pub listed-only : {X : Type 0} (w : ℕ) (l : List (ℕ × X)) → Only P (listed r w l)
  unfolding listed
  listed-only w [] = refused-only r q
  listed-only w (x ∷ l) = cond-only (eqb w x.0) (Ok x.1) (listed r w l) (good-only _) (listed-only w l)
