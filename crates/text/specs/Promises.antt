-- What the code says of its answers, beyond the definitions: a line's numbers that were read into a slice, and a text that was written into one.
-- Assumes nothing.
use Rattle.std.specs.Prelude.{◌≡◌, List, ℕ, ◌+◌, ℤ, length, Ok, Err, Option, Some, None}
use Rattle.std.proofs.lemmas.List.Edits.{sets}
use Rattle.answers.specs.declared.Refusal.{Refusal}
use Rattle.answers.specs.Answers.{Outcome}
use Rattle.text.specs.Text.{Placed}

-- the reader's answer and the values that it left, as an outcome with any refusal
abbrev pub filled : Refusal → Option ℕ → List ℤ → Outcome (Placed (List ℤ))
filled r (Some next) values = Ok (values, next)
filled r None values = Err r

-- the text vs was written into out from place at on: that leaves last, and behind is the place behind the text
pub record Written (out : List ℕ) (at : ℕ) (vs : List ℕ) (behind : ℕ) (last : List ℕ) : Type 0 where
  pub next : behind ≡ at + length vs
  pub holds : last ≡ sets out at vs
