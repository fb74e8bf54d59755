-- What the programs write: the text of an answer, and the buffer that it is put into. Assumes nothing.
use Rattle.std.specs.Prelude.{cond, List, [], ◌++◌, ◌≡◌, ◌≤◌, ℕ, ltb, pos, drop, length, take, Ok, Err}
use Rattle.answers.specs.Answers.{Outcome, number_of, value_of}
use Rattle.text.specs.Text.{bytes, decimal}

-- a refusal: "refused NUMBER VALUE" and LF
unfoldable pub refused_line : ℕ → ℕ → List ℕ
refused_line number value = bytes "refused " ++ (decimal (pos number) ++ (bytes " " ++ (decimal (pos value) ++ bytes "\n")))

-- the text of an outcome: a text of its own where it is good, else the refusal's line
abbrev pub text_told : {X : Type 0} → (X → List ℕ) → Outcome X → List ℕ
text_told of-good (Ok x) = of-good x
text_told of-good (Err r) = refused_line (number_of r) (value_of r)

-- what is put of a text into n bytes: all of it, or nothing where it is longer
unfoldable pub whole_or_nothing : ℕ → List ℕ → List ℕ
whole_or_nothing n text = cond (ltb n (length text)) [] text

-- a text put at the start of a buffer: how many bytes were written, and every byte of the buffer after the call. The last two follow from these
pub record PutAtStart (text before : List ℕ) (written : ℕ) (after : List ℕ) : Type 0 where
  pub size : written ≡ length (whole_or_nothing (length before) text)
  pub holds : after ≡ whole_or_nothing (length before) text ++ drop written before
  pub fits : written ≤ length after
  pub stands : written ≡ length (take written after)
