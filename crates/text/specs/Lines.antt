-- Files (01): a line as a row of names and numbers, and lines that are given word for word. Assumes nothing.
use Rattle.std.specs.Prelude.{cond, List, [], ◌++◌, ◌∷◌, map, ◌≡◌, ℕ, zero, suc, ◌+◌, ◌-◌, ◌<◌, eqb, ℤ, pos, length, get_or, drop, Ok, Err, Option, Some, None}
use Prim.Native.String.{String}
use Rattle.integers.specs.Lists.{All}
use Rattle.answers.specs.declared.Refusal.{Refusal}
use Rattle.answers.specs.Answers.{Outcome, ◌>>=◌}
use Rattle.text.specs.Text.{Placed, Proper, Small, bytes, number_at, name_at, begins, decimal, letters, line}

-- a comma, or LF behind the last field of a line
abbrev pub sep_of : ℕ → ℕ
sep_of left = cond (eqb left 0) 10 44

-- m names with a comma behind each, and n numbers, the last of them at the line's end; r where they do not stand there: "a field that is not a number ends
-- the reading of its row"
abbrev pub got : {X : Type 0} → Refusal → Option X → Outcome X
got r (Some x) = Ok x
got r None = Err r

unfoldable pub names : Refusal → ℕ → List ℕ → ℕ → Outcome (Placed (List ℕ))
names r zero s at = Ok ([], at)
names r (suc m) s at = do
  (v, p) ← got r (name_at 44 s at)
  (vs, q) ← names r m s p
  Ok (v ∷ vs, q)

unfoldable pub numbers : Refusal → ℕ → List ℕ → ℕ → Outcome (Placed (List ℤ))
numbers r zero s at = Ok ([], at)
numbers r (suc n) s at = do
  (z, p) ← got r (number_at (sep_of n) s at)
  (zs, q) ← numbers r n s p
  Ok (z ∷ zs, q)

pub record Row : Type 0 where
  pub words : List ℕ
  pub values : List ℤ

unfoldable pub row : Refusal → ℕ → ℕ → List ℕ → ℕ → Outcome (Placed Row)
row r m n s at = do
  (ws, p) ← names r m s at
  (zs, q) ← numbers r n s p
  Ok (record { words = ws; values = zs }, q)

-- a text that has to stand at a place: a line of names, an empty line
unfoldable pub text : Refusal → String → List ℕ → ℕ → Outcome ℕ
text r w s at = cond (begins (bytes w) (drop at s)) (Ok (at + length (bytes w))) (Err r)

-- the first is word 0, the first number p1
abbrev pub word_of : Row → ℕ → ℕ
word_of r k = get_or r.words k 0

abbrev pub nth : List ℤ → ℕ → ℤ
nth l k = get_or l (k - 1) (pos 0)

-- "A phases or kind word not listed here is a fault of layout"
unfoldable pub listed : {X : Type 0} → Refusal → ℕ → List (ℕ × X) → Outcome X
listed r w [] = Err r
listed r w (x ∷ l) = cond (eqb w x.0) (Ok x.1) (listed r w l)

-- a row written as a line: its names, then its numbers
unfoldable pub row_text : Row → List ℕ
row_text x = line (map (letters 8) x.words ++ map decimal x.values)

-- a row of m names and n numbers, at least one, that can be written and read: its names are names, its numbers have at most 18 digits
pub record Readable (m n : ℕ) (x : Row) : Type 0 where
  pub proper : All Proper x.words
  pub small : All Small x.values
  pub words_are : length x.words ≡ m
  pub values-are : length x.values ≡ n
  pub some : 0 < n
