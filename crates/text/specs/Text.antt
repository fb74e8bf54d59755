-- Files (01): numbers, names and words as text. A text is the list of its bytes. Assumes nothing.
use Rattle.std.specs.Prelude.{Bool, true, false, cond, ◌&&◌, List, [], ◌∷◌, ◌++◌, ◌≡◌, ℕ, zero, suc, ◌+◌, ◌-◌, ◌*◌, ◌/◌, ◌%◌, ◌<◌, ltb, leb, eqb, ℤ, pos, neg_ℤ, nat_abs, drop, Option, Some, None}
use Prim.Native.String.{String, [] as ε, ◌∷◌ as ◌◃◌}
use Prim.Native.Char.{code}
use Rattle.std.specs.Int.Signed.{lt_z}
use Rattle.integers.specs.Lists.{All}

-- the bytes of a text that stands here in quotes
unfoldable pub bytes : String → List ℕ
bytes ε = []
bytes (c ◃ s) = code c ∷ bytes s

-- ---- reading. A field ends with the separator that is due there: a comma, or LF at the line's end. Each reading has the rest of the text,
-- the place i where it stands, and gives the value with the place behind the separator
-- a value, and the place behind its text
abbrev pub Placed : Type 0 → Type 0
Placed X = X × ℕ

-- "A number is an optional minus and 1 to 18 digits, no leading zero, no "-0""
abbrev pub digit : ℕ → Bool
digit b = leb 48 b && leb b 57

-- v has been read. A further digit may come where v is not 0 (no leading zero) and has at most 17 digits
unfoldable pub more : ℕ → List ℕ → ℕ → ℕ → Option (Placed ℤ)
more sep [] i v = None
more sep (b ∷ t) i v =
    let further = more sep t (i + 1) (v * 10 + (b - 48)) in
    cond (eqb b sep) (Some (pos v, i + 1)) (cond (digit b && (ltb 0 v && ltb v 100000000000000000)) further None)

unfoldable pub natural : ℕ → List ℕ → ℕ → Option (Placed ℤ)
natural sep [] i = None
natural sep (b ∷ t) i = cond (digit b) (more sep t (i + 1) (b - 48)) None

-- behind a minus
abbrev pub negated : Option (Placed ℤ) → Option (Placed ℤ)
negated (Some (z, next)) = cond (eqb (nat_abs z) 0) None (Some (neg_ℤ z, next))
negated None = None

unfoldable pub number : ℕ → List ℕ → ℕ → Option (Placed ℤ)
number sep [] i = None
number sep (b ∷ t) i = cond (eqb b 45) (negated (natural sep t (i + 1))) (natural sep (b ∷ t) i)

abbrev pub number_at : ℕ → List ℕ → ℕ → Option (Placed ℤ)
number_at sep s at = number sep (drop at s) at

-- "A name is 1 to 8 of A–Z and 0–9": as one number, its bytes the digits of base 256. v has been read; a further letter may come where v has at most 7
abbrev pub letter : ℕ → Bool
letter b = cond (ltb b 58) (leb 48 b) (leb 65 b && leb b 90)

unfoldable pub name : ℕ → List ℕ → ℕ → ℕ → Option (Placed ℕ)
name sep [] i v = None
name sep (b ∷ t) i v =
    let further = name sep t (i + 1) (v * 256 + b) in
    cond (eqb b sep) (cond (eqb v 0) None (Some (v, i + 1))) (cond (letter b && ltb v 72057594037927936) further None)

abbrev pub name_at : ℕ → List ℕ → ℕ → Option (Placed ℕ)
name_at sep s at = name sep (drop at s) at 0

-- a word that stands here in quotes, as that number
unfoldable pub pack : ℕ → List ℕ → ℕ
pack v [] = v
pack v (b ∷ l) = pack (v * 256 + b) l

unfoldable pub word : String → ℕ
word s = pack 0 (bytes s)

-- the first list stands at the start of the second
unfoldable pub begins : List ℕ → List ℕ → Bool
begins [] s = true
begins (w ∷ ws) [] = false
begins (w ∷ ws) (b ∷ s) = eqb w b && begins ws s

-- ---- writing: a number and a name as text (20 digits and 8 letters hold all that can stand in a report), and a line of fields
unfoldable pub digits : ℕ → ℕ → List ℕ
digits zero n = []
digits (suc f) n = let front = digits f (n / 10) in cond (ltb n 10) [] front ++ ((48 + n % 10) ∷ [])

unfoldable pub decimal : ℤ → List ℕ
decimal z = cond (lt_z z (pos 0)) (45 ∷ []) [] ++ digits 20 (nat_abs z)

unfoldable pub letters : ℕ → ℕ → List ℕ
letters zero v = []
letters (suc f) v = let front = letters f (v / 256) in cond (eqb v 0) [] (front ++ (v % 256 ∷ []))

-- "comma-separated", "ended by LF"
unfoldable pub line : List (List ℕ) → List ℕ
line [] = 10 ∷ []
line (x ∷ []) = x ++ (10 ∷ [])
line (x ∷ (y ∷ l)) = x ++ (44 ∷ line (y ∷ l))

-- a number that can be written and read, of at most 18 digits, and the number of a name, of 1 to 8 letters
abbrev pub Small : ℤ → Type 0
Small z = nat_abs z < 1000000000000000000

pub record Proper (v : ℕ) : Type 0 where
  pub some : 0 < v
  pub fits : v < 18446744073709551616
  pub made : All (λ b. letter b ≡ true) (letters 8 v)

-- one text behind the other
unfoldable pub joined : {X : Type 0} → (X → List ℕ) → List X → List ℕ
joined f [] = []
joined f (x ∷ l) = f x ++ joined f l
