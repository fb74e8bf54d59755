-- Sums and tests over lists of rows, and tables of values. Assumes nothing.
use Rattle.std.specs.Prelude.{Bool, ◌&&◌, cond, false, true, List, [], ◌∷◌, ◌+◌, suc, zero, ℕ}
use Rattle.integers.specs.declared.Pair.{Pair}
use Rattle.integers.specs.Pairs.{0c, ◌+c◌}

-- the sum of a pair, and of a natural number, for each row
unfoldable pub csum : {X : Type 0} → (X → Pair) → List X → Pair
csum f [] = 0c
csum f (x ∷ l) = f x +c csum f l

unfoldable pub nsum : {X : Type 0} → (X → ℕ) → List X → ℕ
nsum f [] = 0
nsum f (x ∷ l) = f x + nsum f l

unfoldable pub all : {X : Type 0} → (X → Bool) → List X → Bool
all f [] = true
all f (x ∷ l) = f x && all f l

unfoldable pub any : {X : Type 0} → (X → Bool) → List X → Bool
any f [] = false
any f (x ∷ l) = cond (f x) true (any f l)

-- those of which a test says so, in their order
unfoldable pub chosen : {X : Type 0} → (X → Bool) → List X → List X
chosen f [] = []
chosen f (x ∷ l) = cond (f x) (x ∷ chosen f l) (chosen f l)

-- f k, f (k + 1), .., n of them
unfoldable pub tab : {X : Type 0} → (ℕ → X) → ℕ → ℕ → List X
tab f k zero = []
tab f k (suc n) = f k ∷ tab f (k + 1) n

-- k, k + 1, .., n of them
unfoldable pub count : ℕ → ℕ → List ℕ
count k n = tab (λ i. i) k n

-- P of every element
abbrev pub All : {X : Type 0} → (X → Type 0) → List X → Type 0
All P [] = Unit {0}
All P (x ∷ l) = P x × All P l
