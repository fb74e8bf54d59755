-- Reported voltages against worked ones, 54 of 01: what the comparison requires, and what it gives. Assumes nothing.
use Rattle.std.specs.Prelude.{◌&&◌, Bool, cond, false, not, true, ◌∷◌, List, ◌≡◌, ◌+◌, ◌<◌, ◌≤◌, ℕ, get_or, Option}
use Rattle.equations.specs.Equations.{at, downward, voltages, zero3}
use Rattle.equations.specs.Sizes.{Within3}
use Rattle.feeder.specs.Feeder.{Feeder, abc, first_row, parent, row_count, rows_of}
use Rattle.feeder.specs.declared.Branch.{Branch}
use Rattle.feeder.specs.Phased.{Three}
use Rattle.integers.specs.Lists.{all, count}
use Rattle.integers.specs.Pairs.{close}
use Rattle.radial.specs.Radial.{parent_in}

-- reported voltages that a comparison is made with, the source's own at the source
pub record Comparable (source : Three) (reported : List Three) (tol : ℕ) : Type 0 where
  pub first : get_or reported 0 zero3 ≡ source
  pub each : (k : ℕ) → Within3 2000000 (get_or reported k zero3)
  pub small : tol ≤ 1000

-- x and y differ by more than tol
abbrev pub differ : ℕ → Three → Three → Bool
differ tol x y = not (all (λ p. close tol (at x p) (at y p)) abc)

-- node k is off, and some node above it is: u are the worked voltages
abbrev pub off_at : ℕ → List Three → List Three → ℕ → Bool
off_at tol u reported k = differ tol (get_or u k zero3) (get_or reported k zero3)

abbrev pub below_off_at : Feeder → ℕ → List Three → List Three → ℕ → Bool
below_off_at f tol u reported k = downward (λ m b. cond (off_at tol u reported (parent f m)) true b) false (parent f) (row_count f) k

-- the report's line of the first node that is off below none
abbrev pub first_off : Feeder → ℕ → List Three → List Three → Option ℕ
first_off f tol u reported = first_row (λ (j k : ℕ). off_at tol u reported k && not (below_off_at f tol u reported k)) 1 1 (0 ∷ rows_of f)

-- a mark for each node that is off or below one: below a node is what is marked at its parent
pub record MarksAre (f : Feeder) (branches : List Branch) (rows : ℕ) (i reported : List Three) (tol : ℕ) (off : List Bool) : Type 0 where
  pub mark : (k : ℕ) → k < rows + 1 → get_or off k false ≡ cond (off_at tol (voltages f i) reported k) true (below_off_at f tol (voltages f i) reported k)
  pub parent-mark : (k : ℕ) → 0 < k → k < rows + 1 → get_or off (parent_in branches k) false ≡ below_off_at f tol (voltages f i) reported k

abbrev pub first_marked : List Branch → ℕ → List Bool → Option ℕ
first_marked branches rows off = first_row (λ (j k : ℕ). get_or off k false && not (get_or off (parent_in branches k) false)) 1 1 (0 ∷ count 1 rows)
