-- The tests 51, 52, 53, 55 and 56 over arrays, as the code makes them. Assumes nothing.
use Rattle.std.specs.Prelude.{Bool, ◌&&◌, cond, not, true, List, ◌∷◌, ◌*◌, ◌+◌, ◌-◌, ◌<◌, suc, zero, ℕ, eqb, ℤ, get_or, Option}
use Rattle.equations.specs.Equations.{at, zero3}
use Rattle.equations.specs.Taps.{moved_on, same_taps}
use Rattle.feeder.specs.Feeder.{abc, all_phases, first_row, has, level_of, no_branch, pair_at, taps_on}
use Rattle.feeder.specs.declared.Branch.{Branch}
use Rattle.feeder.specs.Phased.{Phases, Three}
use Rattle.integers.specs.Lists.{all, count}
use Rattle.integers.specs.Pairs.{0c, inside, same}
use Rattle.integers.specs.declared.Pair.{Pair}
use Rattle.radial.specs.Radial.{parent_in}
use Rattle.tap_table.specs.Regulators.{regulators_from}
use Rattle.compare.specs.declared.Powers.{Powers}
use Rattle.compare.specs.Differences.{same3}

-- the report's line of the first node, and of the first branch row, of which a test fails
abbrev pub node_scan : (ℕ → Bool) → ℕ → Option ℕ
node_scan bad rows = first_row (λ (j k : ℕ). bad k) 1 1 (0 ∷ count 1 rows)

abbrev pub row_scan : (ℕ → Bool) → ℕ → Option ℕ
row_scan bad rows = first_row (λ (j k : ℕ). bad k) (rows + 4) 1 (count 1 rows)

-- that of the first regulator among the branch rows from k on, where j regulators stand before row k
abbrev pub tap_scan : (ℕ → ℕ → Bool) → List Branch → ℕ → ℕ → ℕ → Option ℕ
tap_scan bad branches rows k j = first_row bad (2 * rows + 9) (j + 1) (regulators_from branches k rows)

-- 51: the names of a node row, of a branch row, and of the j-th regulator's row, that of branch row k
abbrev pub node_name_differs : List ℕ → List ℕ → ℕ → Bool
node_name_differs nodes names k = not (eqb (get_or names k 0) (get_or nodes k 0))

-- the from-node of each row has a place in the arrays
abbrev pub FromNodes : List Branch → ℕ → Type 0
FromNodes branches rows = (k : ℕ) → k < rows + 1 → parent_in branches k < 201

abbrev pub names_differ : List ℕ → List Branch → List ℕ → List ℕ → ℕ → Bool
names_differ nodes branches from to k = not (eqb (get_or from k 0) (get_or nodes (parent_in branches k) 0) && eqb (get_or to k 0) (get_or nodes k 0))

abbrev pub tap_name_differs : List ℕ → List ℕ → ℕ → ℕ → Bool
tap_name_differs nodes names j k = not (eqb (get_or names (j - 1) 0) (get_or nodes k 0))

-- 52: the source has all phases, and a node those of the branch that feeds it
abbrev pub phases_in : List Branch → ℕ → Phases
phases_in branches zero = all_phases
phases_in branches (suc k) = (get_or branches (suc k) no_branch).phases

abbrev pub absent_zero : Phases → Three → Bool
absent_zero f x = all (λ p. cond (has f p) true (same (at x p) 0c)) abc

abbrev pub absent_differs : List Branch → List Three → ℕ → Bool
absent_differs branches v k = not (absent_zero (phases_in branches k) (get_or v k zero3))

-- 53: the currents of a branch row
abbrev pub three_differs : List Three → List Three → ℕ → Bool
three_differs x y k = not (same3 (get_or x k zero3) (get_or y k zero3))

-- 55: the loss of a branch row; and the totals, of which the first number is the sweeps
abbrev pub losses_same : List Pair → List Pair → ℕ → Bool
losses_same x y k = same (get_or x k 0c) (get_or y k 0c)

abbrev pub told_powers : List ℤ → Powers
told_powers totals = record { source = pair_at totals 2; drawn = pair_at totals 4; lost = pair_at totals 6 }

abbrev pub same_powers : Powers → Powers → Bool
same_powers x y = same x.source y.source && (same x.drawn y.drawn && same x.lost y.lost)

-- 56: the taps of a branch row would not move at these voltages and currents; and the test of a row, by the feeder's branches and those with the reported taps
abbrev pub rests_in : List Branch → List Three → List Three → ℕ → Bool
rests_in own v i k = same_taps (moved_on (get_or own k no_branch) (get_or v k zero3) (get_or i k zero3)) (taps_on (get_or own k no_branch).device)

abbrev pub stays_in : List Branch → List Branch → List Three → List Three → ℕ → Bool
stays_in branches own v i k =
    cond (inside 0 (level_of (get_or branches k no_branch).device)) (same_taps (taps_on (get_or own k no_branch).device) (taps_on (get_or branches k no_branch).device)) (rests_in own v i k)

abbrev pub tap_moves : List Branch → List Branch → List Three → List Three → ℕ → ℕ → Bool
tap_moves branches own v i j k = not (stays_in branches own v i k)
