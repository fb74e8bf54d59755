-- Where a report differs from its feeder (01, 02): 51, 52, 53, 55 and 56. 54, which works voltages, stands with the check. Assumes nothing.
use Rattle.std.specs.Prelude.{Bool, ◌&&◌, cond, not, true, List, ◌∷◌, ◌*◌, ◌+◌, ◌-◌, ℕ, eqb, get_or, Option, Some, None}
use Rattle.equations.specs.Equations.{at, drawn_power, loss_of, lost_power, source_power, zero3}
use Rattle.equations.specs.Taps.{rests_at, same_taps}
use Rattle.feeder.specs.Feeder.{Feeder, abc, branch_at, first_row, has, level_of, or_else, parent, phases_of, regulators, row_count, rows_of, taps_on}
use Rattle.feeder.specs.Phased.{Three}
use Rattle.integers.specs.Lists.{all}
use Rattle.integers.specs.Pairs.{0c, inside, same}
use Rattle.report.specs.Report.{Reported, no_row, reported_currents, reported_drawn, reported_losses, reported_lost, reported_source, reported_voltages, with_reported}
use Rattle.text.specs.Lines.{word_of}

-- the first node, or branch row, of which a test fails: node k stands in the report's line k + 2, branch row k in line rows + 4 + k
abbrev pub first_node : Feeder → (ℕ → Bool) → Option ℕ
first_node f bad = first_row (λ i k. bad k) 1 1 (0 ∷ rows_of f)

abbrev pub first_branch_row : Feeder → (ℕ → Bool) → Option ℕ
first_branch_row f bad = first_row (λ i k. bad k) (row_count f + 4) 1 (rows_of f)

-- the j-th regulator stands in line 2·rows + 9 + j
abbrev pub first_tap_row : Feeder → (ℕ → ℕ → Bool) → Option ℕ
first_tap_row f bad = first_row bad (2 * row_count f + 9) 1 (regulators f)

abbrev pub same3 : Three → Three → Bool
same3 x y = all (λ p. same (at x p) (at y p)) abc

abbrev pub name_at_node : Feeder → ℕ → ℕ
name_at_node f k = get_or f.nodes k 0

-- 51: "names and row order are the feeder's"
unfoldable pub name_differs : Feeder → Reported → Option ℕ
name_differs f r =
    or_else (first_node f (λ k. not (eqb (word_of (get_or r.nodes k no_row) 0) (name_at_node f k))))
    (or_else (first_row (λ k x. not (eqb (word_of x 0) (name_at_node f (parent f k)) && eqb (word_of x 1) (name_at_node f k))) (row_count f + 4) 1 r.branches)
    (first_tap_row f (λ j k. not (eqb (word_of (get_or r.taps (j - 1) no_row) 0) (name_at_node f k)))))

-- 52: "source voltages are equal and absent phases 0"
unfoldable pub source_differs : Feeder → Reported → Option ℕ
source_differs f r =
    or_else (cond (same3 (get_or (reported_voltages r) 0 zero3) f.source) None (Some 2))
    (first_node f (λ k. not (all (λ p. cond (has (phases_of f k) p) true (same (at (get_or (reported_voltages r) k zero3) p) 0c)) abc)))

-- 53: "every reported I follows from load currents at the reported V"; i are the I so worked
unfoldable pub current_differs : Feeder → Reported → List Three → Option ℕ
current_differs f r i = first_branch_row f (λ k. not (same3 (get_or (reported_currents r) k zero3) (get_or i k zero3)))

-- 55: "losses and totals are equal"
unfoldable pub total_differs : Feeder → Reported → List Three → List Three → Bool
total_differs f r v i = not (
    all (λ k. same (get_or (0c ∷ reported_losses r) k 0c) (loss_of f i k)) (rows_of f)
    && (same (reported_source r) (source_power f i)
    && (same (reported_drawn r) (drawn_power f v)
    && same (reported_lost r) (lost_power f i))))

-- 56: "a tap in the report could still move as wanted, or is not the feeder's where level is 0"
unfoldable pub stays_at : Feeder → Reported → ℕ → Bool
stays_at f r k =
    let g : Feeder = with_reported f r in
    cond (inside 0 (level_of (branch_at f k).device)) (same_taps (taps_on (branch_at g k).device) (taps_on (branch_at f k).device)) (rests_at g (reported_voltages r) (reported_currents r) k)

unfoldable pub tap_differs : Feeder → Reported → Option ℕ
tap_differs f r = first_tap_row f (λ j k. not (stays_at f r k))
