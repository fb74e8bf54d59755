-- Laws of the tables: the lines k to n one by one, and lengths. Assumes nothing.
use Rattle.std.specs.Prelude.{Bool, cond, false, true, List, [], ◌++◌, ◌∷◌, ◌≡◌, refl, ◌+◌, ◌-◌, ◌<◌, ◌≤◌, suc, ℕ, get_or, length}
use Rattle.std.proofs.Common.{ap, arith, length-append}
use Rattle.feeder.specs.Feeder.{no_branch, regulates, taps_on}
use Rattle.feeder.specs.declared.Network.{Network}
use Rattle.integers.specs.Lists.{count, tab}
use Rattle.report_lines.specs.Lines.{tap_row, totals_row}
use Rattle.report_writer.specs.Tables.{branch_table, lines_from, node_table, tap_line_at, tap_table, totals_table}
use Rattle.report_lines.specs.LineLaws.{branch_fits, node-fits, tap-fits, totals-fits}
use Rattle.report_lines.specs.declared.Figures.{Figures}
use Rattle.text.specs.Text.{bytes, joined}

-- ---- the lines k to n
pub lines_next : (g : ℕ → List ℕ) (k n : ℕ) → k ≤ n → lines_from g k n ≡ g k ++ lines_from g (k + 1) n
unfolding lines_from count tab joined
lines_next g k n h =
    let e : suc n - k ≡ suc (suc n - (k + 1)) = omega arith in
    rw e

pub lines_none : (g : ℕ → List ℕ) (k n : ℕ) → n < k → lines_from g k n ≡ []
unfolding lines_from count tab joined
lines_none g k n h =
    let e : suc n - k ≡ 0 = omega arith in
    rw e

pub lines-longer : (g : ℕ → List ℕ) (k n : ℕ) → k ≤ n → length (lines_from g k n) ≡ length (g k) + length (lines_from g (k + 1) n)
lines-longer g k n h = rw (lines_next g k n h) (length-append (g k) (lines_from g (k + 1) n))

pub lines-over : (g : ℕ → List ℕ) (k n : ℕ) → n < k → length (lines_from g k n) ≡ 0
lines-over g k n h = rw (lines_none g k n h) refl

-- ---- the tables: their column names, the lines, and the empty line
pub node-table-length : (g : ℕ → List ℕ) (n : ℕ) → length (node_table g n) ≡ 42 + length (lines_from g 0 n)
unfolding node_table bytes
node-table-length g n = omega (arith, length-append (lines_from g 0 n) (10 ∷ []))

pub branch-table-length : (g : ℕ → List ℕ) (n : ℕ) → length (branch_table g n) ≡ 59 + length (lines_from g 1 n)
unfolding branch_table bytes
branch-table-length g n = omega (arith, length-append (lines_from g 1 n) (10 ∷ []))

pub totals-table-length : (g : Figures) → length (totals_table g) ≡ 56 + length (totals_row g)
unfolding totals_table bytes
totals-table-length g = omega (arith, length-append (totals_row g) (10 ∷ []))

pub tap-table-length : (g : ℕ → List ℕ) (n : ℕ) → length (tap_table g n) ≡ 21 + length (lines_from g 1 n)
unfolding tap_table bytes
tap-table-length g n = omega arith

-- ---- the line of a row in the last table
pub tap-none : (n : Network) (k : ℕ) → regulates (get_or n.branches k no_branch).device ≡ false → tap_line_at n k ≡ []
unfolding tap_line_at
tap-none n k e = rw e refl

pub tap-some : (n : Network) (k : ℕ) → regulates (get_or n.branches k no_branch).device ≡ true → tap_line_at n k ≡ tap_row (get_or n.nodes k 0) (taps_on (get_or n.branches k no_branch).device)
unfolding tap_line_at
tap-some n k e = ap (λ (d : Bool). cond d (tap_row (get_or n.nodes k 0) (taps_on (get_or n.branches k no_branch).device)) []) e

pub tap-line-fits : (n : Network) (k : ℕ) → length (tap_line_at n k) ≤ 75
unfolding tap_line_at
tap-line-fits n k = go (regulates (get_or n.branches k no_branch).device)
  where
    go : (d : Bool) → length (cond d (tap_row (get_or n.nodes k 0) (taps_on (get_or n.branches k no_branch).device)) []) ≤ 75
    go true = tap-fits _ _
    go false = omega arith

-- ---- what a table's width needs: its lines one by one, and the most that each can have
pub ruleset widths = (lines-longer, lines-over, node-table-length, branch-table-length, totals-table-length, tap-table-length, node-fits, branch_fits, totals-fits, tap-line-fits)
