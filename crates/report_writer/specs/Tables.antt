-- The report's tables over their lines, and its text over the arrays that the code has. Assumes nothing.
use Rattle.std.specs.Prelude.{cond, ◌-◌, ◌<◌, ◌≤◌, suc, ℕ, get_or, List, [], ◌++◌, ◌∷◌}
use Rattle.equations.specs.Equations.{zero3}
use Rattle.feeder.specs.Feeder.{no_branch, regulates, taps_on}
use Rattle.feeder.specs.declared.Network.{Network}
use Rattle.feeder.specs.Phased.{Three}
use Rattle.integers.specs.Pairs.{0c}
use Rattle.integers.specs.declared.Pair.{Pair}
use Rattle.integers.specs.Lists.{count}
use Rattle.report_lines.specs.Lines.{branch_row, node_row, tap_row, totals_row}
use Rattle.report_lines.specs.declared.Figures.{Figures}
use Rattle.text.specs.Text.{bytes, joined}

-- ---- tables: the lines k to n, and each table with its line of column names
unfoldable pub lines_from : (ℕ → List ℕ) → ℕ → ℕ → List ℕ
lines_from g k n = joined g (count k (suc n - k))

unfoldable pub node_table : (ℕ → List ℕ) → ℕ → List ℕ
node_table g n = bytes "node,va_re,va_im,vb_re,vb_im,vc_re,vc_im\n" ++ (lines_from g 0 n ++ (10 ∷ []))

unfoldable pub branch_table : (ℕ → List ℕ) → ℕ → List ℕ
branch_table g n = bytes "from,to,ia_re,ia_im,ib_re,ib_im,ic_re,ic_im,loss_p,loss_q\n" ++ (lines_from g 1 n ++ (10 ∷ []))

unfoldable pub totals_table : Figures → List ℕ
totals_table g = bytes "sweeps,source_p,source_q,drawn_p,drawn_q,lost_p,lost_q\n" ++ (totals_row g ++ (10 ∷ []))

unfoldable pub tap_table : (ℕ → List ℕ) → ℕ → List ℕ
tap_table g n = bytes "to,tap_a,tap_b,tap_c\n" ++ lines_from g 1 n

-- ---- over the arrays
-- the from-node of branch row k
abbrev pub from_in : Network → ℕ → ℕ
from_in n k = (get_or n.branches k no_branch).from

-- the arrays have a place for the from-node of each row
abbrev pub Linked : Network → Type 0
Linked n = (k : ℕ) → 0 < k → k ≤ n.rows → from_in n k < 201

-- the line of node k, and of branch row k
unfoldable pub node_line_at : Network → List Three → ℕ → List ℕ
node_line_at n v k = node_row (get_or n.nodes k 0) (get_or v k zero3)

unfoldable pub branch_line_at : Network → List Three → List Pair → ℕ → List ℕ
branch_line_at n i losses k = branch_row (get_or n.nodes (from_in n k) 0) (get_or n.nodes k 0) (get_or i k zero3) (get_or losses k 0c)

-- the line of branch row k in the last table: none where it is no regulator's
unfoldable pub tap_line_at : Network → ℕ → List ℕ
tap_line_at n k = let d = (get_or n.branches k no_branch).device in cond (regulates d) (tap_row (get_or n.nodes k 0) (taps_on d)) []

unfoldable pub whole_text : Network → List Three → List Three → List Pair → Figures → List ℕ
whole_text n v i losses g = node_table (node_line_at n v) n.rows ++ (branch_table (branch_line_at n i losses) n.rows ++ (totals_table g ++ tap_table (tap_line_at n) n.rows))
