-- Files (01, 02): the report's text, and the report read back. Assumes nothing.
use Rattle.std.specs.Prelude.{Bool, ◌&&◌, cond, not, true, List, [], ◌++◌, ◌∷◌, map, suc, zero, ℕ, pos, ℤ, drop, get_or, length, take, Ok}
use Prim.Native.String.{String}
use Rattle.answers.specs.Answers.{Outcome, ◌>>=◌, ◌>>◌, refuse_if}
use Rattle.answers.specs.declared.Refusal.TheVariants.{ReportLayout}
use Rattle.equations.specs.Equations.{at, drawn_power, loss_of, lost_power, source_power, zero3}
use Rattle.feeder.specs.Feeder.{Feeder, abc, between, branch_at, has, level_of, pair_at, parent, place_of, regulators, row_count, rows_of, tap_at, taps_on, three_at, with_taps}
use Rattle.feeder.specs.Layout.{file_end}
use Rattle.feeder.specs.Phased.{Phases, Taps, Three}
use Rattle.integers.specs.Lists.{all, any, tab}
use Rattle.integers.specs.Pairs.{inside}
use Rattle.integers.specs.declared.Pair.{Pair}
use Rattle.text.specs.Lines.{Row, nth, row, row_text, text}
use Rattle.text.specs.Text.{bytes, decimal, joined, letters, line, Placed}

-- ---- the text: "A table is a line of names, exactly those shown below, then lines of values in that order, comma-separated"
abbrev pub node_header : String
node_header = "node,va_re,va_im,vb_re,vb_im,vc_re,vc_im\n"

abbrev pub branch_header : String
branch_header = "from,to,ia_re,ia_im,ib_re,ib_im,ic_re,ic_im,loss_p,loss_q\n"

abbrev pub totals_header : String
totals_header = "sweeps,source_p,source_q,drawn_p,drawn_q,lost_p,lost_q\n"

abbrev pub tap_header : String
tap_header = "to,tap_a,tap_b,tap_c\n"

-- a table with a line g x for each x, and the empty line after it
abbrev pub table_text : {X : Type 0} → (X → List ℕ) → String → List X → List ℕ
table_text g header l = bytes header ++ (joined g l ++ bytes "\n")

unfoldable pub name_text : Feeder → ℕ → List ℕ
name_text f k = letters 8 (get_or f.nodes k 0)

abbrev pub pair_text : Pair → List (List ℕ)
pair_text x = decimal x.re ∷ decimal x.im ∷ []

abbrev pub three_text : Three → List (List ℕ)
three_text x = pair_text x.a ++ (pair_text x.b ++ pair_text x.c)

unfoldable pub node_line : Feeder → List Three → ℕ → List ℕ
node_line f v k = line (name_text f k ∷ three_text (get_or v k zero3))

unfoldable pub branch_line : Feeder → List Three → ℕ → List ℕ
branch_line f i k = line (name_text f (parent f k) ∷ name_text f k ∷ three_text (get_or i k zero3) ++ pair_text (loss_of f i k))

unfoldable pub totals_line : Feeder → List Three → List Three → ℕ → List ℕ
totals_line f v i k = line (decimal (pos k) ∷ pair_text (source_power f i) ++ (pair_text (drawn_power f v) ++ pair_text (lost_power f i)))

-- "Report rows: the source, then "to" nodes and branches in the feeder's row order"
unfoldable pub nodes_text : Feeder → List Three → List ℕ
nodes_text f v = table_text (node_line f v) node_header (0 ∷ rows_of f)

unfoldable pub branches_text : Feeder → List Three → List ℕ
branches_text f i = table_text (branch_line f i) branch_header (rows_of f)

unfoldable pub totals_text : Feeder → List Three → List Three → ℕ → List ℕ
totals_text f v i k = bytes totals_header ++ (totals_line f v i k ++ bytes "\n")

-- 02: "Every report gains a last table: to,tap_a,tap_b,tap_c, a row for each regulator in feeder order"
unfoldable pub tap_line : Feeder → ℕ → List ℕ
tap_line f k = let t = taps_on (branch_at f k).device in line (name_text f k ∷ decimal t.a ∷ decimal t.b ∷ decimal t.c ∷ [])

unfoldable pub taps_text : Feeder → List ℕ
taps_text f = bytes tap_header ++ joined (tap_line f) (regulators f)

unfoldable pub report_text : Feeder → List Three → List Three → ℕ → List ℕ
report_text f v i k = nodes_text f v ++ (branches_text f i ++ (totals_text f v i k ++ taps_text f))

-- ---- read back: the rows of the tables, and whether the last one is there; where it is not, the taps are the feeder's own
pub record Reported : Type 0 where
  pub nodes : List Row
  pub branches : List Row
  pub totals : List ℤ
  pub filed : Bool
  pub taps : List Row

-- the text that such rows are written as: a report that is read is just this text (ReportRead)
abbrev pub filed_text : Bool → List Row → List ℕ
filed_text filed l = cond filed (bytes "\n" ++ (bytes tap_header ++ joined row_text l)) []

unfoldable pub reported_text : Reported → List ℕ
reported_text r = table_text row_text node_header r.nodes ++ (table_text row_text branch_header r.branches
    ++ (bytes totals_header ++ (line (map decimal r.totals) ++ filed_text r.filed r.taps)))

-- just k rows of m names and n numbers
unfoldable pub rows_just : ℕ → ℕ → ℕ → List ℕ → ℕ → Outcome (Placed (List Row))
rows_just zero m n s at = Ok ([], at)
rows_just (suc k) m n s at = do
  (x, p) ← row ReportLayout m n s at
  (xs, q) ← rows_just k m n s p
  Ok (x ∷ xs, q)

-- a table of k such rows, and the place behind the empty line after it
unfoldable pub table_of : String → ℕ → ℕ → ℕ → List ℕ → Outcome (Placed (List Row))
table_of header k m n s = do
  p ← text ReportLayout header s 0
  (l, p) ← rows_just k m n s p
  p ← text ReportLayout "\n" s p
  Ok (l, p)

-- the row of the totals, and the place behind it
unfoldable pub totals_row : List ℕ → Outcome (Placed Row)
totals_row s = do
  p ← text ReportLayout totals_header s 0
  row ReportLayout 0 7 s p

-- the last table: just k rows, and nothing behind them
unfoldable pub tap_table : ℕ → List ℕ → Outcome (List Row)
tap_table k s = do
  p ← text ReportLayout tap_header s 0
  (l, p) ← rows_just k 1 3 s p
  refuse_if (not (file_end s p)) ReportLayout
  Ok l

-- a regulator's row in it
unfoldable pub tap_row : Feeder → ℕ → Row
tap_row f k = let t = taps_on (branch_at f k).device in record { words = get_or f.nodes k 0 ∷ []; values = t.a ∷ t.b ∷ t.c ∷ [] }

-- "A report filed without that table is read with the taps p1 to p3 if no regulator has a level above 0, else it meets 50"
unfoldable pub unfiled_taps : Feeder → Outcome (List Row)
unfiled_taps f = do
  refuse_if (any (λ k. not (inside 0 (level_of (branch_at f k).device))) (rows_of f)) ReportLayout
  Ok (map (tap_row f) (regulators f))

unfoldable pub tap_rows : Feeder → List ℕ → ℕ → Outcome (List Row)
tap_rows f s at = cond (file_end s at) (unfiled_taps f) (do
  p ← text ReportLayout "\n" s at
  tap_table (length (regulators f)) (drop p s))

-- the taps that rows of that table give the branch which feeds node k
abbrev pub no_row : Row
no_row = record { words = []; values = [] }

unfoldable pub taps_given : Feeder → List Row → ℕ → Taps
taps_given f l k = let p = (get_or l (place_of k (regulators f)) no_row).values in record { a = nth p 1; b = nth p 2; c = nth p 3 }

-- "a tap beyond ±16 or on an absent phase is met by 50"
unfoldable pub taps_fit : Phases → Taps → Bool
taps_fit f t = all (λ p. inside 16 (tap_at t p) && cond (has f p) true (inside 0 (tap_at t p))) abc

-- 50: "report's layout or number of rows wrong, voltage or current beyond ±2,000,000, sweeps outside 1 to the limit"
unfoldable pub report_of : Feeder → List ℕ → Outcome Reported
report_of f s = do
  (nodes, p) ← table_of node_header (suc (row_count f)) 1 6 s
  (branches, q) ← table_of branch_header (row_count f) 2 8 (drop p s)
  (totals, n) ← totals_row (drop q (drop p s))
  taps ← tap_rows f (drop q (drop p s)) n
  refuse_if (not (all (λ r. all (inside 2000000) r.values) nodes)) ReportLayout
  refuse_if (not (all (λ r. all (inside 2000000) (take 6 r.values)) branches)) ReportLayout
  refuse_if (not (between (pos 1) (pos f.limit) (nth totals.values 1))) ReportLayout
  refuse_if (not (all (λ k. taps_fit (branch_at f k).phases (taps_given f taps k)) (regulators f))) ReportLayout
  Ok (record { nodes = nodes; branches = branches; totals = totals.values; filed = not (file_end (drop q (drop p s)) n); taps = taps })

-- the reported taps by node number, and the feeder with them: "The check reads taps from there"
unfoldable pub reported_taps : Feeder → Reported → List Taps
reported_taps f r = tab (taps_given f r.taps) 0 (suc (row_count f))

unfoldable pub with_reported : Feeder → Reported → Feeder
with_reported f r = with_taps (reported_taps f r) f

-- the reported voltages and currents by node number (no current is reported for the source), losses by row, and totals
unfoldable pub reported_voltages : Reported → List Three
reported_voltages r = map (λ x. three_at x.values 1) r.nodes

unfoldable pub reported_currents : Reported → List Three
reported_currents r = zero3 ∷ map (λ x. three_at x.values 1) r.branches

unfoldable pub reported_losses : Reported → List Pair
reported_losses r = map (λ x. pair_at x.values 7) r.branches

abbrev pub reported_source : Reported → Pair
reported_source r = pair_at r.totals 2

abbrev pub reported_drawn : Reported → Pair
reported_drawn r = pair_at r.totals 4

abbrev pub reported_lost : Reported → Pair
reported_lost r = pair_at r.totals 6
