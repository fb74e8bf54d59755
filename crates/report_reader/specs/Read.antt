-- What the report's reader answers, by the definitions of the report. Assumes nothing.
use Rattle.std.specs.Prelude.{Bool, false, not, true, ◌∷◌, List, map, ◌≡◌, ◌≤◌, suc, ℕ, ℤ, pos, get_or, length, replicate, Ok, Err}
use Rattle.answers.specs.Answers.{Outcome, ◌>>=◌, ◌>>◌, refuse_if}
use Rattle.answers.specs.declared.Refusal.TheVariants.{ReportLayout}
use Rattle.answers.specs.declared.Refusal.{Refusal}
use Rattle.integers.specs.Lists.{all, tab}
use Rattle.integers.specs.Pairs.{0c}
use Rattle.integers.specs.declared.Pair.{Pair}
use Rattle.text.specs.Lines.{Row, word_of}
use Rattle.feeder.specs.Feeder.{Feeder, branch_at, no_taps, regulators, row_count}
use Rattle.feeder.specs.Network.{branch_array, kept}
use Rattle.feeder.specs.declared.Network.{Network}
use Rattle.feeder.specs.Phased.{Taps, Three}
use Rattle.equations.specs.Equations.{zero3}
use Rattle.equations.specs.Sizes.{Within3}
use Rattle.report.specs.Report.{Reported, reported_currents, reported_losses, reported_taps, reported_voltages, tap_rows, taps_fit, taps_given}
use Rattle.report_reader.specs.declared.ReportArrays.{ReportArrays}
use Rattle.tap_table.specs.TapTable.{Stands}

-- ---- the report: by node number its names and voltages, and by branch row its names, currents and losses, with nothing at place 0. The totals are their
-- row's numbers, the first of them the sweeps; the names of the regulators' rows stand in the order of their table
pub record ReportRead : Type 0 where
  pub ok : Bool
  pub node_names : List ℕ
  pub voltages : List Three
  pub from_names : List ℕ
  pub to_names : List ℕ
  pub currents : List Three
  pub losses : List Pair
  pub totals : List ℤ
  pub tap_names : List ℕ

abbrev pub report_read : Bool → ReportArrays → ReportRead
report_read ok r = record {
  ok = ok;
  node_names = r.node_names;
  voltages = r.voltages;
  from_names = r.from_names;
  to_names = r.to_names;
  currents = r.currents;
  losses = r.losses;
  totals = r.totals;
  tap_names = r.tap_names;
}

-- the arrays with nothing read
unfoldable pub no_report : ReportArrays
no_report = record {
  node_names = replicate 201 0;
  voltages = replicate 201 zero3;
  from_names = replicate 201 0;
  to_names = replicate 201 0;
  currents = replicate 201 zero3;
  losses = replicate 201 0c;
  totals = replicate 7 (pos 0);
  tap_names = replicate 201 0;
  taps = replicate 201 no_taps;
}

-- nothing is read into r; what its totals are does not matter
abbrev pub Unread : ReportArrays → Type 0
Unread r = record r { totals = replicate 7 (pos 0) } ≡ no_report

-- the arrays of r hold the report x of a feeder with so many branch rows
pub record ReportHeld (rows : ℕ) (x : Reported) (r : ReportRead) : Type 0 where
  pub ok : r.ok ≡ true
  pub node_count : length x.nodes ≡ suc rows
  pub branch_count : length x.branches ≡ rows
  pub total_count : length x.totals ≡ 7
  pub node_names : r.node_names ≡ kept 0 201 (map (λ y. word_of y 0) x.nodes)
  pub voltages : r.voltages ≡ kept zero3 201 (reported_voltages x)
  pub from_names : r.from_names ≡ kept 0 201 (0 ∷ map (λ y. word_of y 0) x.branches)
  pub to_names : r.to_names ≡ kept 0 201 (0 ∷ map (λ y. word_of y 1) x.branches)
  pub currents : r.currents ≡ kept zero3 201 (reported_currents x)
  pub losses : r.losses ≡ kept 0c 201 (0c ∷ reported_losses x)
  pub totals : r.totals ≡ x.totals
  pub tap_names : r.tap_names ≡ kept 0 201 (map (λ y. word_of y 0) x.taps)
  pub small_voltages : (k : ℕ) → Within3 2000000 (get_or r.voltages k zero3)
  pub small_currents : (k : ℕ) → Within3 2000000 (get_or r.currents k zero3)

pub record NoReport (y : Refusal) (r : ReportRead) : Type 0 where
  pub ok : r.ok ≡ false
  pub layout : y ≡ ReportLayout

-- by cases of the outcome
abbrev pub ReportIs : ℕ → Outcome Reported → ReportRead → Type 0
ReportIs rows (Ok x) r = ReportHeld rows x r
ReportIs rows (Err y) r = NoReport y r

-- the reported taps, by node number
abbrev pub TapsHeld : Feeder → Reported → List Taps → Type 0
TapsHeld f x taps = taps ≡ kept no_taps 201 (reported_taps f x)

-- the network that the reader is lent holds the feeder f, and so many sweeps are its limit
pub record FeederShown (f : Feeder) (g : Network) (sweeps : ℕ) : Type 0 where
  pub nodes : g.nodes ≡ kept 0 201 f.nodes
  pub branches : g.branches ≡ branch_array f
  pub rows : g.rows ≡ row_count f
  pub few-rows : row_count f ≤ 200
  pub limit : sweeps ≡ f.limit

-- ---- the last table: its rows, which stand behind place `at`, and the test of their taps
abbrev pub fitting : Feeder → List Row → Bool
fitting f l = all (λ k. taps_fit (branch_at f k).phases (taps_given f l k)) (regulators f)

unfoldable pub last_taps : Feeder → List ℕ → ℕ → Outcome (List Row)
last_taps f s at = do
  l ← tap_rows f s at
  refuse_if (not (fitting f l)) ReportLayout
  Ok l

-- the arrays hold the names of its rows in their order, and by node number the taps that they give
pub record LastHeld (f : Feeder) (s : List ℕ) (at : ℕ) (names : List ℕ) (taps : List Taps) : Type 0 where
  pub list : List Row
  pub whole : tap_rows f s at ≡ Ok list
  pub fit : fitting f list ≡ true
  pub named : names ≡ kept 0 201 (map (λ y. word_of y 0) list)
  pub held : taps ≡ kept no_taps 201 (tab (taps_given f list) 0 (suc (row_count f)))

abbrev pub LastIs : Feeder → List ℕ → ℕ → Bool → List ℕ → List Taps → Type 0
LastIs f s at there names taps = Stands (last_taps f s at) there (LastHeld f s at names taps)
