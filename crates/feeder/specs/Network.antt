-- The rows of a file in the arrays of `Tables`, and a feeder in those of a `Network`. Assumes nothing.
use Rattle.std.specs.Prelude.{List, [], ◌∷◌, ◌≡◌, ◌≤◌, suc, zero, ℕ, pos, length, replicate}
use Rattle.std.proofs.Common.{arith}
use Rattle.feeder.specs.Feeder.{Feeder, no_branch, no_phases, row_count}
use Rattle.feeder.specs.Layout.{Rows}
use Rattle.feeder.specs.declared.Branch.{Branch}
use Rattle.feeder.specs.declared.BranchRow.{BranchRow}
use Rattle.feeder.specs.declared.Kind.TheVariants.{L}
use Rattle.feeder.specs.declared.Load.{Load}
use Rattle.feeder.specs.declared.LoadKind.TheVariants.{Power}
use Rattle.feeder.specs.declared.LoadRow.{LoadRow}
use Rattle.feeder.specs.declared.Network.{Network}
use Rattle.feeder.specs.Phased.{Three}
use Rattle.feeder.specs.declared.Tables.{Tables}
use Rattle.feeder.specs.declared.Terminals.TheVariants.{OnA}
use Rattle.integers.specs.Pairs.{0c}

-- what an array of n places keeps of a list: its first n, and d where it has fewer
unfoldable pub kept : {X : Type 0} → X → ℕ → List X → List X
kept d zero l = []
kept d (suc n) [] = d ∷ kept d n []
kept d (suc n) (x ∷ l) = x ∷ kept d n l

-- what stands where an array keeps no row
abbrev pub no_branch_row : BranchRow
no_branch_row = record { from = 0; to = 0; phases = no_phases; kind = L; p = replicate 12 (pos 0) }

abbrev pub no_load_row : LoadRow
no_load_row = record { node = 0; phase = OnA; kind = Power; vn = pos 0; s = 0c }

abbrev pub no_load : Load
no_load = record { node = 0; phase = OnA; kind = Power; vn = pos 0; s = 0c }

abbrev pub no_three : Three
no_three = record { a = 0c; b = 0c; c = 0c }

-- ---- a file's rows
abbrev pub no_tables : Tables
no_tables = record {
  source = 0;
  given = replicate 8 (pos 0);
  rows = 0;
  branches = replicate 200 no_branch_row;
  count = 0;
  loads = replicate 300 no_load_row;
}

-- t has the rows r of a file: as many of them as it has room for, and how many there are
pub record Tabled (r : Rows) (t : Tables) : Type 0 where
  pub source : t.source ≡ r.source
  pub given : t.given ≡ r.given
  pub rows : t.rows ≡ length r.branches
  pub branches : t.branches ≡ kept no_branch_row 200 r.branches
  pub count : t.count ≡ length r.loads
  pub loads : t.loads ≡ kept no_load_row 300 r.loads

-- ---- a feeder
abbrev pub no_network : Network
no_network = record {
  source = no_three;
  tol = 0;
  limit = 0;
  rows = 0;
  nodes = replicate 201 0;
  branches = replicate 201 no_branch;
  count = 0;
  loads = replicate 300 no_load;
  order = replicate 201 0;
  rank = replicate 201 0;
  few_rows = omega arith;
  few_loads = omega arith;
}

-- a feeder's branches in an array, place 0 unused; and its loads
abbrev pub branch_array : Feeder → List Branch
branch_array f = kept no_branch 201 (no_branch ∷ f.branches)

abbrev pub load_array : Feeder → List Load
load_array f = kept no_load 300 f.loads

-- the arrays of g hold the feeder f
pub record Held (f : Feeder) (g : Network) : Type 0 where
  pub source : g.source ≡ f.source
  pub tol : g.tol ≡ f.tol
  pub limit : g.limit ≡ f.limit
  pub rows : g.rows ≡ row_count f
  pub few-rows : row_count f ≤ 200
  pub nodes : g.nodes ≡ kept 0 201 f.nodes
  pub branches : g.branches ≡ branch_array f
  pub count : g.count ≡ length f.loads
  pub few-loads : length f.loads ≤ 300
  pub loads : g.loads ≡ load_array f
