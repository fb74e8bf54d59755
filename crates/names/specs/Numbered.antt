-- The arrays that hold a file's rows by node numbers, and refusal 23 as it is read off them. Assumes nothing.
use Rattle.std.specs.Prelude.{Bool, ◌&&◌, cond, not, true, List, ◌∷◌, ℕ, eqb, ltb, get_or}
use Rattle.feeder.specs.Feeder.{all_of, all_phases, feeder_of, no_branch, nodes_of, place_of, stands_on}
use Rattle.feeder.specs.Layout.{Rows}
use Rattle.feeder.specs.Network.{kept, no_load}
use Rattle.feeder.specs.declared.Branch.{Branch}
use Rattle.feeder.specs.declared.Device.{Device}
use Rattle.feeder.specs.declared.Device.TheVariants.{Line, Regulator, Transformer}
use Rattle.feeder.specs.declared.Load.{Load}
use Rattle.feeder.specs.Phased.{Phases}

-- the names of the nodes, the branch that feeds each node, the loads
abbrev pub nodes_in : Rows → List ℕ
nodes_in r = kept 0 201 (nodes_of r)

abbrev pub branches_in : Rows → List Branch
branches_in r = kept no_branch 201 (no_branch ∷ (feeder_of r).branches)

abbrev pub loads_in : Rows → List Load
loads_in r = kept no_load 300 (feeder_of r).loads

-- the phases of node k, which is fed by a branch with phases f
abbrev pub node_phases : ℕ → Phases → Phases
node_phases k f = cond (eqb k 0) all_phases f

abbrev pub phases_in : List Branch → ℕ → Phases
phases_in bs k = node_phases k (get_or bs k no_branch).phases

-- a transformer has all phases
abbrev pub three_phase_of : Device → Phases → Bool
three_phase_of (Line z) f = true
three_phase_of (Regulator t) f = true
three_phase_of (Transformer w) f = all_of all_phases f

-- ---- the faults of row k, which these tests find in the arrays
unfoldable pub from_unknown : ℕ → ℕ → Branch → Bool
from_unknown count k b = ltb count b.from

unfoldable pub to_second : List ℕ → ℕ → ℕ → Bool
to_second names k name = ltb (place_of name names) k

unfoldable pub branch_absent : List Branch → ℕ → Branch → Bool
branch_absent bs k b = not (all_of b.phases (phases_in bs (get_or bs k no_branch).from) && three_phase_of b.device b.phases)

unfoldable pub load_absent : List Branch → ℕ → Load → Bool
load_absent bs k l = not (all_of (stands_on l.phase) (phases_in bs l.node))
