-- Limits, radial form and what is due 0 (01, 02): 11 and 20 to 24, each the first line with that fault, the feeder that has none, and its taps. Assumes nothing.
use Rattle.std.specs.Prelude.{Bool, ◌&&◌, cond, false, not, true, List, [], ◌∷◌, map, ◌+◌, ◌-◌, suc, zero, ℕ, eqb, ltb, nat_abs, negsuc, neg_ℤ, pos, ℤ, get_or, length, take, Option, Some, None, Ok}
use Rattle.std.specs.Int.Signed.{le_z}
use Rattle.answers.specs.Answers.{Outcome, ◌>>=◌, ◌>>◌, refuse_at, refuse_if}
use Rattle.answers.specs.declared.Refusal.TheVariants.{NotReached, NotZero, OutOfLimit, PhaseAbsent, SecondTo, TooLong, UnknownFrom}
use Rattle.feeder.specs.Layout.{Rows, layout, phase_set}
use Rattle.feeder.specs.declared.Branch.{Branch}
use Rattle.feeder.specs.declared.BranchRow.{BranchRow}
use Rattle.feeder.specs.declared.Connection.TheVariants.{Delta, Wye}
use Rattle.feeder.specs.declared.Device.{Device}
use Rattle.feeder.specs.declared.Device.TheVariants.{Line, Regulator, Transformer}
use Rattle.feeder.specs.declared.Kind.{Kind}
use Rattle.feeder.specs.declared.Kind.TheVariants.{D, L, R, Y}
use Rattle.feeder.specs.declared.Load.{Load}
use Rattle.feeder.specs.declared.LoadRow.{LoadRow}
use Rattle.feeder.specs.declared.Phase.{Phase}
use Rattle.feeder.specs.declared.Phase.TheVariants.{A, B, C}
use Rattle.feeder.specs.Phased.{Phases, Signs, Taps, Three}
use Rattle.feeder.specs.declared.TapChanger.{TapChanger}
use Rattle.feeder.specs.declared.Terminals.{Terminals}
use Rattle.feeder.specs.declared.Terminals.TheVariants.{AB, BC, CA, OnA, OnB, OnC}
use Rattle.integers.specs.Lists.{all, chosen, count, tab}
use Rattle.integers.specs.Pairs.{0c, inside}
use Rattle.integers.specs.declared.Pair.{Pair}
use Rattle.text.specs.Lines.{nth}

-- 02, S-4: "the line returned shall be the first with that fault". Row k, counted from 1, stands in line `before` + k. What each fault is and which line is the
-- first is said without this search in Faults
unfoldable pub first_row : {X : Type 0} → (ℕ → X → Bool) → ℕ → ℕ → List X → Option ℕ
first_row bad before k [] = None
first_row bad before k (x ∷ l) = cond (bad k x) (Some (before + k)) (first_row bad before (k + 1) l)

unfoldable pub or_else : Option ℕ → Option ℕ → Option ℕ
or_else (Some n) other = Some n
or_else None other = other

abbrev pub first_branch : (ℕ → BranchRow → Bool) → Rows → Option ℕ
first_branch bad r = first_row bad 4 1 r.branches

abbrev pub first_load : (ℕ → LoadRow → Bool) → Rows → Option ℕ
first_load bad r = first_row bad (length r.branches + 6) 1 r.loads

-- ---- phases
abbrev pub has : Phases → Phase → Bool
has f A = f.a
has f B = f.b
has f C = f.c

abbrev pub abc : List Phase
abc = A ∷ B ∷ C ∷ []

abbrev pub all_phases : Phases
all_phases = phase_set true true true

abbrev pub no_phases : Phases
no_phases = phase_set false false false

-- all phases of f are among g's
abbrev pub all_of : Phases → Phases → Bool
all_of f g = all (λ p. cond (has f p) (has g p) true) abc

-- ---- what a load stands between
abbrev pub signs : ℤ → ℤ → ℤ → Signs
signs a b c = record { a = a; b = b; c = c }

-- its row of signs, one table for both: what of each phase's voltage stands at the load, and what of its current counts into each phase. 02, of AB, BC and CA:
-- "Its voltage is the first phase's minus the second's. Its current counts into the first phase and, with the sign changed, into the second"
abbrev pub phase_signs : Terminals → Signs
phase_signs OnA = signs (pos 1) (pos 0) (pos 0)
phase_signs OnB = signs (pos 0) (pos 1) (pos 0)
phase_signs OnC = signs (pos 0) (pos 0) (pos 1)
phase_signs AB = signs (pos 1) (negsuc 0) (pos 0)
phase_signs BC = signs (pos 0) (pos 1) (negsuc 0)
phase_signs CA = signs (negsuc 0) (pos 0) (pos 1)

-- the phases that it stands on: those whose sign is not 0
abbrev pub stands_on : Terminals → Phases
stands_on t = let s = phase_signs t in phase_set (not (inside 0 s.a)) (not (inside 0 s.b)) (not (inside 0 s.c))

-- whether it stands between two phases
abbrev pub delta : Terminals → Bool
delta OnA = false
delta OnB = false
delta OnC = false
delta AB = true
delta BC = true
delta CA = true

-- ---- the columns p1 to p12 of each kind of row
-- of a number its least and its greatest value, and the phases that it belongs to
pub record Limits : Type 0 where
  pub least : ℤ
  pub greatest : ℤ
  pub phases : Phases

-- such a number, or a column that is unused
abbrev pub Column : Type 0
Column = Option Limits

abbrev pub given : ℤ → ℤ → Phases → Column
given lo hi f = Some (record { least = lo; greatest = hi; phases = f })

abbrev pub impedance : Phases → Column
impedance f = given (neg_ℤ (pos 100000000)) (pos 100000000) f

abbrev pub tap : Phases → Column
tap f = given (neg_ℤ (pos 16)) (pos 16) f

abbrev pub turns : Column
turns = given (pos 1) (pos 1000000) no_phases

-- 02: "A regulator row gets p4 level and p5 bandwidth (cV, 0 to 20,000), p6 potential ratio and p7 current ratio (1 to 10,000), p8 and p9 compensator R and X
-- (limits as for lines)"
abbrev pub centivolts : Column
centivolts = given (pos 0) (pos 20000) no_phases

abbrev pub ratio : Column
ratio = given (pos 1) (pos 10000) no_phases

-- "Level 0 keeps the taps fixed, and then p5 to p9 are 0, under 24 and not 11": at level 0 these columns are unused
abbrev pub relay_columns : ℤ → List Column
relay_columns level = cond (inside 0 level) [] (centivolts ∷ ratio ∷ ratio ∷ impedance no_phases ∷ impedance no_phases ∷ [])

-- "L: p1–p12 are r,x of aa, ab, ac, bb, bc, cc, each within ±100,000,000 µΩ, 0 where a phase is absent";
-- "R: p1–p3 taps of A, B, C, −16 to 16; 0 on an absent phase", and p4 to p9 as above; "Y, D: p1 = N and p2 = M, each 1 to 1,000,000; p3–p8 r,x of A, B, C,
-- limits as for lines; p9–p12 0; phases ABC". A column that is not listed is unused. Given are the kind and the row's p4
abbrev pub columns : Kind → ℤ → List Column
columns L level =
    let aa = impedance (phase_set true false false) in
    let ab = impedance (phase_set true true false) in
    let ac = impedance (phase_set true false true) in
    let bb = impedance (phase_set false true false) in
    let bc = impedance (phase_set false true true) in
    let cc = impedance (phase_set false false true) in
    aa ∷ aa ∷ ab ∷ ab ∷ ac ∷ ac ∷ bb ∷ bb ∷ bc ∷ bc ∷ cc ∷ cc ∷ []
columns R level = tap (phase_set true false false) ∷ tap (phase_set false true false) ∷ tap (phase_set false false true) ∷ centivolts ∷ relay_columns level
columns Y level = let z = impedance no_phases in turns ∷ turns ∷ z ∷ z ∷ z ∷ z ∷ z ∷ z ∷ []
columns D level = let z = impedance no_phases in turns ∷ turns ∷ z ∷ z ∷ z ∷ z ∷ z ∷ z ∷ []

unfoldable pub column_of : Kind → List ℤ → ℕ → Column
column_of k p j = get_or (columns k (nth p 4)) (j - 1) None

-- ---- 11: "Voltages −2,000,000 to 2,000,000; tol 0 to 1,000 cV; sweeps 1 to 100", the limits of each kind of row, at most 200 and 300 rows
abbrev pub between : ℤ → ℤ → ℤ → Bool
between lo hi z = le_z lo z && le_z z hi

unfoldable pub source_in : List ℤ → Bool
source_in p = all (inside 2000000) (take 6 p) && (between (pos 0) (pos 1000) (nth p 7) && between (pos 1) (pos 100) (nth p 8))

-- "a field that can only be 0 in its kind of row has no limit under 11"
abbrev pub in_limit : Column → ℤ → Bool
in_limit (Some x) z = between x.least x.greatest z
in_limit None z = true

unfoldable pub branch_in : Kind → List ℤ → Bool
branch_in k p = all (λ j. in_limit (column_of k p j) (nth p j)) (count 1 12)

-- "vn 1 to 2,000,000 cV; p, q in VA, within ±3,000,000"; 02, of AB, BC and CA: "For these rows vn may reach 4,000,000"
abbrev pub vn_most : Terminals → ℤ
vn_most t = pos (cond (delta t) 4000000 2000000)

unfoldable pub load_in : LoadRow → Bool
load_in l = between (pos 1) (vn_most l.phase) l.vn && (inside 3000000 l.s.re && inside 3000000 l.s.im)

unfoldable pub out_of_limit : Rows → Option ℕ
out_of_limit r =
    or_else (cond (source_in r.given) None (Some 2))
    (or_else (first_branch (λ k b. cond (ltb 200 k) true (not (branch_in b.kind b.p))) r)
    (first_load (λ k l. cond (ltb 300 k) true (not (load_in l))) r))

-- ---- Radial form. "Every node but the source stands once as "to"": node 0 is the source, node k the "to" of row k; a name that no node has gets the number
-- behind the last
unfoldable pub place_of : ℕ → List ℕ → ℕ
place_of n [] = 0
place_of n (m ∷ l) = cond (eqb n m) 0 (suc (place_of n l))

unfoldable pub nodes_of : Rows → List ℕ
nodes_of r = r.source ∷ map (λ b. b.to) r.branches

abbrev pub known : Rows → ℕ → Bool
known r n = ltb (place_of n (nodes_of r)) (length (nodes_of r))

-- 20: "from-name is neither the source nor any "to""
unfoldable pub unknown_from : Rows → Option ℕ
unknown_from r = first_branch (λ k b. not (known r b.from)) r

-- 21: ""to" is the source or an earlier row's "to""
unfoldable pub second_to : Rows → Option ℕ
second_to r = first_branch (λ k b. ltb (place_of b.to (nodes_of r)) k) r

-- ---- the feeder by node numbers; `nodes` has the names
pub record Feeder : Type 0 where
  pub source : Three
  pub tol : ℕ
  pub limit : ℕ
  pub nodes : List ℕ
  pub branches : List Branch
  pub loads : List Load

abbrev pub pair_at : List ℤ → ℕ → Pair
pair_at p k = record { re = nth p k; im = nth p (k + 1) }

abbrev pub three_at : List ℤ → ℕ → Three
three_at p k = record { a = pair_at p k; b = pair_at p (k + 2); c = pair_at p (k + 4) }

-- "each branch is one record that carries its device"
unfoldable pub device_of : Kind → List ℤ → Device
device_of L p = Line (record { aa = pair_at p 1; ab = pair_at p 3; ac = pair_at p 5; bb = pair_at p 7; bc = pair_at p 9; cc = pair_at p 11 })
device_of R p = Regulator (record { taps = record { a = nth p 1; b = nth p 2; c = nth p 3 }; level = nth p 4; band = nth p 5; potential = nth p 6; current = nth p 7; z = pair_at p 8 })
device_of Y p = Transformer (record { connection = Wye; n = nth p 1; m = nth p 2; z = three_at p 3 })
device_of D p = Transformer (record { connection = Delta; n = nth p 1; m = nth p 2; z = three_at p 3 })

abbrev pub branch_of : List ℕ → BranchRow → Branch
branch_of nodes b = record { from = place_of b.from nodes; phases = b.phases; device = device_of b.kind b.p }

abbrev pub load_of : List ℕ → LoadRow → Load
load_of nodes l = record { node = place_of l.node nodes; phase = l.phase; kind = l.kind; vn = l.vn; s = l.s }

unfoldable pub feeder_of : Rows → Feeder
feeder_of r = record {
  source = three_at r.given 1;
  tol = nat_abs (nth r.given 7);
  limit = nat_abs (nth r.given 8);
  nodes = nodes_of r;
  branches = map (branch_of (nodes_of r)) r.branches;
  loads = map (load_of (nodes_of r)) r.loads;
}

abbrev pub no_branch : Branch
no_branch = record { from = 0; phases = no_phases; device = Line (record { aa = 0c; ab = 0c; ac = 0c; bb = 0c; bc = 0c; cc = 0c }) }

-- the branch that feeds node k, its from-node, the number of branch rows, and 1 to that number
unfoldable pub branch_at : Feeder → ℕ → Branch
branch_at f k = get_or (no_branch ∷ f.branches) k no_branch

abbrev pub parent : Feeder → ℕ → ℕ
parent f k = (branch_at f k).from

abbrev pub row_count : Feeder → ℕ
row_count f = length f.branches

abbrev pub rows_of : Feeder → List ℕ
rows_of f = count 1 (row_count f)

-- "A node has its feeding branch's phases; the source has all"
unfoldable pub phases_of : Feeder → ℕ → Phases
phases_of f zero = all_phases
phases_of f (suc k) = (branch_at f (suc k)).phases

-- ---- regulators and their taps (02)
abbrev pub no_taps : Taps
no_taps = record { a = pos 0; b = pos 0; c = pos 0 }

abbrev pub tap_at : Taps → Phase → ℤ
tap_at t A = t.a
tap_at t B = t.b
tap_at t C = t.c

abbrev pub regulates : Device → Bool
regulates (Line z) = false
regulates (Regulator x) = true
regulates (Transformer x) = false

-- a device as a regulator, where it is one
abbrev pub regulator_of : Device → Option TapChanger
regulator_of (Line z) = None
regulator_of (Regulator x) = Some x
regulator_of (Transformer x) = None

-- a device's taps and level, and the device with other taps
abbrev pub taps_on : Device → Taps
taps_on (Line z) = no_taps
taps_on (Regulator x) = x.taps
taps_on (Transformer x) = no_taps

abbrev pub level_of : Device → ℤ
level_of (Line z) = pos 0
level_of (Regulator x) = x.level
level_of (Transformer x) = pos 0

-- "Level 0 keeps the taps fixed"
abbrev pub moves_taps : Device → Bool
moves_taps d = not (inside 0 (level_of d))

abbrev pub tapped : Taps → Device → Device
tapped t (Line z) = Line z
tapped t (Regulator x) = Regulator (record { taps = t; level = x.level; band = x.band; potential = x.potential; current = x.current; z = x.z })
tapped t (Transformer x) = Transformer x

abbrev pub tapped_branch : Taps → Branch → Branch
tapped_branch t b = record { from = b.from; phases = b.phases; device = tapped t b.device }

-- the rows of the regulators, "in feeder order"
unfoldable pub regulators : Feeder → List ℕ
regulators f = chosen (λ k. regulates (branch_at f k).device) (rows_of f)

-- the feeder with other taps, which stand by node number as voltages do
unfoldable pub with_taps : List Taps → Feeder → Feeder
with_taps t f = record {
  source = f.source;
  tol = f.tol;
  limit = f.limit;
  nodes = f.nodes;
  branches = tab (λ k. tapped_branch (get_or t k no_taps) (branch_at f k)) 1 (row_count f);
  loads = f.loads;
}

-- the node n steps above i, and the source once it is arrived at
unfoldable pub above : (ℕ → ℕ) → ℕ → ℕ → ℕ
above par zero i = i
above par (suc n) zero = zero
above par (suc n) (suc i) = above par n (par (suc i))

-- 22: "branch row's to-node not reached from the source": as many steps up as there are rows do not arrive there
unfoldable pub not_reached : Rows → Option ℕ
not_reached r = let f = feeder_of r in first_branch (λ k b. not (eqb (above (parent f) (row_count f) k) 0)) r

-- 23: "branch phases not all at its from-node, Y or D not ABC, load's node unknown or its phase absent"; 02: "Both phases must be present under 23"
abbrev pub three_phase : Kind → Phases → Bool
three_phase L f = true
three_phase R f = true
three_phase Y f = all_of all_phases f
three_phase D f = all_of all_phases f

unfoldable pub phase_absent : Rows → Option ℕ
phase_absent r =
    let f = feeder_of r in
    or_else (first_branch (λ k b. not (all_of b.phases (phases_of f (parent f k)) && three_phase b.kind b.phases)) r)
    (first_load (λ k l. not (all_of (stands_on l.phase) (phases_of f (place_of l.node f.nodes)))) r)

-- 24: "nonzero where 0 is due": where a phase that the column belongs to is absent, and where the kind does not use the column
abbrev pub zero_if_due : Phases → Column → ℤ → Bool
zero_if_due f (Some x) z = cond (all_of x.phases f) true (inside 0 z)
zero_if_due f None z = inside 0 z

unfoldable pub zeros : Kind → Phases → List ℤ → Bool
zeros k f p = all (λ j. zero_if_due f (column_of k p j) (nth p j)) (count 1 12)

unfoldable pub not_zero : Rows → Option ℕ
not_zero r = first_branch (λ k b. not (zeros b.kind b.phases b.p)) r

-- "feeder or report over 65,536 bytes"
abbrev pub too_long : List ℕ → Bool
too_long s = ltb 65536 (length s)

-- 9 to 24: "The lowest number that applies anywhere comes first"
unfoldable pub reading : List ℕ → Outcome Feeder
reading s = do
  refuse_if (too_long s) TooLong
  r ← layout s
  refuse_at OutOfLimit (out_of_limit r)
  refuse_at UnknownFrom (unknown_from r)
  refuse_at SecondTo (second_to r)
  refuse_at NotReached (not_reached r)
  refuse_at PhaseAbsent (phase_absent r)
  refuse_at NotZero (not_zero r)
  Ok (feeder_of r)
