-- Which rows of a report have a fault of 51 to 54 (01, 'Refusals') or of 56 (02, S-5), and that the check points at the first of them (02, S-4). Into the
-- feeder's file it points as the study does. Nothing here searches the rows. Assumes nothing.
use Rattle.std.specs.Prelude.{false, true, List, ◌⊎◌, ◌≡◌, ◌+◌, ◌<◌, ◌≤◌, suc, ℕ, ◌+ℤ◌, ◌-ℤ◌, pos, ℤ, get_or, length, Ok, Err}
use Rattle.answers.specs.Answers.{Done, Outcome}
use Rattle.answers.specs.declared.Refusal.{Refusal}
use Rattle.answers.specs.declared.Refusal.TheVariants.{CurrentDiffers, NameDiffers, SourceDiffers, TapDiffers, VoltageOff}
use Rattle.compare.specs.Differences.{name_at_node, total_differs}
use Rattle.equations.specs.Equations.{at, current_beyond, currents, load_beyond, voltages, zero3, zero_voltage}
use Rattle.equations.specs.Taps.{relay_voltage, wants_down, wants_up}
use Rattle.feeder.specs.Faults.{NoLine, PointsAt, PointsIntoFeeder, Stands}
use Rattle.feeder.specs.Feeder.{Feeder, above, branch_at, has, parent, phases_of, reading, regulators, tap_at, three_at}
use Rattle.feeder.specs.File.{line_at}
use Rattle.feeder.specs.declared.Device.TheVariants.{Regulator}
use Rattle.feeder.specs.declared.Phase.{Phase}
use Rattle.feeder.specs.declared.TapChanger.{TapChanger}
use Rattle.feeder.specs.Phased.{Taps, Three}
use Rattle.integers.specs.Pairs.{0c, close, inside}
use Rattle.integers.specs.declared.Pair.{Pair}
use Rattle.report.specs.Report.{Reported, report_of, reported_currents, reported_voltages, with_reported}
use Rattle.text.specs.Lines.{Row, nth, row_text, word_of}

-- ---- the rows of a report by their lines
-- a row of the node table with its node's number, or one of the branch table or of the table of taps with its place
pub data ReportRow : Type 0 where
  of_nodes : ℕ → Row → ReportRow
  of_branches : ℕ → Row → ReportRow
  of_taps : ℕ → Row → ReportRow

-- "Report rows: the source, then "to" nodes and branches in the feeder's row order": node k stands at place k + 1 of its table. Line 1 has the node table's names;
-- behind the node rows come an empty line and the branch table's names; behind the branch rows an empty line, two lines of totals, an empty line and the names
-- of the last table, where it is there
abbrev pub InReportLine : Reported → ReportRow → ℕ → Type 0
InReportLine x (of_nodes k y) n = Stands x.nodes (suc k) y × (n ≡ k + 2)
InReportLine x (of_branches k y) n = Stands x.branches k y × (n ≡ length x.nodes + 3 + k)
InReportLine x (of_taps k y) n = (x.filed ≡ true) × (Stands x.taps k y × (n ≡ length x.nodes + length x.branches + 8 + k))

-- what a row is written as
abbrev pub report_written_as : ReportRow → List ℕ
report_written_as (of_nodes k y) = row_text y
report_written_as (of_branches k y) = row_text y
report_written_as (of_taps k y) = row_text y

-- the three voltages, or currents, of a row, and the taps of one of the last table
abbrev pub three_in : Row → Three
three_in y = three_at y.values 1

abbrev pub taps_in : Row → Taps
taps_in y = record { a = nth y.values 1; b = nth y.values 2; c = nth y.values 3 }

-- ---- the row has this fault, in the report x of the feeder f
-- the k-th row of the last table has another name than the k-th regulator's to-node: "a row for each regulator in feeder order"
pub record OtherRegulator (f : Feeder) (k : ℕ) (y : Row) : Type 0 where
  pub branch : ℕ
  pub regulator : Stands (regulators f) k branch
  pub differs : word_of y 0 ≡ name_at_node f branch → ⊥

-- 51: "name or row differs"
abbrev pub Fault51 : Feeder → Reported → ReportRow → Type 0
Fault51 f x (of_nodes k y) = word_of y 0 ≡ name_at_node f k → ⊥
Fault51 f x (of_branches k y) = (word_of y 0 ≡ name_at_node f (parent f k) → ⊥) ⊎ (word_of y 1 ≡ name_at_node f k → ⊥)
Fault51 f x (of_taps k y) = OtherRegulator f k y

-- a voltage of node k on a phase that it lacks is not 0
pub record VoltageOnAbsent (f : Feeder) (k : ℕ) (v : Three) : Type 0 where
  pub phase : Phase
  pub absent : has (phases_of f k) phase ≡ false
  pub not-zero : at v phase ≡ 0c → ⊥

-- 52: "source voltage differs, or a voltage on an absent phase is not 0"
abbrev pub Fault52 : Feeder → Reported → ReportRow → Type 0
Fault52 f x (of_nodes k y) = ((k ≡ 0) × (three_in y ≡ f.source → ⊥)) ⊎ VoltageOnAbsent f k (three_in y)
Fault52 f x (of_branches k y) = ⊥
Fault52 f x (of_taps k y) = ⊥

-- 53: "reported I differs" from that which "follows from load currents at the reported V"
abbrev pub worked_currents : Feeder → Reported → List Three
worked_currents f x = currents f (reported_voltages x)

abbrev pub Fault53 : Feeder → Reported → ReportRow → Type 0
Fault53 f x (of_nodes k y) = ⊥
Fault53 f x (of_branches k y) = three_in y ≡ get_or (worked_currents f x) k zero3 → ⊥
Fault53 f x (of_taps k y) = ⊥

-- 54: "voltage off by more than tol": "the voltages worked downward from the source with those I .. differ from the reported ones by at most tol in re and im", or
-- node k is off
pub record IsOff (f : Feeder) (x : Reported) (k : ℕ) : Type 0 where
  pub phase : Phase
  pub not-close : close f.tol (at (get_or (voltages f (worked_currents f x)) k zero3) phase) (at (get_or (reported_voltages x) k zero3) phase) ≡ false

-- node k is fed through node j, which is one or more steps above it on the way to the source, or is the source
pub record FedThrough (f : Feeder) (k j : ℕ) : Type 0 where
  pub below : 0 < k
  pub steps : ℕ
  pub arrives : above (parent f) (suc steps) k ≡ j

-- "a row whose node is fed through another that is off does not count, wherever it stands"
abbrev pub Fault54 : Feeder → Reported → ReportRow → Type 0
Fault54 f x (of_nodes k y) = IsOff f x k × ((j : ℕ) → FedThrough f k j → IsOff f x j → ⊥)
Fault54 f x (of_branches k y) = ⊥
Fault54 f x (of_taps k y) = ⊥

-- 02: the check "compares everything else for those taps", the reported ones
abbrev pub ForTaps : (Feeder → Reported → ReportRow → Type 0) → Feeder → Reported → ReportRow → Type 0
ForTaps Fault f x y = Fault (with_reported f x) x y

-- the voltage at the relay of the regulator d on a phase, by the report x; the branch is row k
abbrev pub relay_at : Reported → ℕ → TapChanger → Phase → Pair
relay_at x k d p = relay_voltage d (at (get_or (reported_voltages x) k zero3) p) (at (get_or (reported_currents x) k zero3) p)

-- "could still move as wanted": a present phase wants up, or down, and one step that way is within −16 to 16
abbrev pub CanMove : Reported → ℕ → TapChanger → Phase → ℤ → Type 0
CanMove x k d p tap =
    ((wants_up d (relay_at x k d p) ≡ true) × (inside 16 (tap +ℤ pos 1) ≡ true)) ⊎ ((wants_down d (relay_at x k d p) ≡ true) × (inside 16 (tap -ℤ pos 1) ≡ true))

-- 56: "a tap in the report could still move as wanted, or is not the feeder's where level is 0"
pub record TapFault (f : Feeder) (x : Reported) (k : ℕ) (y : Row) : Type 0 where
  pub branch : ℕ
  pub changer : TapChanger
  pub regulator : Stands (regulators f) k branch
  pub device : (branch_at f branch).device ≡ Regulator changer
  pub phase : Phase
  pub fault : ((changer.level ≡ pos 0) × (tap_at (taps_in y) phase ≡ tap_at changer.taps phase → ⊥))
      ⊎ ((changer.level ≡ pos 0 → ⊥) × ((has (branch_at f branch).phases phase ≡ true) × CanMove x branch changer phase (tap_at (taps_in y) phase)))

abbrev pub Fault56 : Feeder → Reported → ReportRow → Type 0
Fault56 f x (of_nodes k y) = ⊥
Fault56 f x (of_branches k y) = ⊥
Fault56 f x (of_taps k y) = TapFault f x k y

-- the row in line n has a fault: in a report x of the feeder f, and in a text t that is read so. That s is read as a feeder is that none of 9 to 24 applies, and that
-- t is read as its report that 50 does not
pub record ReportRowAt (Fault : Feeder → Reported → ReportRow → Type 0) (f : Feeder) (x : Reported) (n : ℕ) : Type 0 where
  pub row : ReportRow
  pub in-line : InReportLine x row n
  pub faulty : Fault f x row

pub record ReportFaultAt (Fault : Feeder → Reported → ReportRow → Type 0) (s t : List ℕ) (n : ℕ) : Type 0 where
  pub feeder : Feeder
  pub report : Reported
  pub feeder-read : reading s ≡ Ok feeder
  pub report-read : report_of feeder t ≡ Ok report
  pub here : ReportRowAt Fault feeder report n
  pub written : line_at n t ≡ report_written_as here.row

-- ---- what the check promises of a number that comes with a line
-- "The check goes 9 to 24, 50 to 52, 30 to 32 .. then 53 to 55", then 56: the report is short enough for 9, and no row has the fault named, nor one of those named before it
abbrev pub Free51 : List ℕ → List ℕ → Type 0
Free51 s t = (length t ≤ 65536) × NoLine (ReportFaultAt (ForTaps Fault51) s t)

abbrev pub Free52 : List ℕ → List ℕ → Type 0
Free52 s t = Free51 s t × NoLine (ReportFaultAt (ForTaps Fault52) s t)

-- 30 to 32 do not apply either
pub record Free32 (s t : List ℕ) : Type 0 where
  pub before : Free52 s t
  pub not-30 : (f : Feeder) (x : Reported) → reading s ≡ Ok f → report_of f t ≡ Ok x → zero_voltage (with_reported f x) (reported_voltages x) ≡ false
  pub not-31 : (f : Feeder) (x : Reported) → reading s ≡ Ok f → report_of f t ≡ Ok x → load_beyond (with_reported f x) (reported_voltages x) ≡ false
  pub not-32 : (f : Feeder) (x : Reported) → reading s ≡ Ok f → report_of f t ≡ Ok x → current_beyond (with_reported f x) (worked_currents (with_reported f x) x) ≡ false

abbrev pub Free53 : List ℕ → List ℕ → Type 0
Free53 s t = Free32 s t × NoLine (ReportFaultAt (ForTaps Fault53) s t)

-- nor does 55
pub record Free55 (s t : List ℕ) : Type 0 where
  pub before : Free53 s t × NoLine (ReportFaultAt (ForTaps Fault54) s t)
  pub not-55 : (f : Feeder) (x : Reported) → reading s ≡ Ok f → report_of f t ≡ Ok x → total_differs (with_reported f x) x (reported_voltages x) (worked_currents (with_reported f x) x) ≡ false

-- `tells y` is that the answer is the refusal y
pub record PointsIntoReport (s t : List ℕ) (tells : Refusal → Type 0) : Type 0 where
  pub at-51 : PointsAt (λ n. tells (NameDiffers n)) (ReportFaultAt (ForTaps Fault51) s t) (length t ≤ 65536)
  pub at-52 : PointsAt (λ n. tells (SourceDiffers n)) (ReportFaultAt (ForTaps Fault52) s t) (Free51 s t)
  pub at-53 : PointsAt (λ n. tells (CurrentDiffers n)) (ReportFaultAt (ForTaps Fault53) s t) (Free32 s t)
  pub at-54 : PointsAt (λ n. tells (VoltageOff n)) (ReportFaultAt (ForTaps Fault54) s t) (Free53 s t)
  pub at-56 : PointsAt (λ n. tells (TapDiffers n)) (ReportFaultAt Fault56 s t) (Free55 s t)

-- 02, S-4: an answer with the number and the line of a fault points at the first row that has it, in the feeder or in the report
pub record CheckPoints (s t : List ℕ) (v : Outcome Done) : Type 0 where
  pub feeder : PointsIntoFeeder s ((length s ≤ 65536) × (length t ≤ 65536)) (λ y. v ≡ Err y)
  pub report : PointsIntoReport s t (λ y. v ≡ Err y)
