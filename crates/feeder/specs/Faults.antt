-- Which rows of a feeder's file have a fault of 11 or 20 to 24 (01, 'Refusals'), and that an answer points at the first of them (02, S-4). A fault is said of
-- the row's own words and numbers and of what else stands in the file: nothing here searches, and nothing goes by an order of work. Assumes nothing.
use Rattle.std.specs.Prelude.{false, true, List, ◌++◌, ◌∷◌, ◌⊎◌, ◌≡◌, ◌+◌, ◌<◌, suc, ℕ, length}
use Rattle.answers.specs.declared.Refusal.{Refusal}
use Rattle.answers.specs.declared.Refusal.TheVariants.{NotReached, NotZero, OutOfLimit, PhaseAbsent, SecondTo, UnknownFrom}
use Rattle.feeder.specs.Feeder.{branch_in, has, load_in, source_in, stands_on, three_phase, zeros}
use Rattle.feeder.specs.File.{WellLaid, branch_text, line_at, load_text, row_of_source}
use Rattle.feeder.specs.Layout.{Rows}
use Rattle.feeder.specs.declared.BranchRow.{BranchRow}
use Rattle.feeder.specs.declared.LoadRow.{LoadRow}
use Rattle.feeder.specs.declared.Phase.{Phase}
use Rattle.feeder.specs.Phased.{Phases}
use Rattle.text.specs.Lines.{row_text}

-- ---- the rows of a file by their lines
-- x stands at place k of a list, counted from 1
pub record Stands {X : Type 0} (l : List X) (k : ℕ) (x : X) : Type 0 where
  pub before : List X
  pub behind : List X
  pub whole : l ≡ before ++ (x ∷ behind)
  pub place : k ≡ suc (length before)

-- a row of a feeder's file: the source row, or a branch or load row with its place in its table
pub data FileRow : Type 0 where
  of_source : FileRow
  of_branches : ℕ → BranchRow → FileRow
  of_loads : ℕ → LoadRow → FileRow

-- the line that a row stands in: "Lines count from 1, empty ones too". Line 1 has the source table's names, 3 is empty, 4 has the branch table's names; behind the
-- branch rows come an empty line and the load table's names
abbrev pub InLine : Rows → FileRow → ℕ → Type 0
InLine r of_source n = n ≡ 2
InLine r (of_branches k b) n = Stands r.branches k b × (n ≡ 4 + k)
InLine r (of_loads k l) n = Stands r.loads k l × (n ≡ length r.branches + 6 + k)

-- what a row is written as
abbrev pub written_as : Rows → FileRow → List ℕ
written_as r of_source = row_text (row_of_source r)
written_as r (of_branches k b) = branch_text b
written_as r (of_loads k l) = load_text l

-- ---- nodes by their names
-- some branch row has a name as its "to", and P holds of it and its place
pub record SomeTo (r : Rows) (name : ℕ) (P : ℕ → BranchRow → Type 0) : Type 0 where
  pub place : ℕ
  pub row : BranchRow
  pub stands : Stands r.branches place row
  pub to_is : row.to ≡ name
  pub holds : P place row

-- a name that is "the source" or "any "to""
abbrev pub IsNode : Rows → ℕ → Type 0
IsNode r name = (name ≡ r.source) ⊎ SomeTo r name (λ k b. Unit {0})

-- a node that is "reached from the source": the source itself, and the to-node of a row whose from-node is
pub data FromSource (r : Rows) : ℕ → Type 0 where
  is-source : {name : ℕ} → name ≡ r.source → FromSource r name
  along : {name : ℕ} → (k : ℕ) (b : BranchRow) → Stands r.branches k b → b.to ≡ name → FromSource r b.from → FromSource r name

-- "A node has its feeding branch's phases; the source has all"
abbrev pub PhaseAt : Rows → ℕ → Phase → Type 0
PhaseAt r name p = (name ≡ r.source) ⊎ SomeTo r name (λ k b. has b.phases p ≡ true)

-- one of the phases that are wanted is not at a node
pub record LacksPhase (r : Rows) (name : ℕ) (wanted : Phases) : Type 0 where
  pub phase : Phase
  pub is-wanted : has wanted phase ≡ true
  pub absent : PhaseAt r name phase → ⊥

-- ---- the row has this fault, in a file of rows r
-- 11: "value outside its limit, or a branch or load row past the 200 or 300"
abbrev pub Fault11 : Rows → FileRow → Type 0
Fault11 r of_source = source_in r.given ≡ false
Fault11 r (of_branches k b) = (200 < k) ⊎ (branch_in b.kind b.p ≡ false)
Fault11 r (of_loads k l) = (300 < k) ⊎ (load_in l ≡ false)

-- 20: "from-name is neither the source nor any "to""
abbrev pub Fault20 : Rows → FileRow → Type 0
Fault20 r of_source = ⊥
Fault20 r (of_branches k b) = IsNode r b.from → ⊥
Fault20 r (of_loads k l) = ⊥

-- 21: ""to" is the source or an earlier row's "to""
abbrev pub Fault21 : Rows → FileRow → Type 0
Fault21 r of_source = ⊥
Fault21 r (of_branches k b) = (b.to ≡ r.source) ⊎ SomeTo r b.to (λ j c. j < k)
Fault21 r (of_loads k l) = ⊥

-- 22: "branch row's to-node not reached from the source"
abbrev pub Fault22 : Rows → FileRow → Type 0
Fault22 r of_source = ⊥
Fault22 r (of_branches k b) = FromSource r b.to → ⊥
Fault22 r (of_loads k l) = ⊥

-- 23: "branch phases not all at its from-node, Y or D not ABC, load's node unknown or its phase absent"; 02: "Both phases must be present under 23"
abbrev pub Fault23 : Rows → FileRow → Type 0
Fault23 r of_source = ⊥
Fault23 r (of_branches k b) = LacksPhase r b.from b.phases ⊎ (three_phase b.kind b.phases ≡ false)
Fault23 r (of_loads k l) = (IsNode r l.node → ⊥) ⊎ LacksPhase r l.node (stands_on l.phase)

-- 24: "nonzero where 0 is due"
abbrev pub Fault24 : Rows → FileRow → Type 0
Fault24 r of_source = ⊥
Fault24 r (of_branches k b) = zeros b.kind b.phases b.p ≡ false
Fault24 r (of_loads k l) = ⊥

-- the row in line n has a fault: in a file of rows r, and in a text that is such a file, where line n is what the row is written as
pub record RowAt (Fault : Rows → FileRow → Type 0) (r : Rows) (n : ℕ) : Type 0 where
  pub row : FileRow
  pub in-line : InLine r row n
  pub faulty : Fault r row

pub record FaultAt (Fault : Rows → FileRow → Type 0) (s : List ℕ) (n : ℕ) : Type 0 where
  pub file : WellLaid s
  pub here : RowAt Fault file.rows n
  pub written : line_at n s ≡ written_as file.rows here.row

-- ---- what is promised of a number that comes with a line
-- "the line returned shall be the first with that fault": line n has it, and no line before it
pub record First (Fault : ℕ → Type 0) (n : ℕ) : Type 0 where
  pub faulty : Fault n
  pub none_before : (m : ℕ) → m < n → Fault m → ⊥

abbrev pub NoLine : (ℕ → Type 0) → Type 0
NoLine Fault = (n : ℕ) → Fault n → ⊥

-- `tells n` is that the answer is this number with line n, `free` that nothing applies that is tried before it
pub record PointsAt (tells : ℕ → Type 0) (Fault : ℕ → Type 0) (free : Type 0) : Type 0 where
  pub first : (n : ℕ) → tells n → First Fault n
  pub only-where-free : (n : ℕ) → tells n → free
  pub told : free → (n : ℕ) → Fault n → (m : ℕ) × tells m

-- "The lowest number that applies anywhere comes first": `fits` is that 9 does not apply, and no row of s has the fault named, nor one of those named before it. Of
-- 10 nothing is asked: where a row has a fault, the text is a well laid out file
abbrev pub Free11 : List ℕ → Type 0 → Type 0
Free11 s fits = fits × NoLine (FaultAt Fault11 s)

abbrev pub Free20 : List ℕ → Type 0 → Type 0
Free20 s fits = Free11 s fits × NoLine (FaultAt Fault20 s)

abbrev pub Free21 : List ℕ → Type 0 → Type 0
Free21 s fits = Free20 s fits × NoLine (FaultAt Fault21 s)

abbrev pub Free22 : List ℕ → Type 0 → Type 0
Free22 s fits = Free21 s fits × NoLine (FaultAt Fault22 s)

abbrev pub Free23 : List ℕ → Type 0 → Type 0
Free23 s fits = Free22 s fits × NoLine (FaultAt Fault23 s)

-- `tells y` is that the answer is the refusal y
pub record PointsIntoFeeder (s : List ℕ) (fits : Type 0) (tells : Refusal → Type 0) : Type 0 where
  pub at-11 : PointsAt (λ n. tells (OutOfLimit n)) (FaultAt Fault11 s) fits
  pub at-20 : PointsAt (λ n. tells (UnknownFrom n)) (FaultAt Fault20 s) (Free11 s fits)
  pub at-21 : PointsAt (λ n. tells (SecondTo n)) (FaultAt Fault21 s) (Free20 s fits)
  pub at-22 : PointsAt (λ n. tells (NotReached n)) (FaultAt Fault22 s) (Free21 s fits)
  pub at-23 : PointsAt (λ n. tells (PhaseAbsent n)) (FaultAt Fault23 s) (Free22 s fits)
  pub at-24 : PointsAt (λ n. tells (NotZero n)) (FaultAt Fault24 s) (Free23 s fits)
