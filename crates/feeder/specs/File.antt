-- Files (01): a feeder's rows written as a file; the lines of a text, and the line where a text stops being one that can become a file. None of it is said by
-- what the reading of Layout does. Assumes nothing.
use Rattle.std.specs.Prelude.{cond, true, List, [], ◌++◌, ◌∷◌, ◌≡◌, ◌⊎◌, ◌+◌, ◌-◌, ◌≤◌, suc, zero, ℕ, eqb, drop, length}
use Prim.Native.String.{String}
use Rattle.feeder.specs.Layout.{Rows}
use Rattle.feeder.specs.declared.BranchRow.{BranchRow}
use Rattle.feeder.specs.declared.Kind.{Kind}
use Rattle.feeder.specs.declared.Kind.TheVariants.{D, L, R, Y}
use Rattle.feeder.specs.declared.LoadKind.{LoadKind}
use Rattle.feeder.specs.declared.LoadKind.TheVariants.{Current, Impedance, Power}
use Rattle.feeder.specs.declared.LoadRow.{LoadRow}
use Rattle.feeder.specs.Phased.{Phases}
use Rattle.feeder.specs.declared.Terminals.{Terminals}
use Rattle.feeder.specs.declared.Terminals.TheVariants.{AB, BC, CA, OnA, OnB, OnC}
use Rattle.integers.specs.Lists.{All}
use Rattle.text.specs.Lines.{Row, row_text, Readable}
use Rattle.text.specs.Text.{bytes, joined, pack, word}

-- ---- the words of each column
-- "phases: A, B, C, AB, AC, BC, ABC"
unfoldable pub phases_word : Phases → ℕ
phases_word f = pack 0 (cond f.a (bytes "A") [] ++ (cond f.b (bytes "B") [] ++ cond f.c (bytes "C") []))

-- "L, line", "R, regulator", "Y (grounded wye to grounded wye), D (delta to grounded wye)"
unfoldable pub kind_word : Kind → ℕ
kind_word L = word "L"
kind_word R = word "R"
kind_word Y = word "Y"
kind_word D = word "D"

-- "Load phase A, B or C; kind P, I or Z (constant power, current, impedance)"; 02: "A load row's phase may now also be AB, BC or CA"
unfoldable pub phase_word : Terminals → ℕ
phase_word OnA = word "A"
phase_word OnB = word "B"
phase_word OnC = word "C"
phase_word AB = word "AB"
phase_word BC = word "BC"
phase_word CA = word "CA"

unfoldable pub load_word : LoadKind → ℕ
load_word Power = word "P"
load_word Current = word "I"
load_word Impedance = word "Z"

-- ---- the rows of the tables, each a line of names and numbers: "lines of values in that order, comma-separated"
unfoldable pub row_of_source : Rows → Row
row_of_source r = record { words = r.source ∷ []; values = r.given }

unfoldable pub row_of_branch : BranchRow → Row
row_of_branch b = record { words = b.from ∷ b.to ∷ phases_word b.phases ∷ kind_word b.kind ∷ []; values = b.p }

unfoldable pub row_of_load : LoadRow → Row
row_of_load l = record { words = l.node ∷ phase_word l.phase ∷ load_word l.kind ∷ []; values = l.vn ∷ l.s.re ∷ l.s.im ∷ [] }

abbrev pub branch_text : BranchRow → List ℕ
branch_text b = row_text (row_of_branch b)

abbrev pub load_text : LoadRow → List ℕ
load_text l = row_text (row_of_load l)

-- ---- the file: "A table is a line of names, exactly those shown below"
abbrev pub source_names : String
source_names = "source,va_re,va_im,vb_re,vb_im,vc_re,vc_im,tol,sweeps\n"

abbrev pub branch_names : String
branch_names = "from,to,phases,kind,p1,p2,p3,p4,p5,p6,p7,p8,p9,p10,p11,p12\n"

abbrev pub load_names : String
load_names = "node,phase,kind,vn,p,q\n"

-- "Just one source row"; "One empty line stands between tables, nothing after the last"
unfoldable pub source_text : Rows → List ℕ
source_text r = bytes source_names ++ (row_text (row_of_source r) ++ bytes "\n")

unfoldable pub branches_text : Rows → List ℕ
branches_text r = bytes branch_names ++ (joined branch_text r.branches ++ bytes "\n")

unfoldable pub loads_text : Rows → List ℕ
loads_text r = bytes load_names ++ joined load_text r.loads

unfoldable pub file_of : Rows → List ℕ
file_of r = source_text r ++ (branches_text r ++ loads_text r)

-- ---- rows that can be written: the names are names, the numbers have at most 18 digits, a branch has a phase, a row has its columns
pub record BranchWritable (b : BranchRow) : Type 0 where
  pub row : Readable 4 12 (row_of_branch b)
  pub phased : (b.phases.a ≡ true → ⊥) → (b.phases.b ≡ true → ⊥) → (b.phases.c ≡ true → ⊥) → ⊥

abbrev pub LoadWritable : LoadRow → Type 0
LoadWritable l = Readable 3 3 (row_of_load l)

pub record FileWritable (r : Rows) : Type 0 where
  pub source : Readable 1 8 (row_of_source r)
  pub branches : All BranchWritable r.branches
  pub loads : All LoadWritable r.loads

-- ---- the line of 10
-- "Lines count from 1, empty ones too": the first n lines of a text, each with its LF; the whole text where it has no more
unfoldable pub first_lines : ℕ → List ℕ → List ℕ
first_lines n [] = []
first_lines zero (b ∷ s) = []
first_lines (suc n) (b ∷ s) = b ∷ first_lines (cond (eqb b 10) n (suc n)) s

-- line n, with its LF
unfoldable pub line_at : ℕ → List ℕ → List ℕ
line_at n s = drop (length (first_lines (n - 1) s)) (first_lines n s)

-- how many lines are ended by LF
unfoldable pub line_feeds : List ℕ → ℕ
line_feeds [] = 0
line_feeds (b ∷ s) = cond (eqb b 10) 1 0 + line_feeds s

-- a well laid out file: the text of rows that can be written
pub record WellLaid (s : List ℕ) : Type 0 where
  pub rows : Rows
  pub writable : FileWritable rows
  pub text : s ≡ file_of rows

-- s begins some well laid out file
pub record GoesOn (s : List ℕ) : Type 0 where
  pub rest : List ℕ
  pub whole : WellLaid (s ++ rest)

-- 10's line: the "first line that cannot go on a good file, or the line where it ends early"; "a file ends early in the line after its last LF"
pub record StopsAt (s : List ℕ) (n : ℕ) : Type 0 where
  pub counted : 1 ≤ n
  pub before : GoesOn (first_lines (n - 1) s)
  pub here : (GoesOn (first_lines n s) → ⊥) ⊎ ((suc (line_feeds s) ≡ n) × (WellLaid s → ⊥))
