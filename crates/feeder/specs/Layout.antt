-- Files (01): the feeder's tables, read line by line. A fault of layout is refused with the number of the line where the reading ends. Assumes nothing.
use Rattle.std.specs.Prelude.{Bool, cond, false, true, List, [], ◌∷◌, ◌+◌, suc, zero, ℕ, eqb, ℤ, drop, get_or, length, Ok}
use Rattle.answers.specs.Answers.{Outcome, ◌>>=◌}
use Rattle.answers.specs.declared.Refusal.{Refusal}
use Rattle.answers.specs.declared.Refusal.TheVariants.{Layout}
use Rattle.feeder.specs.declared.BranchRow.{BranchRow}
use Rattle.feeder.specs.declared.Kind.{Kind}
use Rattle.feeder.specs.declared.Kind.TheVariants.{D, L, R, Y}
use Rattle.feeder.specs.declared.LoadKind.{LoadKind}
use Rattle.feeder.specs.declared.LoadKind.TheVariants.{Current, Impedance, Power}
use Rattle.feeder.specs.declared.LoadRow.{LoadRow}
use Rattle.feeder.specs.Phased.{Phases}
use Rattle.feeder.specs.declared.Terminals.{Terminals}
use Rattle.feeder.specs.declared.Terminals.TheVariants.{AB, BC, CA, OnA, OnB, OnC}
use Rattle.text.specs.Lines.{Row, listed, nth, row, text, word_of}
use Rattle.text.specs.Text.{word, Placed}

-- ---- the three tables
pub record Rows : Type 0 where
  pub source : ℕ
  pub given : List ℤ
  pub branches : List BranchRow
  pub loads : List LoadRow

-- "A phases or kind word not listed here .. is a fault of layout": the words of each column
abbrev pub phase_set : Bool → Bool → Bool → Phases
phase_set a b c = record { a = a; b = b; c = c }

abbrev pub phases_words : List (ℕ × Phases)
phases_words =
    (word "A", phase_set true false false)
    ∷ (word "B", phase_set false true false)
    ∷ (word "C", phase_set false false true)
    ∷ (word "AB", phase_set true true false)
    ∷ (word "AC", phase_set true false true)
    ∷ (word "BC", phase_set false true true)
    ∷ (word "ABC", phase_set true true true) ∷ []

abbrev pub kind_words : List (ℕ × Kind)
kind_words = (word "L", L) ∷ (word "R", R) ∷ (word "Y", Y) ∷ (word "D", D) ∷ []

-- 02: "A load row's phase may now also be AB, BC or CA"
abbrev pub phase_words : List (ℕ × Terminals)
phase_words = (word "A", OnA) ∷ (word "B", OnB) ∷ (word "C", OnC) ∷ (word "AB", AB) ∷ (word "BC", BC) ∷ (word "CA", CA) ∷ []

abbrev pub load_words : List (ℕ × LoadKind)
load_words = (word "P", Power) ∷ (word "I", Current) ∷ (word "Z", Impedance) ∷ []

-- a line of the branches, four names and p1 to p12, and one of the loads, three names and vn, p, q
unfoldable pub branch_row : Refusal → List ℕ → ℕ → Outcome (Placed BranchRow)
branch_row r s at = do
  (x, next) ← row r 4 12 s at
  phases ← listed r (word_of x 2) phases_words
  kind ← listed r (word_of x 3) kind_words
  Ok (record { from = word_of x 0; to = word_of x 1; phases = phases; kind = kind; p = x.values }, next)

unfoldable pub load_row : Refusal → List ℕ → ℕ → Outcome (Placed LoadRow)
load_row r s at = do
  (x, next) ← row r 3 3 s at
  phase ← listed r (word_of x 1) phase_words
  kind ← listed r (word_of x 2) load_words
  Ok (record { node = word_of x 0; phase = phase; kind = kind; vn = nth x.values 1; s = record { re = nth x.values 2; im = nth x.values 3 } }, next)

-- rows from a line on ("Lines count from 1, empty ones too"), up to an empty line (the next byte is LF) or the end of the file. At most f: the tables below
-- give it as many as they have bytes, and that none is left out is `rows-over` (TableRows)
unfoldable pub rows : {X : Type 0} → (Refusal → List ℕ → ℕ → Outcome (Placed X)) → ℕ → List ℕ → ℕ → ℕ → (ℕ → Bool) → Outcome (Placed (List X))
rows read zero s line at over = Ok ([], at)
rows read (suc f) s line at over = cond (over at) (Ok ([], at)) (do
  (x, p) ← read (Layout line) s at
  (xs, q) ← rows read f s (line + 1) p over
  Ok (x ∷ xs, q))

abbrev pub empty_line : List ℕ → ℕ → Bool
empty_line s at = eqb (get_or s at 0) 10

abbrev pub file_end : List ℕ → ℕ → Bool
file_end s at = eqb at (length s)

-- the three tables, each "read as a part of the file that starts after the empty line before it"; 10 is given with the "first line that
-- cannot go on a good file, or the line where it ends early". "One empty line stands between tables, nothing after the last"; "no or two source rows, is a
-- fault of layout". That this is what `layout` answers is said without it in File, and proved by `line-of-10` and `stops-at-10` (LayoutLine)
unfoldable pub source_table : List ℕ → Outcome (Placed Row)
source_table s = do
  p ← text (Layout 1) "source,va_re,va_im,vb_re,vb_im,vc_re,vc_im,tol,sweeps\n" s 0
  (source, p) ← row (Layout 2) 1 8 s p
  p ← text (Layout 3) "\n" s p
  Ok (source, p)

unfoldable pub branch_table : List ℕ → Outcome (Placed (List BranchRow))
branch_table s = do
  p ← text (Layout 4) "from,to,phases,kind,p1,p2,p3,p4,p5,p6,p7,p8,p9,p10,p11,p12\n" s 0
  (branches, p) ← rows branch_row (length s) s 5 p (empty_line s)
  p ← text (Layout (length branches + 5)) "\n" s p
  Ok (branches, p)

unfoldable pub load_table : ℕ → List ℕ → Outcome (List LoadRow)
load_table line s = do
  p ← text (Layout line) "node,phase,kind,vn,p,q\n" s 0
  (loads, p) ← rows load_row (length s) s (line + 1) p (file_end s)
  Ok loads

unfoldable pub layout : List ℕ → Outcome Rows
layout s = do
  (source, p) ← source_table s
  (branches, q) ← branch_table (drop p s)
  loads ← load_table (length branches + 6) (drop q (drop p s))
  Ok (record { source = word_of source 0; given = source.values; branches = branches; loads = loads })
