-- What the readers answer, by the definitions of the tables: a table, the whole file. Assumes nothing.
use Rattle.std.specs.Prelude.{Bool, List, [], ◌∷◌, ◌≡◌, ◌+◌, ◌≤◌, ℕ, length, Ok, Err, Option, Result}
use Rattle.std.specs.Borrow.{Bor}
use Prim.Native.String.{String}
use Rattle.answers.specs.Answers.{Done, Outcome, ◌>>=◌}
use Rattle.answers.specs.declared.Refusal.{Refusal}
use Rattle.answers.specs.declared.Refusal.TheVariants.{Layout}
use Rattle.text.specs.Text.{Placed}
use Rattle.text.specs.Lines.{Row, got, row, text}
use Rattle.feeder.specs.Layout.{Rows, branch_row, empty_line, file_end, load_row, rows}
use Rattle.feeder.specs.Network.{Tabled, kept, no_load_row}
use Rattle.feeder.specs.declared.BranchRow.{BranchRow}
use Rattle.feeder.specs.declared.LoadRow.{LoadRow}
use Rattle.feeder.specs.declared.Tables.{Tables}
use Rattle.tables.specs.declared.source.SourceRow.{SourceRow}

-- ---- a table
-- o is the table with these rows, which are counted and held
pub record Whole {X Y : Type 0} (holds : List X → Type 0) (made : List X → Y) (o : Outcome Y) (count : ℕ) : Type 0 where
  pub list : List X
  pub whole : o ≡ Ok (made list)
  pub counted : count ≡ length list
  pub held : holds list

-- a row's reader and a test of the end, by what they answer of s, which is lent, at each place, and what is defined of a row and of the end
pub record Reads {X : Type 0} (row : Refusal → List ℕ → ℕ → Outcome (Placed X)) (over : ℕ → Bool) (s : List ℕ) (read : Bor (List ℕ) → ℕ → Option (Placed X) → Type 0) (ends : Bor (List ℕ) → ℕ → Bool → Type 0) : Type 0 where
  pub row-read : (part : Bor (List ℕ)) (at : ℕ) (x : Option (Placed X)) → part.now ≡ s → at ≤ length s → read part at x → (r : Refusal) → row r s at ≡ got r x
  pub end-seen : (part : Bor (List ℕ)) (at : ℕ) (b : Bool) → part.now ≡ s → at ≤ length s → ends part at b → over at ≡ b

-- by cases of the answer, the number of the rows with the place behind them, or the refusal of o: o has these rows, which are counted and held
abbrev pub RowsAs : {X : Type 0} → X → ℕ → Outcome (Placed (List X)) → Result (Placed ℕ) Refusal → List X → Type 0
RowsAs d room o (Ok (count, p)) cells = Whole (λ l. cells ≡ kept d room l) (λ l. (l, p)) o count
RowsAs d room o (Err r) cells = o ≡ Err r

pub record RowsRead {X : Type 0} (d : X) (room : ℕ) (o : Outcome (Placed (List X))) (t : Result (Placed ℕ) Refusal) (cells : List X) : Type 0 where
  pub said : RowsAs d room o t cells

-- the same of the loads, behind which nothing stands
abbrev pub LoadsAs : Outcome (List LoadRow) → Result ℕ Refusal → List LoadRow → Type 0
LoadsAs o (Ok count) loads = Whole (λ l. loads ≡ kept no_load_row 300 l) (λ l. l) o count
LoadsAs o (Err r) loads = o ≡ Err r

pub record LoadsRead (o : Outcome (List LoadRow)) (t : Result ℕ Refusal) (loads : List LoadRow) : Type 0 where
  pub said : LoadsAs o t loads

-- the source table's answer as an outcome
abbrev pub source_read : Result (Placed SourceRow) Refusal → Outcome (Placed Row)
source_read (Ok (x, p)) = Ok (record { words = x.name ∷ []; values = x.given }, p)
source_read (Err r) = Err r

-- the lines of names, and the branch table and the load table from the first row on
abbrev pub source_names : String
source_names = "source,va_re,va_im,vb_re,vb_im,vc_re,vc_im,tol,sweeps\n"

abbrev pub branch_names : String
branch_names = "from,to,phases,kind,p1,p2,p3,p4,p5,p6,p7,p8,p9,p10,p11,p12\n"

abbrev pub load_names : String
load_names = "node,phase,kind,vn,p,q\n"

-- the source table from its row on
unfoldable pub source_from : List ℕ → ℕ → Outcome (Placed Row)
source_from s from = do
  (source, p) ← row (Layout 2) 1 8 s from
  p ← text (Layout 3) "\n" s p
  Ok (source, p)

unfoldable pub branches_from : List ℕ → ℕ → Outcome (Placed (List BranchRow))
branches_from s from = do
  (branches, p) ← rows branch_row (length s) s 5 from (empty_line s)
  p ← text (Layout (length branches + 5)) "\n" s p
  Ok (branches, p)

unfoldable pub loads_from : ℕ → List ℕ → ℕ → Outcome (List LoadRow)
loads_from line s from = do
  (loads, p) ← rows load_row (length s) s (line + 1) from (file_end s)
  Ok loads

-- ---- the whole file: what its reader answers, by cases of what the file is
-- where the file is good, the tables hold its rows; the source's has eight numbers
pub record GoodLayout (r : Rows) (t : Tables) : Type 0 where
  pub tabled : Tabled r t
  pub eight : length r.given ≡ 8

abbrev pub LayoutAs : Outcome Rows → Outcome Done → Tables → Type 0
LayoutAs (Ok r) (Ok u) t = GoodLayout r t
LayoutAs (Ok r) (Err y) t = ⊥
LayoutAs (Err x) u t = u ≡ Err x

pub record LayoutRead (o : Outcome Rows) (u : Outcome Done) (t : Tables) : Type 0 where
  pub said : LayoutAs o u t
