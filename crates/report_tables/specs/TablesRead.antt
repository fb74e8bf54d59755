-- What the readers of the report's tables answer, by its definitions: a row, a table, the row of the totals. Assumes nothing.
use Rattle.std.specs.Prelude.{Bool, ◌&&◌, cond, false, true, List, [], ◌++◌, ◌∷◌, map, ◌≡◌, ◌+◌, ◌≤◌, ℕ, pos, ℤ, get_or, length, replicate, take, Ok, Err, Option}
use Rattle.std.specs.Option.{MatchOption}
use Prim.Native.String.{String}
use Rattle.answers.specs.Answers.{Outcome}
use Rattle.answers.specs.declared.Refusal.TheVariants.{ReportLayout}
use Rattle.integers.specs.Lists.{all}
use Rattle.integers.specs.Pairs.{0c, inside, within}
use Rattle.integers.specs.declared.Pair.{Pair}
use Rattle.text.specs.Lines.{Row, row, word_of}
use Rattle.text.specs.Text.{bytes, Placed}
use Rattle.feeder.specs.Feeder.{pair_at, three_at}
use Rattle.feeder.specs.Network.{kept}
use Rattle.feeder.specs.Phased.{Three}
use Rattle.equations.specs.Equations.{zero3}
use Rattle.report.specs.Report.{table_of}
use Rattle.report_tables.specs.declared.fields.RowRead.{RowRead}
use Rattle.report_tables.specs.declared.rows.Table.{Table}

-- a reader's answer: H, that what it read is what o is, or o is refused
abbrev pub Answer : {X T : Type 0} → Outcome X → Option T → (T → Type 0) → Type 0
Answer o r H = MatchOption r (o ≡ Err ReportLayout) H

-- ---- the two tables: `true` stands for the branch table. Its names and numbers in a row, and the places that are unused in front of its rows
abbrev pub name_count : Bool → ℕ
name_count branch = cond branch 2 1

abbrev pub value_count : Bool → ℕ
value_count branch = cond branch 8 6

abbrev pub unused_count : Bool → ℕ
unused_count branch = cond branch 1 0

abbrev pub unused : {X : Type 0} → Bool → X → List X
unused true d = d ∷ []
unused false d = []

-- a row's voltages, or currents, are in their limit
abbrev pub row_inside : Bool → Row → Bool
row_inside true x = all (inside 2000000) (take 6 x.values)
row_inside false x = all (inside 2000000) x.values

abbrev pub within3 : ℕ → Three → Bool
within3 n x = within n x.a && (within n x.b && within n x.c)

abbrev pub pair_from : List ℤ → ℕ → Pair
pair_from l k = record { re = get_or l k (pos 0); im = get_or l (k + 1) (pos 0) }

-- ---- a row
abbrev pub row_at : Bool → List ℕ → ℕ → Outcome (Placed Row)
row_at branch s at = row ReportLayout (name_count branch) (value_count branch) s at

pub record RowHeld (branch : Bool) (s : List ℕ) (at : ℕ) (r : RowRead) (next : ℕ) : Type 0 where
  pub read : Row
  pub whole : row_at branch s at ≡ Ok (read, next)
  pub first : r.first ≡ word_of read 0
  pub second : r.second ≡ word_of read 1
  pub three : r.three ≡ three_at read.values 1
  pub pair : r.pair ≡ pair_at read.values 7
  pub inside : r.inside ≡ row_inside branch read
  pub within : next ≤ length s
  pub blank : branch ≡ false → (r.second ≡ 0) × (r.pair ≡ 0c)

abbrev pub RowIs : Bool → List ℕ → ℕ → Option (Placed RowRead) → Type 0
RowIs branch s at r = Answer (row_at branch s at) r (λ x. RowHeld branch s at x.0 x.1)

-- ---- a table, and the arrays that its rows are stored in
pub record TableRead : Type 0 where
  pub next : ℕ
  pub first : List ℕ
  pub second : List ℕ
  pub threes : List Three
  pub pairs : List Pair
  pub inside : Bool

abbrev pub table_read : Table → List ℕ → List ℕ → List Three → List Pair → TableRead
table_read t first second threes pairs = record { next = t.next; first = first; second = second; threes = threes; pairs = pairs; inside = t.inside }

-- the arrays in which a node row stores nothing are as made
abbrev pub Blank : List ℕ → List Pair → Type 0
Blank second pairs = (second ≡ replicate 201 0) × (pairs ≡ replicate 201 0c)

-- all four are as made
pub record Empty (first second : List ℕ) (threes : List Three) (pairs : List Pair) : Type 0 where
  pub first_made : first ≡ replicate 201 0
  pub threes-made : threes ≡ replicate 201 zero3
  pub blank : Blank second pairs

-- what an array holds of the rows l
abbrev pub column_of : {X : Type 0} → X → Bool → (Row → X) → List Row → List X
column_of d branch g l = kept d 201 (unused branch d ++ map g l)

-- the arrays of t hold the rows l
pub record RowsHeld (branch : Bool) (l : List Row) (t : TableRead) : Type 0 where
  pub first : t.first ≡ column_of 0 branch (λ y. word_of y 0) l
  pub second : t.second ≡ column_of 0 branch (λ y. word_of y 1) l
  pub threes : t.threes ≡ column_of zero3 branch (λ y. three_at y.values 1) l
  pub pairs : t.pairs ≡ column_of 0c branch (λ y. pair_at y.values 7) l
  pub inside : t.inside ≡ all (row_inside branch) l

-- o is the table of n rows that t holds
pub record TableHeld (branch : Bool) (n : ℕ) (s : List ℕ) (o : Outcome (Placed (List Row))) (t : TableRead) : Type 0 where
  pub list : List Row
  pub whole : o ≡ Ok (list, t.next)
  pub counted : length list ≡ n
  pub held : RowsHeld branch list t
  pub within : t.next ≤ length s
  pub blank : branch ≡ false → Blank t.second t.pairs

abbrev pub TableIs : Bool → ℕ → List ℕ → Outcome (Placed (List Row)) → Option Table → List ℕ → List ℕ → List Three → List Pair → Type 0
TableIs branch n s o r first second threes pairs = Answer o r (λ t. TableHeld branch n s o (table_read t first second threes pairs))

-- a table with the line of names that these bytes are
abbrev pub NamedTable : Bool → ℕ → List ℕ → List ℕ → Option Table → List ℕ → List ℕ → List Three → List Pair → Type 0
NamedTable branch count header s r first second threes pairs =
    (name : String) (n : ℕ) → bytes name ≡ header → n ≡ count → TableIs branch n s (table_of name n (name_count branch) (value_count branch) s) r first second threes pairs

-- ---- the row of the totals
pub record TotalsHeld (s : List ℕ) (o : Outcome (Placed Row)) (values : List ℤ) (next : ℕ) : Type 0 where
  pub whole : o ≡ Ok (record { words = []; values = values }, next)
  pub seven : length values ≡ 7
  pub within : next ≤ length s

abbrev pub TotalsAre : List ℕ → Outcome (Placed Row) → Option (Placed (List ℤ)) → Type 0
TotalsAre s o r = Answer o r (λ x. TotalsHeld s o x.0 x.1)
