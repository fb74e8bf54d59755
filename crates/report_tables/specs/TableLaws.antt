-- A table's rows, read one after the other into arrays, and the lines around them. Assumes nothing.
use Rattle.std.specs.Prelude.{Bool, ◌&&◌, false, true, ◌≡◌, refl, drop, length, replicate, set, Ok, Err}
use Rattle.std.proofs.Math.Bool.{and_assoc, and-true}
use mathlib.Core.List.{List, [], ◌++◌, ◌∷◌, append_assoc, append-nil, map, map-append}
use Rattle.std.proofs.Common.{◌∙◌, ap, sym, not-suc-le-zero, length-append}
use Prim.Native.Nat.{◌+◌, ◌-◌, ◌<◌, ◌≤◌, suc, zero, ℕ}
use Prim.Native.String.{String}
use native.Mathlib.Omega.{arith}
use Rattle.std.proofs.lemmas.List.{length-map}
use Rattle.answers.specs.Answers.{Outcome, ◌>>=◌}
use Rattle.answers.specs.declared.Refusal.TheVariants.{ReportLayout}
use Rattle.integers.specs.Lists.{all}
use Rattle.integers.specs.Pairs.{0c}
use Rattle.integers.specs.declared.Pair.{Pair}
use Rattle.text.specs.LineLaws.{begins-within, text-missing, text-stands}
use Rattle.text.specs.Lines.{Row, row, text}
use Rattle.text.specs.Text.{begins, bytes, Placed}
use Rattle.feeder.specs.Network.{kept}
use Rattle.feeder.specs.NetworkLaws.{blank-kept, kept_next}
use Rattle.feeder.specs.Phased.{Three}
use Rattle.equations.specs.Equations.{zero3}
use Rattle.report.specs.Report.{rows_just, table_of}
use Rattle.report_tables.specs.TablesRead.{Blank, Empty, RowHeld, RowsHeld, TableHeld, TableRead, column_of, name_count, row_at, row_inside, table_read, unused, unused_count, value_count}
use Rattle.report_tables.specs.declared.fields.RowRead.{RowRead}

-- ---- the rows read so far, in front of those that come
abbrev pub behind : List Row → Outcome (Placed (List Row)) → Outcome (Placed (List Row))
behind l o = o >>= λ y. Ok (l ++ y.0, y.1)

pub behind-none : (o : Outcome (Placed (List Row))) → behind [] o ≡ o
behind-none (Ok x) = refl
behind-none (Err r) = refl

behind-cons : (l : List Row) (x : Row) (o : Outcome (Placed (List Row))) → behind l (o >>= λ y. Ok (x ∷ y.0, y.1)) ≡ behind (l ++ (x ∷ [])) o
behind-cons l x (Ok y) = ap (λ (m : List Row). Ok (m, y.1)) (sym (append_assoc l (x ∷ []) y.0))
behind-cons l x (Err r) = refl

module _ (m n : ℕ) (s : List ℕ) (at : ℕ) where
  pub just-none : (l : List Row) → behind l (rows_just 0 m n s at) ≡ Ok (l, at)
  unfolding rows_just
  just-none l = simp append-nil

  pub just-next : (l : List Row) (k : ℕ) (x : Row) (p : ℕ) → 0 < k → row ReportLayout m n s at ≡ Ok (x, p) → behind l (rows_just k m n s at) ≡ behind (l ++ (x ∷ [])) (rows_just (k - 1) m n s p)
  unfolding rows_just
  just-next l zero x p h e = absurd (not-suc-le-zero h)
  just-next l (suc k) x p h e = let d : suc k - 1 ≡ k = omega arith in rw (e, d) (behind-cons l x (rows_just k m n s p))

  pub just-stop : (l : List Row) (k : ℕ) → 0 < k → row ReportLayout m n s at ≡ Err ReportLayout → behind l (rows_just k m n s at) ≡ Err ReportLayout
  unfolding rows_just
  just-stop l zero h e = absurd (not-suc-le-zero h)
  just-stop l (suc k) h e = rw e

-- ---- an array: nothing at first, and one row more
pub column-start : {X : Type 0} (d : X) (branch : Bool) (cells : List X) → cells ≡ replicate 201 d → cells ≡ kept d 201 (unused branch d ++ [])
unfolding kept
column-start d true cells e = e ∙ blank-kept d 201
column-start d false cells e = e ∙ blank-kept d 201

pub unused-length : {X : Type 0} (branch : Bool) (d : X) → length (unused branch d) ≡ unused_count branch
unused-length true d = refl
unused-length false d = refl

pub column-next : {X : Type 0} (d : X) (branch : Bool) (g : Row → X) (l : List Row) (x : Row) (k : ℕ) (cells : List X) (y : X) → k ≡ unused_count branch + length l → k < 201 →
    cells ≡ column_of d branch g l → y ≡ g x → set cells k y ≡ column_of d branch g (l ++ (x ∷ []))
column-next d branch g l x k cells y c h e f =
    let u = unused branch d ++ map g l in
    let z : length u ≡ k = simp (length-append, unused-length branch d, length-map) (sym c) in
    let w : u ++ (g x ∷ []) ≡ unused branch d ++ map g (l ++ (x ∷ [])) = simp (append_assoc, map-append) in
    (λ i. set (e i) (sym z i) (f i)) ∙ kept_next d 201 u (g x) (omega arith) ∙ ap (kept d 201) w

-- an array as made, with what it is made of stored once more
set-made : {X : Type 0} (d : X) (n k : ℕ) → set (replicate n d) k d ≡ replicate n d
set-made d zero k = refl
set-made d (suc n) zero = refl
set-made d (suc n) (suc k) = ap (λ (l : List _). d ∷ l) (set-made d n k)

blank-next : {X : Type 0} (d : X) (k : ℕ) (cells : List X) (y : X) → cells ≡ replicate 201 d → y ≡ d → set cells k y ≡ replicate 201 d
blank-next d k cells y e f = (λ i. set (e i) k (f i)) ∙ set-made d 201 k

all-next : (f : Row → Bool) (l : List Row) (x : Row) → all f (l ++ (x ∷ [])) ≡ (all f l && f x)
unfolding all
all-next f [] x = and-true (f x)
all-next f (y ∷ l) x = ap (λ (b : Bool). f y && b) (all-next f l x) ∙ sym (and_assoc (f y) (all f l) (f x))

all_none : (f : Row → Bool) → all f [] ≡ true
unfolding all
all_none f = refl

-- ---- the loop: the rows from the place `from` on up to place k of the arrays have been read, and the next row is due at the table's place
pub record Going (branch : Bool) (s : List ℕ) (from count last : ℕ) (t : TableRead) (k : ℕ) : Type 0 where
  pub list : List Row
  pub whole : rows_just count (name_count branch) (value_count branch) s from ≡ behind list (rows_just (last - k) (name_count branch) (value_count branch) s t.next)
  pub counted : k ≡ unused_count branch + length list
  pub ends : last ≡ unused_count branch + count
  pub room : last ≤ 201
  pub before : k ≤ last
  pub held : RowsHeld branch list t
  pub within : t.next ≤ length s
  pub blank : branch ≡ false → Blank t.second t.pairs

-- the table with the row x more, at place k, and whether all rows with it are in their limit
abbrev pub added : TableRead → ℕ → RowRead → ℕ → List Three → List Pair → Bool → TableRead
added t k x next threes pairs inside =
    record {
      next = next;
      first = set t.first k x.first;
      second = set t.second k x.second;
      threes = threes;
      pairs = pairs;
      inside = inside;
    }

module _ (branch : Bool) (s : List ℕ) (from count last : ℕ) where
  module _ (first second : List ℕ) (threes : List Three) (pairs : List Pair) where
    pub going_start : (k : ℕ) → Empty first second threes pairs → k ≡ unused_count branch → last ≡ k + count → last ≤ 201 → from ≤ length s →
        Going branch s from count last (table_read (record { next = from; inside = true }) first second threes pairs) k
    going_start k e u d r h =
        let z : last - k ≡ count = omega arith in
        record {
          list = [];
          whole = simp z (sym (behind-none _));
          counted = omega arith;
          ends = omega arith;
          room = r;
          before = omega arith;
          held = record {
            first = column-start 0 branch first e.first_made;
            second = column-start 0 branch second e.blank.0;
            threes = column-start zero3 branch threes e.threes-made;
            pairs = column-start 0c branch pairs e.blank.1;
            inside = sym (all_none (row_inside branch));
          };
          within = h;
          blank = λ n. e.blank;
        }

  module _ (t : TableRead) (k : ℕ) (g : Going branch s from count last t k) where
    pub going_end : last ≤ k → TableHeld branch count s (rows_just count (name_count branch) (value_count branch) s from) t
    going_end h =
        let z : last - k ≡ 0 = omega arith in
        record {
          list = g.list;
          whole = g.whole ∙ simp z (just-none (name_count branch) (value_count branch) s t.next g.list);
          counted = omega arith;
          held = g.held;
          within = g.within;
          blank = g.blank;
        }

    pub going-stop : k < last → row_at branch s t.next ≡ Err ReportLayout → rows_just count (name_count branch) (value_count branch) s from ≡ Err ReportLayout
    going-stop h e = g.whole ∙ just-stop (name_count branch) (value_count branch) s t.next g.list (last - k) (omega arith) e

    pub going_next : (x : RowRead) (next : ℕ) (threes : List Three) (pairs : List Pair) (inside : Bool) → k < last → RowHeld branch s t.next x next →
        threes ≡ set t.threes k x.three → pairs ≡ set t.pairs k x.pair → inside ≡ (t.inside && x.inside) → Going branch s from count last (added t k x next threes pairs inside) (k + 1)
    going_next x next threes pairs inside h w a b e =
        let z : last - k - 1 ≡ last - (k + 1) = omega arith in
        let q : k < 201 = omega arith in
        let l = g.list in
        record {
          list = l ++ (w.read ∷ []);
          whole = g.whole ∙ just-next (name_count branch) (value_count branch) s t.next l (last - k) w.read next (omega arith) w.whole ∙ simp z;
          counted = simp length-append (omega arith);
          ends = g.ends;
          room = g.room;
          before = omega arith;
          held = record {
            first = column-next 0 branch _ l w.read k t.first x.first g.counted q g.held.first w.first;
            second = column-next 0 branch _ l w.read k t.second x.second g.counted q g.held.second w.second;
            threes = a ∙ column-next zero3 branch _ l w.read k t.threes x.three g.counted q g.held.threes w.three;
            pairs = b ∙ column-next 0c branch _ l w.read k t.pairs x.pair g.counted q g.held.pairs w.pair;
            inside = e ∙ (λ i. g.held.inside i && w.inside i) ∙ sym (all-next (row_inside branch) l w.read);
          };
          within = w.within;
          blank = λ n. (blank-next 0 k t.second x.second (g.blank n).0 (w.blank n).0, b ∙ blank-next 0c k t.pairs x.pair (g.blank n).1 (w.blank n).1);
        }

-- ---- the line of names in front of the rows, and the empty line behind them
module _ (name : String) (n a b : ℕ) (s : List ℕ) where
  pub table-no-names : begins (bytes name) s ≡ false → table_of name n a b s ≡ Err ReportLayout
  unfolding table_of
  table-no-names e = rw (text-missing ReportLayout name s 0 e)

  module _ (e : begins (bytes name) s ≡ true) where
    from_zero : text ReportLayout name s 0 ≡ Ok (length (bytes name))
    from_zero = let z : 0 + length (bytes name) ≡ length (bytes name) = omega arith in text-stands ReportLayout name s 0 e ∙ ap (λ (p : ℕ). Ok p) z

    pub table-no-rows : rows_just n a b s (length (bytes name)) ≡ Err ReportLayout → table_of name n a b s ≡ Err ReportLayout
    unfolding table_of
    table-no-rows f = rw (from_zero, f)

    module _ (l : List Row) (p : ℕ) (f : rows_just n a b s (length (bytes name)) ≡ Ok (l, p)) where
      pub table-no-end : begins (bytes "\n") (drop p s) ≡ false → table_of name n a b s ≡ Err ReportLayout
      unfolding table_of
      table-no-end d = rw (from_zero, f, text-missing ReportLayout "\n" s p d)

      pub table-whole : begins (bytes "\n") (drop p s) ≡ true → table_of name n a b s ≡ Ok (l, p + 1)
      unfolding table_of bytes
      table-whole d = rw (from_zero, f, text-stands ReportLayout "\n" s p d)

-- the table behind its empty line
abbrev pub ended : TableRead → TableRead
ended t = record { next = t.next + 1; first = t.first; second = t.second; threes = t.threes; pairs = t.pairs; inside = t.inside }

pub table-held : (branch : Bool) (name : String) (n : ℕ) (s : List ℕ) (t : TableRead) → begins (bytes name) s ≡ true → TableHeld branch n s (rows_just n (name_count branch) (value_count branch) s (length (bytes name))) t →
    begins (bytes "\n") (drop t.next s) ≡ true → TableHeld branch n s (table_of name n (name_count branch) (value_count branch) s) (ended t)
unfolding bytes
table-held branch name n s t e h d =
    record {
      list = h.list;
      whole = table-whole name n (name_count branch) (value_count branch) s e h.list t.next h.whole d;
      counted = h.counted;
      held = record { first = h.held.first; second = h.held.second; threes = h.held.threes; pairs = h.held.pairs; inside = h.held.inside };
      within = begins-within (bytes "\n") s t.next (omega arith) d;
      blank = h.blank;
    }
