-- 9 to 24: the line that is refused is bounded by the file's length, since a table has no more rows than its part of the file has bytes. Assumes nothing.
use Rattle.std.specs.Prelude.{Bool, ◌≡◌, refl, drop, Ok}
use Rattle.std.proofs.Math.Bool.{cond, false, true}
use mathlib.Core.List.{List, [], ◌∷◌}
use Rattle.std.proofs.Common.{ap, subst, arith, length-drop, ltb-false}
use Prim.Native.Nat.{◌+◌, ◌≤◌, suc, zero, ℕ}
use Rattle.std.proofs.Math.ListN.{length}
use Rattle.answers.specs.AnswerLaws.{bound, same_good}
use Rattle.answers.specs.Answers.{Outcome, ◌>>=◌, ◌>>◌, refuse_if, value_of}
use Rattle.answers.specs.Only.{cond-only, good-only, refused-only, then-only}
use Rattle.answers.specs.declared.Refusal.{Refusal}
use Rattle.answers.specs.declared.Refusal.TheVariants.{Layout, TooLong}
use Rattle.feeder.specs.Feeder.{not_reached, not_zero, out_of_limit, phase_absent, reading, second_to, source_in, too_long, unknown_from}
use Rattle.feeder.specs.Layout.{Rows, branch_row, branch_table, empty_line, file_end, kind_words, layout, load_row, load_table, load_words, phase_words, phases_words, rows, source_table}
use Rattle.feeder.specs.Stages.{from11, reading-is, tests-only}
use Rattle.feeder.specs.declared.BranchRow.{BranchRow}
use Rattle.feeder.specs.declared.LoadRow.{LoadRow}
use Rattle.flarecomb.specs.Values.{LineUpTo, UpTo, first-up-to, or-up-to, unless-up-to}
use Rattle.text.specs.Text.{Placed}
use Rattle.text.specs.Lines.{Row, listed, row, text, word_of}
use Rattle.text.specs.RowRefused.{listed-only, row-only, text-only}

-- ---- a line of a table
module _ {n : ℕ} (r : Refusal) (q : value_of r ≤ n) where
  branch-row-up-to : (s : List ℕ) (at : ℕ) → UpTo n (branch_row r s at)
  unfolding branch_row
  branch-row-up-to s at = then-only (row r 4 12 s at) _ (row-only r q 4 12 s at)
      (λ x e. then-only (listed r (word_of x.0 2) phases_words) _ (listed-only r q _ phases_words)
      (λ f g. then-only (listed r (word_of x.0 3) kind_words) _ (listed-only r q _ kind_words) (λ k h. good-only _)))

  load-row-up-to : (s : List ℕ) (at : ℕ) → UpTo n (load_row r s at)
  unfolding load_row
  load-row-up-to s at = then-only (row r 3 3 s at) _ (row-only r q 3 3 s at)
      (λ x e. then-only (listed r (word_of x.0 1) phase_words) _ (listed-only r q _ phase_words)
      (λ f g. then-only (listed r (word_of x.0 2) load_words) _ (listed-only r q _ load_words) (λ k h. good-only _)))

-- ---- rows: at most f are read, so that the line of the last is less than f behind the first
module _ {X : Type 0} (read : Refusal → List ℕ → ℕ → Outcome (Placed X)) where
  rows-up-to : {n : ℕ} → ((r : Refusal) → value_of r ≤ n → (s : List ℕ) (at : ℕ) → UpTo n (read r s at)) → (f : ℕ) (s : List ℕ) (line at : ℕ) (over : ℕ → Bool) → line + f ≤ suc n → UpTo n (rows read f s line at over)
  unfolding rows
  rows-up-to h zero s line at over q = good-only ([], at)
  rows-up-to h (suc f) s line at over q = cond-only (over at) (Ok ([], at)) _ (good-only _)
      (then-only (read (Layout line) s at) _ (h (Layout line) (omega arith) s at)
      (λ x e. then-only (rows read f s (line + 1) x.1 over) _ (rows-up-to h f s (line + 1) x.1 over (omega arith)) (λ y g. good-only _)))

  abbrev put : X → Placed (List X) → Outcome (Placed (List X))
  put x y = Ok (x ∷ y.0, y.1)

  length-is : (x : Placed (List X)) (l : List X) (p : ℕ) → ◌≡◌ {A = Outcome (Placed (List X))} (Ok x) (Ok (l, p)) → length x.0 ≡ length l
  length-is x l p e = ap (λ (y : Placed (List X)). length y.0) (same_good x (l, p) e)

  rows_few : (f : ℕ) (s : List ℕ) (line at : ℕ) (over : ℕ → Bool) (l : List X) (p : ℕ) → rows read f s line at over ≡ Ok (l, p) → length l ≤ f
  unfolding rows
  rows_few zero s line at over l p e = omega (arith, length-is ([], at) l p e)
  rows_few (suc f) s line at over l p e = by (over at) e (rows_few f s (line + 1))
    where
      by : (c : Bool) → cond {A = Outcome (Placed (List X))} c (Ok ([], at)) (read (Layout line) s at >>= λ y. rows read f s (line + 1) y.1 over >>= put y.0) ≡ Ok (l, p)
          → ((q : ℕ) (o : ℕ → Bool) (m : List X) (k : ℕ) → rows read f s (line + 1) q o ≡ Ok (m, k) → length m ≤ f) → length l ≤ suc f
      by true g ih = omega (arith, length-is ([], at) l p g)
      by false g ih =
          let a = bound (read (Layout line) s at) (λ y. rows read f s (line + 1) y.1 over >>= put y.0) (l, p) g in
          let b = bound (rows read f s (line + 1) a.value.1 over) (put a.value.0) (l, p) a.rest in
          omega (arith, length-is (a.value.0 ∷ b.value.0, b.value.1) l p b.rest, ih a.value.1 over b.value.0 b.value.1 b.came)

-- ---- the tables
source-table-up-to : {n : ℕ} (s : List ℕ) → 3 ≤ n → UpTo n (source_table s)
unfolding source_table
source-table-up-to s q = then-only (text (Layout 1) "source,va_re,va_im,vb_re,vb_im,vc_re,vc_im,tol,sweeps\n" s 0) _ (text-only (Layout 1) (omega arith) _ s 0)
    (λ a e. then-only (row (Layout 2) 1 8 s a) _ (row-only (Layout 2) (omega arith) 1 8 s a)
    (λ x f. then-only (text (Layout 3) "\n" s x.1) _ (text-only (Layout 3) q _ s x.1) (λ p g. good-only _)))

branch-table-up-to : {n : ℕ} (s : List ℕ) → length s + 5 ≤ n → UpTo n (branch_table s)
unfolding branch_table
branch-table-up-to s q = then-only (text (Layout 4) "from,to,phases,kind,p1,p2,p3,p4,p5,p6,p7,p8,p9,p10,p11,p12\n" s 0) _ (text-only (Layout 4) (omega arith) _ s 0)
    (λ a e. then-only (rows branch_row (length s) s 5 a (empty_line s)) _ (rows-up-to branch_row branch-row-up-to (length s) s 5 a (empty_line s) (omega arith))
    (λ x f. then-only (text (Layout (length x.0 + 5)) "\n" s x.1) _
    (text-only (Layout (length x.0 + 5)) (let k = rows_few branch_row (length s) s 5 a (empty_line s) x.0 x.1 f in omega arith) _ s x.1) (λ p g. good-only _)))

branch-table-few : (s : List ℕ) (l : List BranchRow) (p : ℕ) → branch_table s ≡ Ok (l, p) → length l ≤ length s
unfolding branch_table
branch-table-few s l p e =
    let last : List BranchRow → ℕ → Outcome (Placed (List BranchRow)) = λ m q. text (Layout (length m + 5)) "\n" s q >>= λ n. Ok (m, n) in
    let a = bound (text (Layout 4) "from,to,phases,kind,p1,p2,p3,p4,p5,p6,p7,p8,p9,p10,p11,p12\n" s 0) (λ q. rows branch_row (length s) s 5 q (empty_line s) >>= λ y. last y.0 y.1) (l, p) e in
    let b = bound (rows branch_row (length s) s 5 a.value (empty_line s)) (λ y. last y.0 y.1) (l, p) a.rest in
    let c = bound (text (Layout (length b.value.0 + 5)) "\n" s b.value.1) (λ n. Ok (b.value.0, n)) (l, p) b.rest in
    omega (arith, length-is branch_row (b.value.0, c.value) l p c.rest, rows_few branch_row (length s) s 5 a.value (empty_line s) b.value.0 b.value.1 b.came)

load-table-up-to : {n : ℕ} (line : ℕ) (s : List ℕ) → line + length s ≤ n → UpTo n (load_table line s)
unfolding load_table
load-table-up-to line s q = then-only (text (Layout line) "node,phase,kind,vn,p,q\n" s 0) _ (text-only (Layout line) (omega arith) _ s 0)
    (λ a e. then-only (rows load_row (length s) s (line + 1) a (file_end s)) _ (rows-up-to load_row load-row-up-to (length s) s (line + 1) a (file_end s) (omega arith)) (λ x f. good-only _))

load-table-few : (line : ℕ) (s : List ℕ) (l : List LoadRow) → load_table line s ≡ Ok l → length l ≤ length s
unfolding load_table
load-table-few line s l e =
    let a = bound (text (Layout line) "node,phase,kind,vn,p,q\n" s 0) (λ q. rows load_row (length s) s (line + 1) q (file_end s) >>= λ y. Ok y.0) l e in
    let b = bound (rows load_row (length s) s (line + 1) a.value (file_end s)) (λ y. Ok y.0) l a.rest in
    let z : length b.value.0 ≡ length l = ap length (same_good _ l b.rest) in
    omega (arith, rows_few load_row (length s) s (line + 1) a.value (file_end s) b.value.0 b.value.1 b.came)

-- ---- the file
layout-up-to : {n : ℕ} (s : List ℕ) → length s + length s + 6 ≤ n → UpTo n (layout s)
unfolding layout
layout-up-to s q = then-only (source_table s) _ (source-table-up-to s (omega arith))
    (λ x e. let t = length-drop x.1 s in then-only (branch_table (drop x.1 s)) _ (branch-table-up-to (drop x.1 s) (omega arith))
    (λ y f. let u = length-drop y.1 (drop x.1 s) in let k = branch-table-few (drop x.1 s) y.0 y.1 f in
    then-only (load_table (length y.0 + 6) (drop y.1 (drop x.1 s))) _ (load-table-up-to (length y.0 + 6) (drop y.1 (drop x.1 s)) (omega arith)) (λ z g. good-only _)))

-- no table has more rows than the file has bytes
record Few (s : List ℕ) (r : Rows) : Type 0 where
  branches : length r.branches ≤ length s
  loads : length r.loads ≤ length s

-- what the whole is made of, with the tables read
abbrev whole_of : Row → List BranchRow → List LoadRow → Outcome Rows
whole_of x l m = Ok (record { source = word_of x 0; given = x.values; branches = l; loads = m })

whole-few : (s : List ℕ) (x : Row) (l : List BranchRow) (m : List LoadRow) (r : Rows) → whole_of x l m ≡ Ok r → length l ≤ length s → length m ≤ length s → Few s r
whole-few s x l m r e p q = subst (Few s) (same_good (record { source = word_of x 0; given = x.values; branches = l; loads = m }) r e) (record { branches = p; loads = q })

layout-few : (s : List ℕ) (r : Rows) → layout s ≡ Ok r → Few s r
unfolding layout
layout-few s r e =
    let loads : Row → List BranchRow → List ℕ → Outcome Rows = λ x l t. load_table (length l + 6) t >>= whole_of x l in
    let a = bound (source_table s) (λ y. branch_table (drop y.1 s) >>= λ z. loads y.0 z.0 (drop z.1 (drop y.1 s))) r e in
    let x : Row = a.value.0 in
    let t : List ℕ = drop a.value.1 s in
    let b = bound (branch_table t) (λ z. loads x z.0 (drop z.1 t)) r a.rest in
    let l : List BranchRow = b.value.0 in
    let c = bound (load_table (length l + 6) (drop b.value.1 t)) (whole_of x l) r b.rest in
    whole-few s x l c.value r c.rest
    (omega (arith, length-drop a.value.1 s, branch-table-few t l b.value.1 b.came))
    (omega (arith, length-drop a.value.1 s, length-drop b.value.1 t, load-table-few (length l + 6) (drop b.value.1 t) c.value c.came))

-- ---- 11 and 20 to 24: the line of a row
module _ {n : ℕ} (r : Rows) (q : length r.branches + length r.loads + 6 ≤ n) where
  limit-line : LineUpTo n (out_of_limit r)
  unfolding out_of_limit
  limit-line = or-up-to _ _ (unless-up-to (source_in r.given) 2 (omega arith)) (or-up-to _ _ (first-up-to _ 4 1 r.branches (omega arith)) (first-up-to _ (length r.branches + 6) 1 r.loads (omega arith)))

  unknown-line : LineUpTo n (unknown_from r)
  unfolding unknown_from
  unknown-line = first-up-to _ 4 1 r.branches (omega arith)

  second-line : LineUpTo n (second_to r)
  unfolding second_to
  second-line = first-up-to _ 4 1 r.branches (omega arith)

  reached-line : LineUpTo n (not_reached r)
  unfolding not_reached
  reached-line = first-up-to _ 4 1 r.branches (omega arith)

  absent-line : LineUpTo n (phase_absent r)
  unfolding phase_absent
  absent-line = or-up-to _ _ (first-up-to _ 4 1 r.branches (omega arith)) (first-up-to _ (length r.branches + 6) 1 r.loads (omega arith))

  zero-line : LineUpTo n (not_zero r)
  unfolding not_zero
  zero-line = first-up-to _ 4 1 r.branches (omega arith)

tests-up-to : {n : ℕ} (r : Rows) → length r.branches + length r.loads + 6 ≤ n → UpTo n (from11 r)
tests-up-to r q = tests-only r (limit-line r q).line (unknown-line r q).line (second-line r q).line (reached-line r q).line (absent-line r q).line (zero-line r q).line

-- 9 has no value, and what is not refused by it has at most 65,536 bytes: twice that and 6 is the bound
pub reading-up-to : (s : List ℕ) → UpTo 131078 (reading s)
reading-up-to s = rw (reading-is s) (by (too_long s) refl)
  where
    by : (c : Bool) → too_long s ≡ c → UpTo 131078 (refuse_if c TooLong >> (layout s >>= from11))
    by true e = refused-only TooLong (omega arith)
    by false e =
        let short : length s ≤ 65536 = ltb-false 65536 (length s) e in
        then-only (layout s) from11 (layout-up-to s (omega arith)) (λ r g. let k = layout-few s r g in tests-up-to r (omega arith))
