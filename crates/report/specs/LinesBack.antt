-- Rows that were written one behind the other are read back, and so is a table; and how long they can be. Assumes nothing.
use mathlib.Core.List.{List, [], ◌++◌, ◌∷◌, append_assoc, map}
use Rattle.std.proofs.Common.{◌∙◌, suc-mul, arith}
use Rattle.std.specs.Prelude.{◌≡◌, ℤ, Ok}
use Rattle.std.proofs.Math.Path.{ap}
use Prim.Native.Nat.{◌*◌, ◌+◌, ◌<◌, ◌≤◌, suc, ℕ}
use Prim.Native.String.{String}
use Rattle.std.proofs.Math.ListN.{drop, length, length-append}
use Rattle.answers.specs.declared.Refusal.TheVariants.{ReportLayout}
use Rattle.integers.specs.Lists.{All}
use Rattle.report.specs.Report.{rows_just, table_of, table_text}
use Rattle.text.specs.LineText.{line-more}
use Rattle.text.specs.Lines.{Readable, Row, row_text}
use Rattle.text.specs.NameText.{letters-8}
use Rattle.integers.specs.ListLaws.{all_map}
use Rattle.text.specs.NumberText.{decimal-19}
use Rattle.text.specs.RowText.{past, row_back, text-back}
use Rattle.text.specs.Text.{bytes, decimal, joined, letters, line}

-- ---- rows one behind the other: g x is what was written for x, the line of the row h x
pub record WrittenAs {X : Type 0} (g : X → List ℕ) (h : X → Row) (m n : ℕ) (x : X) : Type 0 where
  pub text : g x ≡ row_text (h x)
  pub readable : Readable m n (h x)

module _ {X : Type 0} (g : X → List ℕ) (h : X → Row) (m n : ℕ) where
  pub rows_back : (l : List X) → All (WrittenAs g h m n) l → (s : List ℕ) (at : ℕ) (t : List ℕ) → drop at s ≡ joined g l ++ t → rows_just (length l) m n s at ≡ Ok (map h l, at + length (joined g l))
  unfolding joined rows_just
  rows_back [] a s at t e = ap (λ (p : ℕ). Ok ([], p)) (omega arith)
  rows_back (x ∷ l) a s at t e =
      let w = a.0 in
      let c : drop at s ≡ row_text (h x) ++ (joined g l ++ t) = e ∙ append_assoc (g x) (joined g l) t ∙ ap (λ (y : List ℕ). y ++ (joined g l ++ t)) w.text in
      let k = rows_back l a.1 s (at + length (row_text (h x))) t (past s at (row_text (h x)) (joined g l ++ t) c) in
      simp (row_back ReportLayout m n (h x) w.readable s at (joined g l ++ t) c, k) (ap (λ (p : ℕ). Ok (h x ∷ map h l, p)) (simp (length-append, w.text) (omega arith)))

  pub table-back : (w : String) (l : List X) → All (WrittenAs g h m n) l → (t : List ℕ) → table_of w (length l) m n (table_text g w l ++ t) ≡ Ok (map h l, length (table_text g w l))
  unfolding table_of
  table-back w l a t =
      let s : List ℕ = table_text g w l ++ t in
      let y : List ℕ = bytes "\n" ++ t in
      let p : ℕ = 0 + length (bytes w) in
      let c : drop 0 s ≡ bytes w ++ (joined g l ++ y) = simp append_assoc in
      let d : drop p s ≡ joined g l ++ y = past s 0 (bytes w) (joined g l ++ y) c in
      let k : drop (p + length (joined g l)) s ≡ y = past s p (joined g l) y d in
      simp (text-back ReportLayout w s 0 (joined g l ++ y) c, rows_back l a s p y d, text-back ReportLayout "\n" s (p + length (joined g l)) t k)
      (ap (λ (q : ℕ). Ok (map h l, q)) (simp length-append (omega arith)))

-- ---- lengths
-- numbers of at most b bytes each
numbers-short : (b : ℕ) (z : ℤ) (zs : List ℤ) → All (λ y. length (decimal y) ≤ b) (z ∷ zs) → length (line (map decimal (z ∷ zs))) ≤ suc (length zs) * suc b
unfolding line
numbers-short b z [] h = simp length-append (omega (arith, h.0))
numbers-short b z (y ∷ ys) h = simp length-append (omega (arith, h.0, numbers-short b y ys h.1, suc-mul (suc (length ys)) (suc b)))

names-short : (ws : List ℕ) (l : List (List ℕ)) → 0 < length l → length (line (map (letters 8) ws ++ l)) ≤ 9 * length ws + length (line l)
names-short [] l q = omega arith
names-short (w ∷ ws) l q =
    let m : List (List ℕ) = map (letters 8) ws ++ l in
    omega (arith, ap length (line-more (letters 8 w) m (simp length-append (omega arith))), length-append (letters 8 w) (44 ∷ line m), letters-8 w, names-short ws l q)

pub row-short-by : {m n : ℕ} (b : ℕ) (x : Row) → Readable m n x → All (λ y. length (decimal y) ≤ b) x.values → length (row_text x) ≤ 9 * m + n * suc b
unfolding row_text
row-short-by {m} {n} b x h k = go x.values k h.values-are
  where
    go : (zs : List ℤ) → All (λ y. length (decimal y) ≤ b) zs → length zs ≡ n → length (line (map (letters 8) x.words ++ map decimal zs)) ≤ 9 * m + n * suc b
    go [] a c = absurd (omega (arith, h.some))
    go (z ∷ zs) a c = rw (← c) (omega (arith, names-short x.words (map decimal (z ∷ zs)) (omega arith), numbers-short b z zs a, h.words_are))

-- any number that can be read has at most 19 bytes
pub row-short : {m n : ℕ} (x : Row) → Readable m n x → length (row_text x) ≤ 9 * m + n * 20
row-short x h = row-short-by 19 x h (all_map x.values (λ z s. decimal-19 z s) h.small)

pub rows_short : {X : Type 0} (g : X → List ℕ) (b : ℕ) (l : List X) → All (λ x. length (g x) ≤ b) l → length (joined g l) ≤ length l * b
unfolding joined
rows_short g b [] a = omega arith
rows_short g b (x ∷ l) a = simp length-append (omega (arith, a.0, rows_short g b l a.1, suc-mul (length l) b))
