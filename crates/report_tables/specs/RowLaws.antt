-- A row from its names and from what the reader of its numbers leaves, and what the tests on its numbers say. Assumes nothing.
use Rattle.std.specs.Prelude.{Bool, false, true, List, [], ◌∷◌, ◌≡◌, refl, ◌<◌, ◌≤◌, suc, zero, ℕ, leb, nat_abs, pos, ℤ, get_or, length, take, Ok, Err, Option, Some, None}
use Rattle.std.proofs.Math.Bool.{and_assoc, and-true}
use Rattle.std.proofs.Common.{◌∙◌, ap, sym, arith, get_or-take, take_all, leb-true}
use Rattle.std.proofs.Math.ListN.{get_or-eq_default}
use Rattle.answers.specs.Answers.{Outcome}
use Rattle.answers.specs.declared.Refusal.{Refusal}
use Rattle.answers.specs.declared.Refusal.TheVariants.{ReportLayout}
use Rattle.integers.specs.Bools.{both, clash}
use Rattle.integers.specs.Lists.{all}
use Rattle.integers.specs.PairLaws.{pair_eq}
use Rattle.integers.specs.Pairs.{0c, inside, within}
use Rattle.text.specs.LineLaws.{names-cons, names-late, names-none, names-stop}
use Rattle.text.specs.Promises.{filled}
use Rattle.text.specs.Lines.{Row, names, numbers, row}
use Rattle.text.specs.Text.{name_at, Placed}
use Rattle.feeder.specs.Feeder.{pair_at, three_at}
use Rattle.equations.specs.Sizes.{Within3}
use Rattle.report_tables.specs.TablesRead.{RowHeld, name_count, row_inside, value_count, within3}
use Rattle.report_tables.specs.declared.fields.RowRead.{RowRead}

-- ---- the test on three pairs is that on the first six numbers
six-inside : (l : List ℤ) → within3 2000000 (three_at l 1) ≡ all (inside 2000000) (take 6 l)
unfolding all inside within
six-inside [] = refl
six-inside (u ∷ []) = simp and-true
six-inside (u ∷ (v ∷ [])) = simp (and-true, and_assoc)
six-inside (u ∷ (v ∷ (w ∷ []))) = simp (and-true, and_assoc)
six-inside (u ∷ (v ∷ (w ∷ (x ∷ [])))) = simp (and-true, and_assoc)
six-inside (u ∷ (v ∷ (w ∷ (x ∷ (y ∷ []))))) = simp (and-true, and_assoc)
six-inside (u ∷ (v ∷ (w ∷ (x ∷ (y ∷ (z ∷ l)))))) = simp (and-true, and_assoc)

all-inside : (l : List ℤ) → length l ≡ 6 → within3 2000000 (three_at l 1) ≡ all (inside 2000000) l
all-inside l h = six-inside l ∙ ap (all (inside 2000000)) (take_all 6 l (omega arith))

-- ---- and what it says of each pair
at-inside : (n : ℕ) (l : List ℤ) → all (inside n) l ≡ true → (k : ℕ) → nat_abs (get_or l k (pos 0)) ≤ n
unfolding all inside
at-inside n [] e k = omega arith
at-inside n (z ∷ l) e zero = leb-true _ _ (both (leb (nat_abs z) n) _ e).0
at-inside n (z ∷ l) e (suc k) = at-inside n l (both (leb (nat_abs z) n) _ e).1 k

three-within : (l : List ℤ) → ((k : ℕ) → k < 6 → nat_abs (get_or l k (pos 0)) ≤ 2000000) → Within3 2000000 (three_at l 1)
three-within l h =
    record {
      a = record { re = h 0 (omega arith); im = h 1 (omega arith) };
      b = record { re = h 2 (omega arith); im = h 3 (omega arith) };
      c = record { re = h 4 (omega arith); im = h 5 (omega arith) };
    }

pub row_within : (branch : Bool) (x : Row) → row_inside branch x ≡ true → Within3 2000000 (three_at x.values 1)
row_within true x e = three-within x.values (λ k h. rw (get_or-take 6 x.values k (pos 0) h) at (at-inside 2000000 (take 6 x.values) e k))
row_within false x e = three-within x.values (λ k h. at-inside 2000000 x.values e k)

-- ---- a row's names
pub node-names : (s : List ℕ) (at v p : ℕ) → name_at 44 s at ≡ Some (v, p) → names ReportLayout 1 s at ≡ Ok (v ∷ [], p)
node-names s at v p e = names-cons ReportLayout 0 s at v p [] p e (names-none ReportLayout s p)

pub branch-names : (s : List ℕ) (at v p w q : ℕ) → name_at 44 s at ≡ Some (v, p) → name_at 44 s p ≡ Some (w, q) → names ReportLayout 2 s at ≡ Ok (v ∷ w ∷ [], q)
branch-names s at v p w q e f = names-cons ReportLayout 1 s at v p (w ∷ []) q e (node-names s p w q f)

pub second-missing : (s : List ℕ) (at v p : ℕ) → name_at 44 s at ≡ Some (v, p) → name_at 44 s p ≡ None → names ReportLayout 2 s at ≡ Err ReportLayout
second-missing s at v p e f = names-late ReportLayout 1 s at v p e (names-stop ReportLayout 0 s p f)

-- the row's answer from the names and from what the reader of its numbers left
abbrev pub row_of : Refusal → List ℕ → Option ℕ → List ℤ → Outcome (Placed Row)
row_of r ws (Some next) values = Ok (record { words = ws; values = values }, next)
row_of r ws None values = Err r

row-filled : (r : Refusal) (m n : ℕ) (s : List ℕ) (at : ℕ) (ws : List ℕ) (p : ℕ) (x : Option ℕ) (values : List ℤ) →
    names r m s at ≡ Ok (ws, p) → numbers r n s p ≡ filled r x values → row r m n s at ≡ row_of r ws x values
unfolding row
row-filled r m n s at ws p (Some next) values e f = simp (e, f)
row-filled r m n s at ws p None values e f = simp (e, f)

-- ---- a row
pub row_as : (m n : ℕ) (s : List ℕ) (at : ℕ) (ws : List ℕ) (p : ℕ) (x y : Option ℕ) (values : List ℤ) → names ReportLayout m s at ≡ Ok (ws, p) →
    numbers ReportLayout n s p ≡ filled ReportLayout x values → x ≡ y → row ReportLayout m n s at ≡ row_of ReportLayout ws y values
row_as m n s at ws p x y values e f b = row-filled ReportLayout m n s at ws p x values e f ∙ ap (λ (z : Option ℕ). row_of ReportLayout ws z values) b

module _ (s : List ℕ) (at p : ℕ) (x : Option ℕ) (values : List ℤ) (r : RowRead) (next : ℕ) (b : x ≡ Some next) (t : r.three ≡ three_at values 1) (i : r.inside ≡ within3 2000000 r.three) (h : next ≤ length s) where
  row-held : (branch : Bool) (ws : List ℕ) → names ReportLayout (name_count branch) s at ≡ Ok (ws, p) → numbers ReportLayout (value_count branch) s p ≡ filled ReportLayout x values →
      r.first ≡ get_or ws 0 0 → r.second ≡ get_or ws 1 0 → r.pair ≡ pair_at values 7 →
      within3 2000000 (three_at values 1) ≡ row_inside branch (record { words = ws; values = values }) → (branch ≡ false → (r.second ≡ 0) × (r.pair ≡ 0c)) → RowHeld branch s at r next
  row-held branch ws e f a c d j n =
      record {
        read = record { words = ws; values = values };
        whole = row_as (name_count branch) (value_count branch) s at ws p x (Some next) values e f b;
        first = a;
        second = c;
        three = t;
        pair = d;
        inside = i ∙ ap (within3 2000000) t ∙ j;
        within = h;
        blank = n;
      }

  pub node-held : (v : ℕ) → names ReportLayout 1 s at ≡ Ok (v ∷ [], p) → numbers ReportLayout 6 s p ≡ filled ReportLayout x values → length values ≡ 6 →
      r.first ≡ v → r.second ≡ 0 → r.pair ≡ 0c → RowHeld false s at r next
  node-held v e f n a c d =
      let past : (k : ℕ) → 6 ≤ k → get_or values k (pos 0) ≡ pos 0 = λ k q. get_or-eq_default values (pos 0) (omega arith) in
      row-held false (v ∷ []) e f a c (d ∙ sym (pair_eq (past 6 (omega arith)) (past 7 (omega arith)))) (all-inside values n) (λ z. (c, d))

  pub branch_held : (v w : ℕ) → names ReportLayout 2 s at ≡ Ok (v ∷ w ∷ [], p) → numbers ReportLayout 8 s p ≡ filled ReportLayout x values →
      r.first ≡ v → r.second ≡ w → r.pair ≡ pair_at values 7 → RowHeld true s at r next
  branch_held v w e f a c d = row-held true (v ∷ w ∷ []) e f a c d (six-inside values) (λ z. clash true refl z)
