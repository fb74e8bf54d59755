-- A row and its line: what is written is read back as the row, and whatever is read as a row is just the line that the row is written as. Assumes nothing.
use Rattle.std.specs.Prelude.{Bool, cond, false, true, List, [], ◌++◌, ◌∷◌, map, ◌≡◌, refl, ◌+◌, ◌<◌, ◌≤◌, suc, zero, ℕ, eqb, ℤ, drop, length, Ok, Err, Option, Some, None}
use Rattle.std.proofs.Common.{append_assoc, ◌∙◌, ap, subst, sym, arith, length-append, drop-drop, ne_eqb}
use Prim.Native.String.{String}
use Rattle.std.proofs.lemmas.List.{length-map}
use Rattle.std.proofs.Math.Seq.{drop-append_seam}
use Rattle.answers.specs.AnswerLaws.{bound, not-refused, same_good}
use Rattle.answers.specs.Answers.{Outcome, ◌>>=◌}
use Rattle.answers.specs.declared.Refusal.{Refusal}
use Rattle.integers.specs.Lists.{All}
use Rattle.text.specs.LineLaws.{begins-append, begins-split, begins-within, text-stands}
use Rattle.text.specs.LineText.{line-last, line-more, row-of-line}
use Rattle.text.specs.Lines.{Row, got, names, numbers, row, row_text, text, Readable}
use Rattle.text.specs.NameText.{name-stands}
use Rattle.text.specs.NumberText.{behind, number_past, number-stands}
use Rattle.text.specs.Text.{begins, bytes, decimal, letters, line, name_at, number_at, Small, Proper, Placed}

-- two values that were read are one, and so are the places behind them
pub same-value : {X : Type 0} (x y : Placed X) → ◌≡◌ {A = Outcome (Placed X)} (Ok x) (Ok y) → x.0 ≡ y.0
same-value {X} x y e = ap (λ (z : Placed X). z.0) (same_good x y e)

pub same_place : {X : Type 0} (x y : Placed X) → ◌≡◌ {A = Outcome (Placed X)} (Ok x) (Ok y) → x.1 ≡ y.1
same_place {X} x y e = ap (λ (z : Placed X). z.1) (same_good x y e)

-- a value in front of those that are read behind it
abbrev pub put : {X : Type 0} → X → Placed (List X) → Outcome (Placed (List X))
put x y = Ok (x ∷ y.0, y.1)

-- ---- what is written is read back
-- a text that stands at a place
pub past : (s : List ℕ) (at : ℕ) (x t : List ℕ) → drop at s ≡ x ++ t → drop (at + length x) s ≡ t
past s at x t e = sym (drop-drop (length x) at s) ∙ ap (drop (length x)) e ∙ drop-append_seam x t

pub text-back : (r : Refusal) (w : String) (s : List ℕ) (at : ℕ) (t : List ℕ) → drop at s ≡ bytes w ++ t → text r w s at ≡ Ok (at + length (bytes w))
text-back r w s at t e = text-stands r w s at (ap (begins (bytes w)) e ∙ begins-append (bytes w) t)

pub row_back : (r : Refusal) (m n : ℕ) (x : Row) → Readable m n x → (s : List ℕ) (at : ℕ) (t : List ℕ) → drop at s ≡ row_text x ++ t → row r m n s at ≡ Ok (x, at + length (row_text x))
unfolding row_text
row_back r m n x h s at t e = go x.values h.small h.values-are e
  where
    go : (zs : List ℤ) → All Small zs → length zs ≡ n → drop at s ≡ line (map (letters 8) x.words ++ map decimal zs) ++ t
        → row r m n s at ≡ Ok (record { words = x.words; values = zs }, at + length (line (map (letters 8) x.words ++ map decimal zs)))
    go [] a c e = absurd (omega (arith, h.some))
    go (z ∷ zs) a c e = rw (sym h.words_are, sym c) (row-of-line r x.words z zs h.proper a s at t e)

-- ---- what is read stands there as it would be written
pub text-read : (r : Refusal) (w : String) (s : List ℕ) (at p : ℕ) → text r w s at ≡ Ok p → drop at s ≡ bytes w ++ drop p s
unfolding text
text-read r w s at p e = go (begins (bytes w) (drop at s)) refl e
  where
    go : (c : Bool) → begins (bytes w) (drop at s) ≡ c → cond {A = Outcome ℕ} c (Ok (at + length (bytes w))) (Err r) ≡ Ok p → drop at s ≡ bytes w ++ drop p s
    go true q e =
        let k : at + length (bytes w) ≡ p = same_good (at + length (bytes w)) p e in
        begins-split (bytes w) (drop at s) q ∙ ap (λ (y : List ℕ). bytes w ++ y) (drop-drop (length (bytes w)) at s ∙ ap (λ (n : ℕ). drop n s) k)
    go false q e = not-refused r p e

pub text-within : (r : Refusal) (w : String) (s : List ℕ) (at p : ℕ) → 0 < length (bytes w) → text r w s at ≡ Ok p → p ≤ length s
unfolding text
text-within r w s at p h e = go (begins (bytes w) (drop at s)) refl e
  where
    go : (c : Bool) → begins (bytes w) (drop at s) ≡ c → cond {A = Outcome ℕ} c (Ok (at + length (bytes w))) (Err r) ≡ Ok p → p ≤ length s
    go true q e = subst (λ (n : ℕ). n ≤ length s) (same_good (at + length (bytes w)) p e) (begins-within (bytes w) s at h q)
    go false q e = not-refused r p e

-- the names in front of a row's numbers, each with its comma
unfoldable fields : List ℕ → List ℕ
fields [] = []
fields (w ∷ ws) = letters 8 w ++ (44 ∷ fields ws)

record NamesRead (m : ℕ) (s : List ℕ) (at : ℕ) (ws : List ℕ) (p : ℕ) : Type 0 where
  stand : drop at s ≡ fields ws ++ drop p s
  proper : All Proper ws
  many : length ws ≡ m

names-read : (r : Refusal) (m : ℕ) (s : List ℕ) (at : ℕ) (ws : List ℕ) (p : ℕ) → names r m s at ≡ Ok (ws, p) → NamesRead m s at ws p
unfolding names fields
names-read r zero s at ws p e = subst (λ (y : Placed (List ℕ)). NamesRead 0 s at y.0 y.1) (same_good ([], at) (ws, p) e) (record { stand = refl; proper = tt; many = refl })
names-read r (suc m) s at ws p e = by (name_at 44 s at) refl e (names-read r m s)
  where
    by : (x : Option (ℕ × ℕ)) → name_at 44 s at ≡ x → (got r x >>= λ y. names r m s y.1 >>= put y.0) ≡ Ok (ws, p)
        → ((q : ℕ) (vs : List ℕ) (n : ℕ) → names r m s q ≡ Ok (vs, n) → NamesRead m s q vs n) → NamesRead (suc m) s at ws p
    by (Some (v, q)) c g ih =
        let b = bound (names r m s q) (put v) (ws, p) g in
        let h = ih q b.value.0 b.value.1 b.came in
        let d = name-stands 44 (drop at s) at v q c in
        let f = d.field in
        let n : drop q s ≡ f.rest = rw (sym f.next) at (behind 44 s at (letters 8 v) f.rest f.stands) in
        let t : drop at s ≡ (letters 8 v ++ (44 ∷ fields b.value.0)) ++ drop b.value.1 s
        = f.stands ∙ ap (λ (y : List ℕ). letters 8 v ++ (44 ∷ y)) (sym n ∙ h.stand) ∙ sym (append_assoc (letters 8 v) (44 ∷ fields b.value.0) (drop b.value.1 s)) in
        subst (λ (y : Placed (List ℕ)). NamesRead (suc m) s at y.0 y.1) (same_good (v ∷ b.value.0, b.value.1) (ws, p) b.rest)
        (record { stand = t; proper = (d.proper, h.proper); many = ap suc h.many })
    by None c g ih = not-refused r (ws, p) g

-- the numbers up to the line's end
record NumbersRead (n : ℕ) (s : List ℕ) (at : ℕ) (zs : List ℤ) (p : ℕ) : Type 0 where
  stand : drop at s ≡ line (map decimal zs) ++ drop p s
  small : All Small zs
  many : length zs ≡ n
  within : p ≤ length s

numbers-read : (r : Refusal) (n : ℕ) (s : List ℕ) (at : ℕ) (zs : List ℤ) (p : ℕ) → numbers r (suc n) s at ≡ Ok (zs, p) → NumbersRead (suc n) s at zs p
unfolding numbers
numbers-read r zero s at zs p e = by (number_at 10 s at) refl e
  where
    by : (x : Option (ℤ × ℕ)) → number_at 10 s at ≡ x → (got r x >>= λ y. Ok ([], y.1) >>= put y.0) ≡ Ok (zs, p) → NumbersRead 1 s at zs p
    by (Some (v, q)) c g =
        let d = number-stands 10 (drop at s) at v q c in
        let f = d.field in
        let n : drop q s ≡ f.rest = rw (sym f.next) at (behind 10 s at (decimal v) f.rest f.stands) in
        let t : drop at s ≡ line (decimal v ∷ []) ++ drop q s
        = f.stands ∙ ap (λ (y : List ℕ). decimal v ++ (10 ∷ y)) (sym n) ∙ sym (append_assoc (decimal v) (10 ∷ []) (drop q s)) ∙ ap (λ (y : List ℕ). y ++ drop q s) (sym (line-last (decimal v))) in
        subst (λ (y : Placed (List ℤ)). NumbersRead 1 s at y.0 y.1) (same_good (v ∷ [], q) (zs, p) g)
        (record { stand = t; small = (d.small, tt); many = refl; within = (number_past 10 s at v q c).1 })
    by None c g = not-refused r (zs, p) g
numbers-read r (suc n) s at zs p e = by (number_at 44 s at) refl (let z : eqb (suc n) 0 ≡ false = ne_eqb (suc n) 0 (λ q. omega arith) in rw z at e) (numbers-read r n s)
  where
    by : (x : Option (ℤ × ℕ)) → number_at 44 s at ≡ x → (got r x >>= λ y. numbers r (suc n) s y.1 >>= put y.0) ≡ Ok (zs, p)
        → ((q : ℕ) (vs : List ℤ) (m : ℕ) → numbers r (suc n) s q ≡ Ok (vs, m) → NumbersRead (suc n) s q vs m) → NumbersRead (suc (suc n)) s at zs p
    by (Some (v, q)) c g ih =
        let b = bound (numbers r (suc n) s q) (put v) (zs, p) g in
        let h = ih q b.value.0 b.value.1 b.came in
        let d = number-stands 44 (drop at s) at v q c in
        let f = d.field in
        let k : drop q s ≡ f.rest = rw (sym f.next) at (behind 44 s at (decimal v) f.rest f.stands) in
        let l = map decimal b.value.0 in
        let m : 0 < length l = rw (length-map b.value.0 decimal) (omega (arith, h.many)) in
        let t : drop at s ≡ line (decimal v ∷ l) ++ drop b.value.1 s
        = f.stands ∙ ap (λ (y : List ℕ). decimal v ++ (44 ∷ y)) (sym k ∙ h.stand) ∙ sym (append_assoc (decimal v) (44 ∷ line l) (drop b.value.1 s))
        ∙ ap (λ (y : List ℕ). y ++ drop b.value.1 s) (sym (line-more (decimal v) l m)) in
        subst (λ (y : Placed (List ℤ)). NumbersRead (suc (suc n)) s at y.0 y.1) (same_good (v ∷ b.value.0, b.value.1) (zs, p) b.rest)
        (record { stand = t; small = (d.small, h.small); many = ap suc h.many; within = h.within })
    by None c g ih = not-refused r (zs, p) g

-- a row
line-fields : (ws : List ℕ) (l : List (List ℕ)) → 0 < length l → line (map (letters 8) ws ++ l) ≡ fields ws ++ line l
unfolding fields
line-fields [] l q = refl
line-fields (w ∷ ws) l q =
    line-more (letters 8 w) (map (letters 8) ws ++ l) (simp length-append (omega arith)) ∙ ap (λ (y : List ℕ). letters 8 w ++ (44 ∷ y)) (line-fields ws l q) ∙ sym (append_assoc (letters 8 w) (44 ∷ fields ws) (line l))

pub record RowRead (m n : ℕ) (s : List ℕ) (at : ℕ) (x : Row) (p : ℕ) : Type 0 where
  pub stand : drop at s ≡ row_text x ++ drop p s
  pub readable : Readable m n x
  pub within : p ≤ length s

pub row-read : (r : Refusal) (m n : ℕ) (s : List ℕ) (at : ℕ) (x : Row) (p : ℕ) → row r m (suc n) s at ≡ Ok (x, p) → RowRead m (suc n) s at x p
unfolding row row_text
row-read r m n s at x p e =
    let b = bound (names r m s at) (λ y. numbers r (suc n) s y.1 >>= λ z. Ok (record { words = y.0; values = z.0 }, z.1)) (x, p) e in
    let c = bound (numbers r (suc n) s b.value.1) (λ z. Ok (record { words = b.value.0; values = z.0 }, z.1)) (x, p) b.rest in
    let ws = b.value.0 in
    let zs = c.value.0 in
    let h = names-read r m s at ws b.value.1 b.came in
    let g = numbers-read r n s b.value.1 zs c.value.1 c.came in
    let k : 0 < length (map decimal zs) = rw (length-map zs decimal) (omega (arith, g.many)) in
    let t : drop at s ≡ line (map (letters 8) ws ++ map decimal zs) ++ drop c.value.1 s
    = h.stand ∙ ap (λ (y : List ℕ). fields ws ++ y) g.stand ∙ sym (append_assoc (fields ws) (line (map decimal zs)) (drop c.value.1 s)) ∙ ap (λ (y : List ℕ). y ++ drop c.value.1 s) (sym (line-fields ws (map decimal zs) k)) in
    subst (λ (y : Placed Row). RowRead m (suc n) s at y.0 y.1) (same_good (record { words = ws; values = zs }, c.value.1) (x, p) c.rest)
    (record { stand = t; readable = record { proper = h.proper; small = g.small; words_are = h.many; values-are = g.many; some = omega arith }; within = g.within })
