-- How the definitions of Text go on: a reading with the byte at its place and at the end of the text, a writing with the last digit or letter.
-- Assumes nothing.
use Rattle.std.specs.Prelude.{◌≡◌, refl, Bool, true, false, cond, ◌&&◌, List, [], ◌∷◌, ◌++◌, ℕ, zero, suc, ◌+◌, ◌-◌, ◌*◌, ◌/◌, ◌%◌, ◌^◌, ◌≤◌, ◌<◌, min, ltb, eqb, ℤ, pos, negsuc, nat_abs, length, get_or, set, take, drop, Option, Some, None}
use Rattle.std.proofs.Common.{sym, ap, ◌∙◌, arith, add-one, not-suc-le-zero, mod-eq_of_lt, pow-suc, drop_of_length-le, length-append, length-drop, drop-cons, take_all, take-suc-set, lt-ltb, le-ltb, eq-eqb, ne_eqb}
use Rattle.std.proofs.Math.Decide.{dec_lt}
use Rattle.std.proofs.lemmas.List.{drop_min}
use Rattle.std.specs.Int.Signed.{lt_z}
use Rattle.std.specs.List.{starts_with}
use Rattle.text.specs.Text.{Placed, digit, more, natural, negated, number, number_at, letter, name, begins, digits, decimal, letters}

-- ---- a value and its place: the same pair has the same parts
pub same-placed : {X : Type 0} {x y : X} {m n : ℕ} → ◌≡◌ {A = Option (Placed X)} (Some (x, m)) (Some (y, n)) → (x ≡ y) × (m ≡ n)
same-placed {X} {x} {y} {m} {n} e = let p : ◌≡◌ {A = Placed X} (x, m) (y, n) = cc in (ap (λ (q : Placed X). q.0) p, ap (λ (q : Placed X). q.1) p)

-- ---- the rest of a text from a place on
pub drop-next : (s : List ℕ) (i : ℕ) → i < length s → drop i s ≡ get_or s i 0 ∷ drop (i + 1) s
drop-next s i h = rw (add-one, drop-cons s i 0)

pub take_next : {X : Type 0} (l : List X) (i : ℕ) (x : X) → i < length l → take (i + 1) (set l i x) ≡ take i l ++ (x ∷ [])
take_next l i x h = simp add-one (take-suc-set l i x h)

-- the part `&s[a..]` of a slice
pub part-from : {X : Type 0} (s : List X) (a : ℕ) → take (length s - a) (drop a s) ≡ drop a s
part-from s a = take_all (length s - a) (drop a s) (simp length-drop (omega arith))

-- ---- reading
pub more-at : (sep : ℕ) (s : List ℕ) (i v : ℕ) → i < length s →
    more sep (drop i s) i v ≡ cond (eqb (get_or s i 0) sep) (Some (pos v, i + 1))
    (cond (digit (get_or s i 0) && (ltb 0 v && ltb v 100000000000000000)) (more sep (drop (i + 1) s) (i + 1) (v * 10 + (get_or s i 0 - 48))) None)
unfolding more
more-at sep s i v h = rw (drop-next s i h)

pub more-end : (sep : ℕ) (s : List ℕ) (i v : ℕ) → length s ≤ i → more sep (drop i s) i v ≡ None
unfolding more
more-end sep s i v h = rw (drop_of_length-le s h)

pub natural-at : (sep : ℕ) (s : List ℕ) (i : ℕ) → i < length s →
    natural sep (drop i s) i ≡ cond (digit (get_or s i 0)) (more sep (drop (i + 1) s) (i + 1) (get_or s i 0 - 48)) None
unfolding natural
natural-at sep s i h = rw (drop-next s i h)

pub natural-end : (sep : ℕ) (s : List ℕ) (i : ℕ) → length s ≤ i → natural sep (drop i s) i ≡ None
unfolding natural
natural-end sep s i h = rw (drop_of_length-le s h)

pub number-at : (sep : ℕ) (s : List ℕ) (i : ℕ) → i < length s →
    number_at sep s i ≡ cond (eqb (get_or s i 0) 45) (negated (natural sep (drop (i + 1) s) (i + 1))) (natural sep (drop i s) i)
unfolding number
number-at sep s i h = rw (drop-next s i h)

pub number-end : (sep : ℕ) (s : List ℕ) (i : ℕ) → length s ≤ i → number_at sep s i ≡ None
unfolding number
number-end sep s i h = rw (drop_of_length-le s h)

pub name-at : (sep : ℕ) (s : List ℕ) (i v : ℕ) → i < length s →
    name sep (drop i s) i v ≡ cond (eqb (get_or s i 0) sep) (cond (eqb v 0) None (Some (v, i + 1)))
    (cond (letter (get_or s i 0) && ltb v 72057594037927936) (name sep (drop (i + 1) s) (i + 1) (v * 256 + get_or s i 0)) None)
unfolding name
name-at sep s i v h = rw (drop-next s i h)

pub name-end : (sep : ℕ) (s : List ℕ) (i v : ℕ) → length s ≤ i → name sep (drop i s) i v ≡ None
unfolding name
name-end sep s i v h = rw (drop_of_length-le s h)

pub begins-at : (w s : List ℕ) (k i : ℕ) → k < length w → i < length s →
    begins (drop k w) (drop i s) ≡ (eqb (get_or w k 0) (get_or s i 0) && begins (drop (k + 1) w) (drop (i + 1) s))
unfolding begins
begins-at w s k i h g = rw (drop-next w k h, drop-next s i g)

-- what that comes to where the two bytes are one, and where they are not
pub begins-same : (w s : List ℕ) (k i : ℕ) → k < length w → i < length s → get_or w k 0 ≡ get_or s i 0 →
    begins (drop k w) (drop i s) ≡ begins (drop (k + 1) w) (drop (i + 1) s)
begins-same w s k i h g e = begins-at w s k i h g ∙ simp (eq-eqb _ _ e)

pub begins-differs : (w s : List ℕ) (k i : ℕ) → k < length w → i < length s → (get_or w k 0 ≡ get_or s i 0 → ⊥) → begins (drop k w) (drop i s) ≡ false
begins-differs w s k i h g e = begins-at w s k i h g ∙ simp (ne_eqb _ _ e)

pub begins-short : (w s : List ℕ) (k i : ℕ) → k < length w → length s ≤ i → begins (drop k w) (drop i s) ≡ false
unfolding begins
begins-short w s k i h g = rw (drop-next w k h, drop_of_length-le s g)

pub begins-end : (w s : List ℕ) (k : ℕ) → length w ≤ k → begins (drop k w) s ≡ true
unfolding begins
begins-end w s k h = rw (drop_of_length-le w h)

-- the library's test for a word at the start of a text
begins-starts : (w s : List ℕ) → starts_with eqb s w ≡ begins w s
unfolding begins
begins-starts [] s = refl
begins-starts (b ∷ w) [] = refl
begins-starts (b ∷ w) (a ∷ s) = ap (λ (t : Bool). eqb b a && t) (begins-starts w s)

-- and at a place: behind the end as at the end nothing is left
pub begins-part : (w s : List ℕ) (at m : ℕ) → m ≡ min at (length s) → starts_with eqb (take (length s - m) (drop m s)) w ≡ begins w (drop at s)
begins-part w s at m e = rw (part-from s m, e, drop_min at s) (begins-starts w (drop at s))

-- ---- writing
pub digits-none : (n : ℕ) → digits 0 n ≡ []
unfolding digits
digits-none n = refl

pub digits-one : (f n : ℕ) → 0 < f → n < 10 → digits f n ≡ (48 + n) ∷ []
unfolding digits
digits-one zero n h k = absurd (not-suc-le-zero h)
digits-one (suc f) n h k = simp (lt-ltb n 10 k, mod-eq_of_lt k)

pub digits_more : (f n : ℕ) → 0 < f → 10 ≤ n → digits f n ≡ digits (f - 1) (n / 10) ++ ((48 + n % 10) ∷ [])
unfolding digits
digits_more zero n h k = absurd (not-suc-le-zero h)
digits_more (suc f) n h k =
    let e : suc f - 1 ≡ f = omega arith in
    simp (le-ltb n 10 k, e)

pub digits-longer : (f n : ℕ) → 0 < f → 10 ≤ n → length (digits f n) ≡ length (digits (f - 1) (n / 10)) + 1
digits-longer f n h k = simp (digits_more f n h k, length-append)

pub digits-fit : (f n : ℕ) → length (digits f n) ≤ f
unfolding digits
digits-fit zero n = omega arith
digits-fit (suc f) n =
    let h : (t : Bool) → length (cond {A = List ℕ} t [] (digits f (n / 10)) ++ ((48 + n % 10) ∷ [])) ≤ suc f =
    elim [ true ↦ omega arith | false ↦ simp length-append (omega (arith, digits-fit f (n / 10))) ] in
    h (ltb n 10)

-- there is a last one, and a number of two or more has a digit in front of it
pub digits-some : (f n : ℕ) → 0 < f → 0 < length (digits f n)
unfolding digits
digits-some zero n h = absurd (not-suc-le-zero h)
digits-some (suc f) n h = simp length-append (omega arith)

pub digits-last : (n : ℕ) → length (digits 20 n) ≤ 1 → n < 10
digits-last n h = by (dec_lt n 10)
  where
    by : Dec (n < 10) → n < 10
    by (yes l) = l
    by (no l) = absurd (omega (arith, digits-longer 20 n (omega arith) (omega arith), digits-some 19 (n / 10) (omega arith)))

pub digits-going : (n : ℕ) → 1 < length (digits 20 n) → 10 ≤ n
digits-going n h = by (dec_lt n 10)
  where
    by : Dec (n < 10) → 10 ≤ n
    by (yes l) = absurd (omega (arith, ap length (digits-one 20 n (omega arith) l)))
    by (no l) = omega arith

-- where the places are enough for a number, one place more changes nothing
digits-enough : (f n : ℕ) → n < 10 ^ suc f → digits (suc (suc f)) n ≡ digits (suc f) n
unfolding digits
digits-enough zero n h = simp (lt-ltb n 10 h)
digits-enough (suc f) n h = ap (λ (l : List ℕ). cond (ltb n 10) [] l ++ ((48 + n % 10) ∷ [])) (digits-enough f (n / 10) (omega (arith, pow-suc 10 (suc f))))

-- so a number of 64 bits has the digits of its tenth, and the last
pub digits-front : (n : ℕ) → 10 ≤ n → n < 18446744073709551616 → digits 20 n ≡ digits 20 (n / 10) ++ ((48 + n % 10) ∷ [])
digits-front n h k =
    digits_more 20 n (omega arith) h ∙ ap (λ (l : List ℕ). l ++ ((48 + n % 10) ∷ [])) (sym (digits-enough 18 (n / 10) (omega arith)))

pub decimal-natural : (n : ℕ) → decimal (pos n) ≡ digits 20 n
unfolding decimal
decimal-natural n = simp (le-ltb n 0 (omega arith))

pub decimal-negative : (n : ℕ) → decimal (negsuc n) ≡ 45 ∷ digits 20 (suc n)
unfolding decimal
decimal-negative n = refl

pub decimal-below : (z : ℤ) → lt_z z (pos 0) ≡ true → decimal z ≡ 45 ∷ digits 20 (nat_abs z)
unfolding decimal
decimal-below z e = simp e

pub decimal-above : (z : ℤ) → lt_z z (pos 0) ≡ false → decimal z ≡ digits 20 (nat_abs z)
unfolding decimal
decimal-above z e = simp e

pub letters-none : (v : ℕ) → letters 0 v ≡ []
unfolding letters
letters-none v = refl

pub letters-zero : (f : ℕ) → letters f 0 ≡ []
unfolding letters
letters-zero zero = refl
letters-zero (suc f) = refl

pub letters-more : (f v : ℕ) → 0 < f → (v ≡ 0 → ⊥) → letters f v ≡ letters (f - 1) (v / 256) ++ (v % 256 ∷ [])
unfolding letters
letters-more zero v h k = absurd (not-suc-le-zero h)
letters-more (suc f) v h k =
    let e : suc f - 1 ≡ f = omega arith in
    simp (ne_eqb v 0 k, e)

pub letters-longer : (f v : ℕ) → 0 < f → (v ≡ 0 → ⊥) → length (letters f v) ≡ length (letters (f - 1) (v / 256)) + 1
letters-longer f v h k = simp (letters-more f v h k, length-append)

pub letters-fit : (f v : ℕ) → length (letters f v) ≤ f
unfolding letters
letters-fit zero v = omega arith
letters-fit (suc f) v =
    let h : (t : Bool) → length (cond {A = List ℕ} t [] (letters f (v / 256) ++ (v % 256 ∷ []))) ≤ suc f =
    elim [ true ↦ omega arith | false ↦ simp length-append (omega (arith, letters-fit f (v / 256))) ] in
    h (eqb v 0)

pub letters-going : (f v : ℕ) → 0 < length (letters f v) → v ≡ 0 → ⊥
letters-going f v h e = omega (arith, simp (e, letters-zero) at h)

-- and so with letters
letters-enough : (f v : ℕ) → v < 256 ^ f → letters (suc f) v ≡ letters f v
unfolding letters
letters-enough zero v h = let e : v ≡ 0 = omega arith in simp e
letters-enough (suc f) v h = ap (λ (l : List ℕ). cond (eqb v 0) [] (l ++ (v % 256 ∷ []))) (letters-enough f (v / 256) (omega (arith, pow-suc 256 f)))

pub letters-front : (v : ℕ) → (v ≡ 0 → ⊥) → v < 18446744073709551616 → letters 8 v ≡ letters 8 (v / 256) ++ (v % 256 ∷ [])
letters-front v h k =
    letters-more 8 v (omega arith) h ∙ ap (λ (l : List ℕ). l ++ (v % 256 ∷ [])) (sym (letters-enough 7 (v / 256) (omega arith)))
