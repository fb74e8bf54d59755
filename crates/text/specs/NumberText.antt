-- Numbers as text, both ways: what is read as a number is its decimal text, and the decimal text of a number below 10 ^ 18 in size is read as it.
-- Assumes nothing.
use Rattle.std.specs.Prelude.{◌≡◌, refl, Bool, true, false, cond, ◌&&◌, List, [], ◌∷◌, ◌++◌, ℕ, zero, suc, ◌+◌, ◌-◌, ◌*◌, ◌/◌, ◌%◌, ◌^◌, ◌≤◌, ◌<◌, ltb, leb, ℤ, pos, negsuc, nat_abs, length, drop, Option, Some, None}
use Rattle.std.proofs.Common.{sym, ap, ◌∙◌, append_assoc, append-nil, arith, add-one, add-zero, add_assoc, pow-suc, length-append, length-drop, drop-drop, lt-ltb, le-ltb, le-leb, leb-true, ltb-true, eq-eqb, ne_eqb}
use Rattle.std.proofs.Math.Decide.{dec_lt, ℕ_discrete}
use Rattle.std.proofs.Math.Nat.{pow-le-pow_right}
use Rattle.std.proofs.Math.Seq.{drop-append-add}
use Rattle.integers.specs.Bools.{both}
use Rattle.text.specs.Text.{Placed, digit, more, natural, negated, number, number_at, digits, decimal}
use Rattle.text.specs.TextLaws.{same-placed, digits-one, digits_more, digits-longer, digits-fit, decimal-natural, decimal-negative}

-- ---- a field that stands at a place: its text d and the separator behind it, n the place behind both
pub record Stands (sep : ℕ) (l : List ℕ) (i : ℕ) (d : List ℕ) (n : ℕ) : Type 0 where
  pub rest : List ℕ
  pub stands : l ≡ d ++ (sep ∷ rest)
  pub next : n ≡ i + length d + 1

-- a reading moves on, and stays within the text
pub stands-past : (sep : ℕ) (s : List ℕ) (at : ℕ) (d : List ℕ) (n : ℕ) → Stands sep (drop at s) at d n → (at < n) × (n ≤ length s)
stands-past sep s at d n m =
    let e : length s - at ≡ length d + suc (length m.rest) = sym (length-drop at s) ∙ ap length m.stands ∙ length-append d (sep ∷ m.rest) in
    omega (arith, m.next)

-- and what it leaves is the rest
pub behind : (sep : ℕ) (s : List ℕ) (at : ℕ) (d t : List ℕ) → drop at s ≡ d ++ (sep ∷ t) → drop (at + length d + 1) s ≡ t
behind sep s at d t e =
    let k : drop (length d + 1) (drop at s) ≡ drop (at + (length d + 1)) s = drop-drop (length d + 1) at s in
    simp add_assoc (sym k ∙ simp e (drop-append-add d (sep ∷ t) 1))

-- ---- from the reading to the text
not-number : {X : Type 0} (z : ℤ) (n : ℕ) → ◌≡◌ {A = Option (Placed ℤ)} None (Some (z, n)) → X
not-number z n e = let q : ◌≡◌ {A = ℕ} 0 1 = cc in absurd (omega arith)

digits-snoc : (f v d : ℕ) → 0 < v → d < 10 → digits (suc f) (v * 10 + d) ≡ digits f v ++ ((48 + d) ∷ [])
unfolding digits
digits-snoc f v d h k =
    let q : (v * 10 + d) / 10 ≡ v = omega arith in
    let m : (v * 10 + d) % 10 ≡ d = omega arith in
    simp (le-ltb (v * 10 + d) 10 (omega arith), q, m)

pub digit-range : (b : ℕ) → digit b ≡ true → (48 ≤ b) × (b ≤ 57)
digit-range b e = let h = both (leb 48 b) (leb b 57) e in (leb-true 48 b h.0, leb-true b 57 h.1)

below : {v : ℕ} (k : ℕ) → 10 ^ k ≤ v * 10 → v < 100000000000000000 → k < 18
below {v} k p u = by (dec_lt k 18)
  where
    by : Dec (k < 18) → k < 18
    by (yes h) = h
    by (no h) = let g : 18 ≤ k = omega arith in omega (arith, pow-le-pow_right {n = 10} (omega arith) g)

-- z was read where v had been read before it, of k digits: text has the digits behind v's
record Spelled (sep : ℕ) (l : List ℕ) (i v k : ℕ) (z : ℤ) (n : ℕ) : Type 0 where
  value : ℕ
  is : z ≡ pos value
  small : value < 1000000000000000000
  text : List ℕ
  rest : List ℕ
  stands : l ≡ text ++ (sep ∷ rest)
  short : k + length text ≤ 18
  next : n ≡ i + length text + 1
  spells : (f : ℕ) → digits (f + length text) value ≡ digits f v ++ text

spelled : (sep : ℕ) (l : List ℕ) (i v k : ℕ) (z : ℤ) (n : ℕ) → v < 1000000000000000000 → (0 < v → 10 ^ k ≤ v * 10) → k ≤ 18 →
    more sep l i v ≡ Some (z, n) → Spelled sep l i v k z n
unfolding more
spelled sep [] i v k z n h p q e = not-number z n e
spelled sep (b ∷ s) i v k z n h p q e = by (ℕ_discrete b sep) (spelled sep s (i + 1) (v * 10 + (b - 48)) (k + 1) z n)
  where
    go : ℕ → Type 0
    go w = w < 1000000000000000000 → (0 < w → 10 ^ (k + 1) ≤ w * 10) → k + 1 ≤ 18 → more sep s (i + 1) w ≡ Some (z, n) → Spelled sep s (i + 1) w (k + 1) z n

    on : (t : Bool) → (digit b && (ltb 0 v && ltb v 100000000000000000)) ≡ t →
        cond t (more sep s (i + 1) (v * 10 + (b - 48))) None ≡ Some (z, n) → go (v * 10 + (b - 48)) → Spelled sep (b ∷ s) i v k z n
    on true t g ih =
        let w = both (digit b) (ltb 0 v && ltb v 100000000000000000) t in
        let r = digit-range b w.0 in
        let u = both (ltb 0 v) (ltb v 100000000000000000) w.1 in
        let v0 : 0 < v = ltb-true 0 v u.0 in
        let v17 : v < 100000000000000000 = ltb-true v 100000000000000000 u.1 in
        let k18 : k < 18 = below k (p v0) v17 in
        let ten : 10 ^ (k + 1) ≡ 10 ^ k * 10 = simp add-one (pow-suc 10 k) in
        let m = ih (omega (arith, r)) (λ _. omega (arith, p v0)) (omega arith) g in
        record {
          value = m.value;
          is = m.is;
          small = m.small;
          text = b ∷ m.text;
          rest = m.rest;
          stands = ap (λ (l : List ℕ). b ∷ l) m.stands;
          short = omega (arith, m.short);
          next = omega (arith, m.next);
          spells = λ f.
              let a : f + suc (length m.text) ≡ suc f + length m.text = omega arith in
              let c : 48 + (b - 48) ≡ b = omega (arith, r) in
              simp a (m.spells (suc f) ∙ simp (digits-snoc f v (b - 48) v0 (omega (arith, r)), append_assoc, c));
        }
    on false t g ih = not-number z n g

    by : Dec (b ≡ sep) → go (v * 10 + (b - 48)) → Spelled sep (b ∷ s) i v k z n
    by (yes x) ih =
        let g : ◌≡◌ {A = Option (Placed ℤ)} (Some (pos v, i + 1)) (Some (z, n)) = simp (eq-eqb b sep x) at e in
        let c : z ≡ pos v = sym (same-placed g).0 in
        let d : i + 1 ≡ n = (same-placed g).1 in
        record { value = v; is = c; small = h; text = []; rest = s; stands = simp x; short = omega arith; next = omega arith; spells = λ f. simp (add-zero, append-nil) }
    by (no x) ih = on (digit b && (ltb 0 v && ltb v 100000000000000000)) refl (simp (ne_eqb b sep x) at e) ih

-- a natural number that was read
record Natural (sep : ℕ) (l : List ℕ) (i : ℕ) (z : ℤ) (n : ℕ) : Type 0 where
  value : ℕ
  is : z ≡ pos value
  small : value < 1000000000000000000
  field : Stands sep l i (digits 20 value) n

natural-spelled : (sep : ℕ) (l : List ℕ) (i : ℕ) (z : ℤ) (n : ℕ) → natural sep l i ≡ Some (z, n) → Natural sep l i z n
unfolding natural
natural-spelled sep [] i z n e = not-number z n e
natural-spelled sep (b ∷ s) i z n e = on (digit b) refl e
  where
    on : (t : Bool) → digit b ≡ t → cond t (more sep s (i + 1) (b - 48)) None ≡ Some (z, n) → Natural sep (b ∷ s) i z n
    on true t g =
        let r = digit-range b t in
        let m = spelled sep s (i + 1) (b - 48) 1 z n (omega (arith, r)) (λ h. omega arith) (omega arith) g in
        let f : 20 - length m.text + length m.text ≡ 20 = omega (arith, m.short) in
        let c : 48 + (b - 48) ≡ b = omega (arith, r) in
        let x : digits 20 m.value ≡ b ∷ m.text =
        simp (f, digits-one (20 - length m.text) (b - 48) (omega (arith, m.short)) (omega (arith, r)), c) at (m.spells (20 - length m.text)) in
        record {
          value = m.value;
          is = m.is;
          small = m.small;
          field = record { rest = m.rest; stands = ap (λ (l : List ℕ). b ∷ l) m.stands ∙ simp x; next = omega (arith, m.next, ap length x) };
        }
    on false t g = not-number z n g

-- a natural number is not negative, and below 10 ^ 18
pub natural-small : (sep : ℕ) (l : List ℕ) (i : ℕ) (z : ℤ) (n : ℕ) → natural sep l i ≡ Some (z, n) → (z ≡ pos (nat_abs z)) × (nat_abs z < 1000000000000000000)
natural-small sep l i z n e = let m = natural-spelled sep l i z n e in let h = m.small in simp m.is (refl, h)

-- the number and its decimal text
pub record Numeral (sep : ℕ) (l : List ℕ) (i : ℕ) (z : ℤ) (n : ℕ) : Type 0 where
  pub small : nat_abs z < 1000000000000000000
  pub field : Stands sep l i (decimal z) n

behind-minus : (sep : ℕ) (s : List ℕ) (i : ℕ) (z : ℤ) (n : ℕ) (x : Option (ℤ × ℕ)) → natural sep s (i + 1) ≡ x → negated x ≡ Some (z, n) → Numeral sep (45 ∷ s) i z n
behind-minus sep s i z n (Some (y, k)) h e = let m = natural-spelled sep s (i + 1) y k h in on m.value m.is m.small m.field
  where
    on : (w : ℕ) → y ≡ pos w → w < 1000000000000000000 → Stands sep s (i + 1) (digits 20 w) k → Numeral sep (45 ∷ s) i z n
    on zero q u r = not-number z n (simp q at e)
    on (suc m) q u r =
        let g : ◌≡◌ {A = Option (Placed ℤ)} (Some (negsuc m, k)) (Some (z, n)) = simp (q, ne_eqb (suc m) 0 (λ a. omega arith)) at e in
        let c : z ≡ negsuc m = sym (same-placed g).0 in
        let d : k ≡ n = (same-placed g).1 in
        let v : Stands sep (45 ∷ s) i (45 ∷ digits 20 (suc m)) n =
        record { rest = r.rest; stands = ap (λ (l : List ℕ). 45 ∷ l) r.stands; next = omega (arith, r.next) } in
        simp c (record { small = u; field = rw (decimal-negative m) v })
behind-minus sep s i z n None h e = not-number z n e

no_minus : (sep : ℕ) (s : List ℕ) (i : ℕ) (z : ℤ) (n : ℕ) → natural sep s i ≡ Some (z, n) → Numeral sep s i z n
no_minus sep s i z n e =
    let m = natural-spelled sep s i z n e in
    let h = m.small in
    let r = m.field in
    simp m.is (record { small = h; field = rw (decimal-natural m.value) r })

-- what is read as a number is its decimal text
pub number-stands : (sep : ℕ) (l : List ℕ) (i : ℕ) (z : ℤ) (n : ℕ) → number sep l i ≡ Some (z, n) → Numeral sep l i z n
unfolding number
number-stands sep [] i z n e = not-number z n e
number-stands sep (b ∷ s) i z n e = by (ℕ_discrete b 45)
  where
    by : Dec (b ≡ 45) → Numeral sep (b ∷ s) i z n
    by (yes q) = simp q (behind-minus sep s i z n _ refl (simp (eq-eqb b 45 q) at e))
    by (no q) = no_minus sep (b ∷ s) i z n (simp (ne_eqb b 45 q) at e)

pub number_past : (sep : ℕ) (s : List ℕ) (at : ℕ) (z : ℤ) (n : ℕ) → number_at sep s at ≡ Some (z, n) → (at < n) × (n ≤ length s)
number_past sep s at z n e = stands-past sep s at (decimal z) n (number-stands sep (drop at s) at z n e).field

-- what the reader of a number says of its answer, where it is the one defined
pub number-answer : (sep : ℕ) (s : List ℕ) (at : ℕ) (r : Option (ℤ × ℕ)) → r ≡ number_at sep s at →
    (r ≡ number_at sep s at) × ((z : ℤ) (n : ℕ) → r ≡ Some (z, n) → (at < n) × (n ≤ length s))
number-answer sep s at r e = (e, λ z n q. number_past sep s at z n (sym e ∙ q))

-- ---- from the text to the reading
more-digit : (sep d : ℕ) (t : List ℕ) (i v : ℕ) → sep < 48 → d < 10 → 0 < v → v < 100000000000000000 →
    more sep ((48 + d) ∷ t) i v ≡ more sep t (i + 1) (v * 10 + d)
unfolding more
more-digit sep d t i v hs hd h0 hv =
    let e : 48 + d - 48 ≡ d = omega arith in
    simp (ne_eqb (48 + d) sep (λ q. omega arith), le-leb 48 (48 + d) (omega arith), le-leb (48 + d) 57 (omega arith), lt-ltb 0 v h0, lt-ltb v 100000000000000000 hv, e)

more-sep : (sep : ℕ) (t : List ℕ) (i v : ℕ) → more sep (sep ∷ t) i v ≡ Some (pos v, i + 1)
unfolding more
more-sep sep t i v = simp (eq-eqb sep sep refl)

natural-digit : (sep d : ℕ) (t : List ℕ) (i : ℕ) → d < 10 → natural sep ((48 + d) ∷ t) i ≡ more sep t (i + 1) d
unfolding natural
natural-digit sep d t i hd =
    let e : 48 + d - 48 ≡ d = omega arith in
    simp (le-leb 48 (48 + d) (omega arith), le-leb (48 + d) 57 (omega arith), e)

read-digits : (sep : ℕ) → sep < 48 → (f n : ℕ) (t : List ℕ) (i : ℕ) → n < 10 ^ suc f → n < 1000000000000000000 →
    natural sep (digits (suc f) n ++ t) i ≡ more sep t (i + length (digits (suc f) n)) n
read-digits sep hs zero n t i hf hn = simp (digits-one 1 n (omega arith) hf) (natural-digit sep n t i hf)
read-digits sep hs (suc f) n t i hf hn = by (dec_lt n 10) (read-digits sep hs f (n / 10))
  where
    by : Dec (n < 10) →
        ((u : List ℕ) (j : ℕ) → n / 10 < 10 ^ suc f → n / 10 < 1000000000000000000 →
        natural sep (digits (suc f) (n / 10) ++ u) j ≡ more sep u (j + length (digits (suc f) (n / 10))) (n / 10)) →
        natural sep (digits (suc (suc f)) n ++ t) i ≡ more sep t (i + length (digits (suc (suc f)) n)) n
    by (yes h) ih = simp (digits-one (suc (suc f)) n (omega arith) h) (natural-digit sep n t i h)
    by (no h) ih =
        let k : 10 ≤ n = omega arith in
        let d : n % 10 < 10 = omega arith in
        let e : n / 10 * 10 + n % 10 ≡ n = omega arith in
        let g : suc (suc f) - 1 ≡ suc f = omega arith in
        simp (digits_more (suc (suc f)) n (omega arith) k, g, append_assoc, length-append)
        (ih ((48 + n % 10) ∷ t) i (omega (arith, pow-suc 10 (suc f))) (omega arith)
        ∙ more-digit sep (n % 10) t _ (n / 10) hs d (omega arith) (omega arith)
        ∙ simp (e, add_assoc))

pub read-natural : (sep : ℕ) → sep < 48 → (n : ℕ) (t : List ℕ) (i : ℕ) → n < 1000000000000000000 →
    natural sep (digits 20 n ++ (sep ∷ t)) i ≡ Some (pos n, i + length (digits 20 n) + 1)
read-natural sep hs n t i h = read-digits sep hs 19 n (sep ∷ t) i (omega arith) h ∙ more-sep sep t (i + length (digits 20 n)) n

-- what is a number with no sign is one where a sign may stand
number-plain : (sep : ℕ) (l : List ℕ) (i : ℕ) (z : ℤ) (k : ℕ) → natural sep l i ≡ Some (z, k) → number sep l i ≡ Some (z, k)
unfolding natural number
number-plain sep [] i z k e = e
number-plain sep (b ∷ t) i z k e = by (ℕ_discrete b 45)
  where
    by : Dec (b ≡ 45) → number sep (b ∷ t) i ≡ Some (z, k)
    by (yes q) = not-number z k (simp q at e)
    by (no q) = simp (ne_eqb b 45 q, e)

number-minus : (sep m : ℕ) (t : List ℕ) (i k : ℕ) → natural sep t (i + 1) ≡ Some (pos (suc m), k) → number sep (45 ∷ t) i ≡ Some (negsuc m, k)
unfolding number
number-minus sep m t i k e = simp (e, ne_eqb (suc m) 0 (λ q. omega arith))

pub read-decimal : (sep : ℕ) → sep < 45 → (z : ℤ) (t : List ℕ) (i : ℕ) → nat_abs z < 1000000000000000000 →
    number sep (decimal z ++ (sep ∷ t)) i ≡ Some (z, i + length (decimal z) + 1)
read-decimal sep hs (pos n) t i h = rw (decimal-natural n) (number-plain sep _ i (pos n) _ (read-natural sep (omega arith) n t i h))
read-decimal sep hs (negsuc n) t i h =
    let e : i + 1 + length (digits 20 (suc n)) + 1 ≡ i + suc (length (digits 20 (suc n))) + 1 = omega arith in
    rw (decimal-negative n) (number-minus sep n _ i _ (rw e at (read-natural sep (omega arith) (suc n) t (i + 1) h)))

-- the decimal text at a place of a longer text
pub read_at : (sep : ℕ) → sep < 45 → (s : List ℕ) (at : ℕ) (z : ℤ) (t : List ℕ) → nat_abs z < 1000000000000000000 →
    drop at s ≡ decimal z ++ (sep ∷ t) → number_at sep s at ≡ Some (z, at + length (decimal z) + 1)
read_at sep hs s at z t h e = simp e (read-decimal sep hs z t at h)

-- ---- lengths
pub digits-some : (f n : ℕ) → 0 < f → 0 < length (digits f n)
digits-some f n h = by (dec_lt n 10)
  where
    by : Dec (n < 10) → 0 < length (digits f n)
    by (yes k) = simp (digits-one f n h k) (omega arith)
    by (no k) = omega (arith, digits-longer f n h (omega arith))

pub digits-short : (k f n : ℕ) → n < 10 ^ suc k → length (digits f n) ≤ suc k
digits-short k zero n h = omega (arith, digits-fit 0 n)
digits-short zero (suc f) n h = simp (digits-one (suc f) n (omega arith) h) (omega arith)
digits-short (suc k) (suc f) n h = by (dec_lt n 10) (digits-short k f (n / 10))
  where
    by : Dec (n < 10) → (n / 10 < 10 ^ suc k → length (digits f (n / 10)) ≤ suc k) → length (digits (suc f) n) ≤ suc (suc k)
    by (yes q) ih = simp (digits-one (suc f) n (omega arith) q) (omega arith)
    by (no q) ih =
        let g : suc f - 1 ≡ f = omega arith in
        omega (arith, simp g at (digits-longer (suc f) n (omega arith) (omega arith)), ih (omega (arith, pow-suc 10 (suc k))))

pub decimal-some : (z : ℤ) → 0 < length (decimal z)
decimal-some (pos n) = rw (decimal-natural n) (digits-some 20 n (omega arith))
decimal-some (negsuc n) = rw (decimal-negative n) (omega arith)

-- a number that can be read takes at most 19 bytes, and one of 64 bits at most 20
pub decimal-short : (k : ℕ) (z : ℤ) → nat_abs z < 10 ^ suc k → length (decimal z) ≤ suc k + 1
decimal-short k (pos n) h = rw (decimal-natural n) (omega (arith, digits-short k 20 n h))
decimal-short k (negsuc n) h = rw (decimal-negative n) (omega (arith, digits-short k 20 (suc n) h))

pub decimal-19 : (z : ℤ) → nat_abs z < 1000000000000000000 → length (decimal z) ≤ 19
decimal-19 z h = decimal-short 17 z h

pub decimal-20 : (z : ℤ) → nat_abs z ≤ 9223372036854775808 → length (decimal z) ≤ 20
decimal-20 z h = decimal-short 18 z (omega arith)
