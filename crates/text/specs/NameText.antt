-- Names as text, both ways: what is read as a name is the letters of its number, and the letters of such a number are read as it. Assumes nothing.
use Rattle.std.specs.Prelude.{Bool, ◌&&◌, cond, false, true, List, [], ◌++◌, ◌∷◌, ◌≡◌, refl, ◌%◌, ◌*◌, ◌+◌, ◌-◌, ◌/◌, ◌<◌, ◌^◌, ◌≤◌, suc, zero, ℕ, leb, ltb, drop, length, Option, Some, None}
use Rattle.std.proofs.Common.{append_assoc, append-nil, ◌∙◌, ap, subst, sym, add_assoc, add-zero, pow-suc, add-one, arith, length-append, eq-eqb, le-ltb, leb-true, lt-ltb, ltb-true, ne_eqb}
use Rattle.std.proofs.Math.Decide.{dec_lt, ℕ_discrete}
use Rattle.std.proofs.Math.Nat.{pow-le-pow_right}
use Rattle.integers.specs.Bools.{both, clash}
use Rattle.integers.specs.Lists.{All}
use Rattle.text.specs.NumberText.{Stands, stands-past}
use Rattle.text.specs.Text.{Placed, letter, letters, name, name_at, pack, Proper}
use Rattle.text.specs.TextLaws.{same-placed, letters-fit, letters-longer, letters-more, letters-none, letters-zero}

no_name : {X : Type 0} (w n : ℕ) → ◌≡◌ {A = Option (Placed ℕ)} None (Some (w, n)) → X
no_name w n e = let z : ◌≡◌ {A = ℕ} 0 1 = cc in absurd (omega arith)

letters-snoc : (f v b : ℕ) → 0 < b → b < 256 → letters (suc f) (v * 256 + b) ≡ letters f v ++ (b ∷ [])
unfolding letters
letters-snoc f v b h k =
    let d : (v * 256 + b) / 256 ≡ v = omega arith in
    let m : (v * 256 + b) % 256 ≡ b = omega arith in
    simp (ne_eqb (v * 256 + b) 0 (λ q. omega arith), d, m)

pub letter-range : (b : ℕ) → letter b ≡ true → (48 ≤ b) × (b ≤ 90)
letter-range b e = by (dec_lt b 58)
  where
    by : Dec (b < 58) → (48 ≤ b) × (b ≤ 90)
    by (yes h) = omega (arith, leb-true 48 b (simp (lt-ltb b 58 h) at e))
    by (no h) =
        let k : 58 ≤ b = omega arith in
        let r = both (leb 65 b) (leb b 90) (simp (le-ltb b 58 k) at e) in
        omega (arith, leb-true b 90 r.1)

below : {v : ℕ} (k : ℕ) → 256 ^ k ≤ v * 256 + 1 → v < 72057594037927936 → k < 8
below {v} k p u = by (dec_lt k 8)
  where
    by : Dec (k < 8) → k < 8
    by (yes h) = h
    by (no h) = let g : 8 ≤ k = omega arith in omega (arith, pow-le-pow_right {n = 256} (omega arith) g)

-- w was read where v had been read before it, of k letters: text has the letters behind v's
record Spelled (sep : ℕ) (l : List ℕ) (i v k w n : ℕ) : Type 0 where
  some : 0 < w
  fits : w < 18446744073709551616
  text : List ℕ
  made : All (λ b. letter b ≡ true) text
  rest : List ℕ
  stands : l ≡ text ++ (sep ∷ rest)
  short : k + length text ≤ 8
  next : n ≡ i + length text + 1
  spells : (f : ℕ) → letters (f + length text) w ≡ letters f v ++ text

spelled : (sep : ℕ) (l : List ℕ) (i v k w n : ℕ) → v < 18446744073709551616 → 256 ^ k ≤ v * 256 + 1 → k ≤ 8 →
    name sep l i v ≡ Some (w, n) → Spelled sep l i v k w n
unfolding name
spelled sep [] i v k w n h p q e = no_name w n e
spelled sep (b ∷ s) i v k w n h p q e = by (ℕ_discrete b sep) (ℕ_discrete v 0) (spelled sep s (i + 1) (v * 256 + b) (k + 1) w n)
  where
    go : ℕ → Type 0
    go u = u < 18446744073709551616 → 256 ^ (k + 1) ≤ u * 256 + 1 → k + 1 ≤ 8 → name sep s (i + 1) u ≡ Some (w, n) → Spelled sep s (i + 1) u (k + 1) w n

    on : (t : Bool) → (letter b && ltb v 72057594037927936) ≡ t →
        cond t (name sep s (i + 1) (v * 256 + b)) None ≡ Some (w, n) → go (v * 256 + b) → Spelled sep (b ∷ s) i v k w n
    on true t g ih =
        let a = both (letter b) (ltb v 72057594037927936) t in
        let r = letter-range b a.0 in
        let u : v < 72057594037927936 = ltb-true v 72057594037927936 a.1 in
        let k8 : k < 8 = below k p u in
        let up : 256 ^ (k + 1) ≡ 256 ^ k * 256 = simp add-one (pow-suc 256 k) in
        let m = ih (omega (arith, r)) (omega (arith, r)) (omega arith) g in
        record {
          some = m.some;
          fits = m.fits;
          text = b ∷ m.text;
          made = (a.0, m.made);
          rest = m.rest;
          stands = ap (λ (l : List ℕ). b ∷ l) m.stands;
          short = omega (arith, m.short);
          next = omega (arith, m.next);
          spells = λ f.
              let c : f + suc (length m.text) ≡ suc f + length m.text = omega arith in
              simp c (m.spells (suc f) ∙ simp (letters-snoc f v b (omega (arith, r)) (omega (arith, r)), append_assoc));
        }
    on false t g ih = no_name w n g

    by : Dec (b ≡ sep) → Dec (v ≡ 0) → go (v * 256 + b) → Spelled sep (b ∷ s) i v k w n
    by (yes x) (yes y) ih = no_name w n (simp (eq-eqb b sep x, eq-eqb v 0 y) at e)
    by (yes x) (no y) ih =
        let g : ◌≡◌ {A = Option (Placed ℕ)} (Some (v, i + 1)) (Some (w, n)) = simp (eq-eqb b sep x, ne_eqb v 0 y) at e in
        let c : v ≡ w = (same-placed g).0 in
        let d : i + 1 ≡ n = (same-placed g).1 in
        record {
          some = omega arith;
          fits = omega arith;
          text = [];
          made = tt;
          rest = s;
          stands = simp x;
          short = omega arith;
          next = omega arith;
          spells = λ f. simp (add-zero, append-nil, c);
        }
    by (no x) y ih = on (letter b && ltb v 72057594037927936) refl (simp (ne_eqb b sep x) at e) ih

-- a name that was read is a name, and stands there as its number spells it
pub record Named (sep : ℕ) (l : List ℕ) (i v n : ℕ) : Type 0 where
  pub proper : Proper v
  pub field : Stands sep l i (letters 8 v) n

pub name-stands : (sep : ℕ) (l : List ℕ) (i v n : ℕ) → name sep l i 0 ≡ Some (v, n) → Named sep l i v n
name-stands sep l i v n e =
    let m = spelled sep l i 0 0 v n (omega arith) (omega arith) (omega arith) e in
    let f : 8 - length m.text + length m.text ≡ 8 = omega (arith, m.short) in
    let t : letters 8 v ≡ m.text = simp (letters-zero, f) at (m.spells (8 - length m.text)) in
    record {
      proper = record { some = m.some; fits = m.fits; made = subst (All (λ b. letter b ≡ true)) (sym t) m.made };
      field = record { rest = m.rest; stands = m.stands ∙ simp t; next = omega (arith, m.next, ap length t) };
    }

pub name-past : (sep : ℕ) (s : List ℕ) (at v n : ℕ) → name_at sep s at ≡ Some (v, n) → (at < n) × (n ≤ length s)
name-past sep s at v n e = stands-past sep s at (letters 8 v) n (name-stands sep (drop at s) at v n e).field

-- ---- from the text to the reading
name-letter : (sep b : ℕ) (t : List ℕ) (i v : ℕ) → letter sep ≡ false → letter b ≡ true → v < 72057594037927936 →
    name sep (b ∷ t) i v ≡ name sep t (i + 1) (v * 256 + b)
unfolding name
name-letter sep b t i v hs hb hv =
    simp (ne_eqb b sep (λ q. clash (letter b) hb (ap letter q ∙ hs)), hb, lt-ltb v 72057594037927936 hv)

name-sep : (sep : ℕ) (t : List ℕ) (i v : ℕ) → 0 < v → name sep (sep ∷ t) i v ≡ Some (v, i + 1)
unfolding name
name-sep sep t i v h = simp (eq-eqb sep sep refl, ne_eqb v 0 (λ q. omega arith))

all-front : {X : Type 0} (P : X → Type 0) (l m : List X) → All P (l ++ m) → All P l × All P m
all-front P [] m h = (tt, h)
all-front P (x ∷ l) m h = let r = all-front P l m h.1 in ((h.0, r.0), r.1)

read_all : (sep : ℕ) → letter sep ≡ false → (f v : ℕ) (t : List ℕ) (i : ℕ) → v < 256 ^ f → v < 18446744073709551616 → All (λ b. letter b ≡ true) (letters f v) →
    name sep (letters f v ++ t) i 0 ≡ name sep t (i + length (letters f v)) v
read_all sep hs zero v t i hf hv a =
    let e : v ≡ 0 = omega arith in
    simp (letters-none, add-zero, e)
read_all sep hs (suc f) v t i hf hv a = by (ℕ_discrete v 0) (read_all sep hs f (v / 256))
  where
    by : Dec (v ≡ 0) →
        ((u : List ℕ) (j : ℕ) → v / 256 < 256 ^ f → v / 256 < 18446744073709551616 → All (λ b. letter b ≡ true) (letters f (v / 256)) →
        name sep (letters f (v / 256) ++ u) j 0 ≡ name sep u (j + length (letters f (v / 256))) (v / 256)) →
        name sep (letters (suc f) v ++ t) i 0 ≡ name sep t (i + length (letters (suc f) v)) v
    by (yes q) ih = simp (q, letters-zero, add-zero)
    by (no q) ih =
        let g : suc f - 1 ≡ f = omega arith in
        let m : letters (suc f) v ≡ letters f (v / 256) ++ (v % 256 ∷ []) = letters-more (suc f) v (omega arith) q ∙ simp g in
        let p = all-front (λ b. letter b ≡ true) (letters f (v / 256)) (v % 256 ∷ []) (subst (All (λ b. letter b ≡ true)) m a) in
        let e : v / 256 * 256 + v % 256 ≡ v = omega arith in
        simp (m, append_assoc, length-append)
        (ih (v % 256 ∷ t) i (omega (arith, pow-suc 256 f)) (omega arith) p.0
        ∙ name-letter sep (v % 256) t _ (v / 256) hs p.1.0 (omega arith)
        ∙ simp (e, add_assoc))

pub read_letters : (sep : ℕ) → letter sep ≡ false → (v : ℕ) (t : List ℕ) (i : ℕ) → Proper v →
    name sep (letters 8 v ++ (sep ∷ t)) i 0 ≡ Some (v, i + length (letters 8 v) + 1)
read_letters sep hs v t i p =
    read_all sep hs 8 v (sep ∷ t) i p.fits p.fits p.made ∙ name-sep sep t (i + length (letters 8 v)) v p.some

-- the letters at a place of a longer text
pub read-name-at : (sep : ℕ) → letter sep ≡ false → (s : List ℕ) (at v : ℕ) (t : List ℕ) → Proper v →
    drop at s ≡ letters 8 v ++ (sep ∷ t) → name_at sep s at ≡ Some (v, at + length (letters 8 v) + 1)
read-name-at sep hs s at v t p e = simp e (read_letters sep hs v t at p)

-- ---- packing is one to one
pub pack-append : (v : ℕ) (l m : List ℕ) → pack v (l ++ m) ≡ pack (pack v l) m
unfolding pack
pack-append v [] m = refl
pack-append v (b ∷ l) m = pack-append (v * 256 + b) l m

pack_one : (v b : ℕ) → pack v (b ∷ []) ≡ v * 256 + b
unfolding pack
pack_one v b = refl

pack-all : (f v : ℕ) → v < 256 ^ f → pack 0 (letters f v) ≡ v
unfolding pack
pack-all zero v h = let e : 0 ≡ v = omega arith in simp letters-none e
pack-all (suc f) v h = by (ℕ_discrete v 0) (pack-all f (v / 256))
  where
    by : Dec (v ≡ 0) → (v / 256 < 256 ^ f → pack 0 (letters f (v / 256)) ≡ v / 256) → pack 0 (letters (suc f) v) ≡ v
    by (yes q) ih = simp (q, letters-zero)
    by (no q) ih =
        let g : suc f - 1 ≡ f = omega arith in
        let e : v / 256 * 256 + v % 256 ≡ v = omega arith in
        let m : letters (suc f) v ≡ letters f (v / 256) ++ (v % 256 ∷ []) = letters-more (suc f) v (omega arith) q ∙ simp g in
        ap (pack 0) m
        ∙ pack-append 0 (letters f (v / 256)) (v % 256 ∷ [])
        ∙ ap (λ (n : ℕ). pack n (v % 256 ∷ [])) (ih (omega (arith, pow-suc 256 f))) ∙ pack_one (v / 256) (v % 256) ∙ e

-- the number of the letters of v is v, so two numbers with the same letters are one
pub pack-letters : (v : ℕ) → v < 18446744073709551616 → pack 0 (letters 8 v) ≡ v
pack-letters v h = pack-all 8 v h

pub letters-differ : (v w : ℕ) → v < 18446744073709551616 → w < 18446744073709551616 → letters 8 v ≡ letters 8 w → v ≡ w
letters-differ v w h k e = sym (pack-letters v h) ∙ ap (pack 0) e ∙ pack-letters w k

-- and the letters of the number of a word are the word
letters-behind : (f v : ℕ) (l : List ℕ) → All (λ b. letter b ≡ true) l → letters (f + length l) (pack v l) ≡ letters f v ++ l
unfolding pack
letters-behind f v [] a = simp (add-zero, append-nil)
letters-behind f v (b ∷ l) a =
    let r = letter-range b a.0 in
    let c : f + suc (length l) ≡ suc f + length l = omega arith in
    simp c (letters-behind (suc f) (v * 256 + b) l a.1 ∙ simp (letters-snoc f v b (omega (arith, r)) (omega (arith, r)), append_assoc))

pub letters-pack : (l : List ℕ) → length l ≤ 8 → All (λ b. letter b ≡ true) l → letters 8 (pack 0 l) ≡ l
letters-pack l h a =
    let f : 8 - length l + length l ≡ 8 = omega arith in
    simp (letters-zero, f) at (letters-behind (8 - length l) 0 l a)

-- a name takes 1 to 8 bytes
pub letters-some : (f v : ℕ) → 0 < f → 0 < v → 0 < length (letters f v)
letters-some f v h k = omega (arith, letters-longer f v h (λ q. omega arith))

pub letters-8 : (v : ℕ) → length (letters 8 v) ≤ 8
letters-8 v = letters-fit 8 v
