-- The lines of a file are lines: LF is the last byte of each and no other, and a row does not begin with it. Assumes nothing.
use Rattle.std.specs.Prelude.{Bool, cond, false, true, List, [], ◌++◌, ◌∷◌, map, ◌≡◌, refl, ◌%◌, ◌+◌, ◌/◌, ◌<◌, suc, zero, ℕ, eqb, ltb, nat_abs, pos, ℤ, get_or, length, take}
use Rattle.std.proofs.Common.{append_assoc, ◌∙◌, ap, subst, sym, arith, ne_eqb}
use Prim.Native.String.{String}
use Rattle.std.specs.Int.Signed.{lt_z}
use Rattle.feeder.specs.File.{branch_names, line_feeds, load_names, source_names}
use Rattle.feeder.specs.FirstLines.{Ended, OneLine, ended-append, ended-none, feeds-append, one_line}
use Rattle.integers.specs.Lists.{All}
use Rattle.text.specs.LineText.{line-last, line-more}
use Rattle.text.specs.Lines.{Row, row_text, Readable}
use Rattle.text.specs.NameText.{letter-range, letters-some}
use Rattle.text.specs.Text.{bytes, decimal, digits, joined, letter, letters, line, Proper}

-- ---- lines that are given word for word
text-line : (w : String) (n : ℕ) → bytes w ≡ take n (bytes w) ++ (10 ∷ []) → line_feeds (take n (bytes w)) ≡ 0 → OneLine (bytes w)
text-line w n e h = subst OneLine (sym e) (one_line (take n (bytes w)) h)

pub source-names : OneLine (bytes source_names)
unfolding bytes line_feeds
source-names = text-line source_names 53 refl refl

pub branch-names : OneLine (bytes branch_names)
unfolding bytes line_feeds
branch-names = text-line branch_names 58 refl refl

pub load-names : OneLine (bytes load_names)
unfolding bytes line_feeds
load-names = text-line load_names 22 refl refl

pub empty-line : OneLine (bytes "\n")
unfolding bytes line_feeds
empty-line = text-line "\n" 0 refl refl

-- ---- a row: neither a name nor a number has an LF in it
letters-plain : (d : List ℕ) → All (λ b. letter b ≡ true) d → line_feeds d ≡ 0
unfolding line_feeds
letters-plain [] a = refl
letters-plain (b ∷ d) a = let n : eqb b 10 ≡ false = ne_eqb b 10 (λ q. omega (arith, letter-range b a.0)) in rw n (omega (arith, letters-plain d a.1))

digits-plain : (f n : ℕ) → line_feeds (digits f n) ≡ 0
unfolding line_feeds digits
digits-plain zero n = refl
digits-plain (suc f) n = by (ltb n 10) (digits-plain f (n / 10))
  where
    last : eqb (48 + n % 10) 10 ≡ false
    last = ne_eqb (48 + n % 10) 10 (λ q. omega arith)

    by : (c : Bool) → line_feeds (digits f (n / 10)) ≡ 0 → line_feeds (cond c [] (digits f (n / 10)) ++ ((48 + n % 10) ∷ [])) ≡ 0
    by true h = rw last
    by false h = rw (feeds-append, h, last)

decimal-plain : (z : ℤ) → line_feeds (decimal z) ≡ 0
unfolding line_feeds decimal
decimal-plain z = by (lt_z z (pos 0))
  where
    by : (c : Bool) → line_feeds (cond c (45 ∷ []) [] ++ digits 20 (nat_abs z)) ≡ 0
    by true = rw (digits-plain 20 (nat_abs z))
    by false = digits-plain 20 (nat_abs z)

record Fronted (l : List (List ℕ)) : Type 0 where
  front : List ℕ
  plain : line_feeds front ≡ 0
  whole : line l ≡ front ++ (10 ∷ [])

fronted : (l : List (List ℕ)) → All (λ d. line_feeds d ≡ 0) l → Fronted l
unfolding line line_feeds
fronted [] a = record { front = []; plain = refl; whole = refl }
fronted (x ∷ []) a = record { front = x; plain = a.0; whole = refl }
fronted (x ∷ (y ∷ l)) a =
    let h = fronted (y ∷ l) a.1 in
    record {
      front = x ++ (44 ∷ h.front);
      plain = feeds-append x (44 ∷ h.front) ∙ omega (arith, a.0, h.plain);
      whole = ap (λ (z : List ℕ). x ++ (44 ∷ z)) h.whole ∙ sym (append_assoc x (44 ∷ h.front) (10 ∷ []));
    }

fields-plain : (ws : List ℕ) (zs : List ℤ) → All Proper ws → All (λ d. line_feeds d ≡ 0) (map (letters 8) ws ++ map decimal zs)
fields-plain [] [] a = tt
fields-plain [] (z ∷ zs) a = (decimal-plain z, fields-plain [] zs a)
fields-plain (w ∷ ws) zs a = (letters-plain (letters 8 w) a.0.made, fields-plain ws zs a.1)

pub row_line : (m n : ℕ) (x : Row) → Readable m n x → OneLine (row_text x)
unfolding row_text
row_line m n x h = let f = fronted (map (letters 8) x.words ++ map decimal x.values) (fields-plain x.words x.values h.proper) in
    subst OneLine (sym f.whole) (one_line f.front f.plain)

-- and does not begin with LF
pub row_first : (m n : ℕ) (x : Row) → Readable (suc m) n x → (t : List ℕ) → eqb (get_or (row_text x ++ t) 0 0) 10 ≡ false
unfolding row_text
row_first m n x h t = go x.words h.proper h.words_are
  where
    begun : (d u : List ℕ) → 0 < length d → All (λ b. letter b ≡ true) d → eqb (get_or (d ++ u) 0 0) 10 ≡ false
    begun [] u p a = absurd (omega arith)
    begun (b ∷ d) u p a = ne_eqb b 10 (λ q. omega (arith, letter-range b a.0))

    line_first : (d : List ℕ) (l : List (List ℕ)) → 0 < length d → All (λ b. letter b ≡ true) d → eqb (get_or (line (d ∷ l) ++ t) 0 0) 10 ≡ false
    line_first d [] p a = rw (line-last, append_assoc) (begun d (10 ∷ t) p a)
    line_first d (e ∷ l) p a = let z : line (d ∷ (e ∷ l)) ≡ d ++ (44 ∷ line (e ∷ l)) = line-more d (e ∷ l) (omega arith) in rw (z, append_assoc) (begun d (44 ∷ line (e ∷ l) ++ t) p a)

    go : (ws : List ℕ) → All Proper ws → length ws ≡ suc m → eqb (get_or (line (map (letters 8) ws ++ map decimal x.values) ++ t) 0 0) 10 ≡ false
    go [] a q = absurd (omega arith)
    go (v ∷ ws) a q = line_first (letters 8 v) (map (letters 8) ws ++ map decimal x.values) (letters-some 8 v (omega arith) a.0.some) a.0.made

-- ---- lines one behind the other: rows, and a table of them with its names before and an empty line behind
pub lines-many : {X : Type 0} (written : X → List ℕ) (l : List X) → All (λ y. OneLine (written y)) l → Ended (joined written l) × (line_feeds (joined written l) ≡ length l)
unfolding joined line_feeds
lines-many written [] a = (ended-none, refl)
lines-many written (x ∷ l) a =
    let k = lines-many written l a.1 in
    (ended-append (written x) (joined written l) a.0.ended k.0, feeds-append (written x) (joined written l) ∙ omega (arith, a.0.one, k.1))

pub table-lines : (names rows : List ℕ) → OneLine names → Ended rows → Ended (names ++ (rows ++ bytes "\n")) × (line_feeds (names ++ (rows ++ bytes "\n")) ≡ line_feeds rows + 2)
table-lines names rows one e = (
  ended-append names (rows ++ bytes "\n") one.ended (ended-append rows (bytes "\n") e empty-line.ended),
  omega (arith, feeds-append names (rows ++ bytes "\n"), feeds-append rows (bytes "\n"), one.one, empty-line.one),
)
