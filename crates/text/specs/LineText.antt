-- A line that was written is read back: its names, its numbers, and both as a row. Assumes nothing.
use Rattle.std.specs.Prelude.{List, [], ◌++◌, ◌∷◌, map, ◌≡◌, refl, ◌+◌, ◌<◌, suc, ℕ, ℤ, drop, length, Ok}
use Rattle.std.proofs.Common.{append_assoc, ◌∙◌, add_assoc, not-suc-le-zero, arith, length-append, ne_eqb}
use Rattle.answers.specs.declared.Refusal.{Refusal}
use Rattle.integers.specs.Lists.{All}
use Rattle.text.specs.LineLaws.{names-cons, names-none, numbers-cons, numbers-nil, row-good}
use Rattle.text.specs.Lines.{names, numbers, row}
use Rattle.text.specs.NameText.{read-name-at}
use Rattle.text.specs.NumberText.{behind, read_at}
use Rattle.text.specs.Text.{decimal, letters, line, Proper, Small}

pub line-more : (x : List ℕ) (l : List (List ℕ)) → 0 < length l → line (x ∷ l) ≡ x ++ (44 ∷ line l)
unfolding line
line-more x [] h = absurd (not-suc-le-zero h)
line-more x (y ∷ l) h = refl

pub line-last : (x : List ℕ) → line (x ∷ []) ≡ x ++ (10 ∷ [])
unfolding line
line-last x = refl

-- a field and its separator, in front of a rest that ends at q
behind-field : (at : ℕ) (d : List ℕ) (sep : ℕ) (m : List ℕ) → at + length d + 1 + length m ≡ at + length (d ++ (sep ∷ m))
behind-field at d sep m = simp length-append (omega arith)

pub numbers-of-line : (r : Refusal) (z : ℤ) (zs : List ℤ) → All Small (z ∷ zs) → (s : List ℕ) (at : ℕ) (t : List ℕ) →
    drop at s ≡ line (map decimal (z ∷ zs)) ++ t → numbers r (suc (length zs)) s at ≡ Ok (z ∷ zs, at + length (line (map decimal (z ∷ zs))))
numbers-of-line r z [] h s at t e =
    let d = decimal z in
    let p = at + length d + 1 in
    let f : drop at s ≡ d ++ (10 ∷ t) = e ∙ simp (line-last, append_assoc) in
    numbers-cons r 0 s at z p [] p (read_at 10 (omega arith) s at z t h.0 f) (numbers-nil r s p) ∙ simp (line-last, length-append, add_assoc)
numbers-of-line r z (y ∷ zs) h s at t e =
    let d = decimal z in
    let m = line (map decimal (y ∷ zs)) in
    let g : line (map decimal (z ∷ (y ∷ zs))) ≡ d ++ (44 ∷ m) = line-more d (map decimal (y ∷ zs)) (omega arith) in
    let f : drop at s ≡ d ++ (44 ∷ (m ++ t)) = e ∙ simp (g, append_assoc) in
    let p = at + length d + 1 in
    numbers-cons r (suc (length zs)) s at z p (y ∷ zs) (p + length m)
    (simp (ne_eqb (suc (length zs)) 0 (λ q. omega arith)) (read_at 44 (omega arith) s at z (m ++ t) h.0 f))
    (numbers-of-line r y zs h.1 s p t (behind 44 s at d (m ++ t) f))
    ∙ simp (g, ← behind-field at d 44 m)

-- the names in front of the other fields of a line, and what is left of it behind them
pub record Fronted (r : Refusal) (vs : List ℕ) (fields : List (List ℕ)) (s : List ℕ) (at : ℕ) (t : List ℕ) : Type 0 where
  pub place : ℕ
  pub named : names r (length vs) s at ≡ Ok (vs, place)
  pub left : drop place s ≡ line fields ++ t
  pub whole : place + length (line fields) ≡ at + length (line (map (letters 8) vs ++ fields))

pub names-of-line : (r : Refusal) (vs : List ℕ) (fields : List (List ℕ)) → 0 < length fields → All Proper vs → (s : List ℕ) (at : ℕ) (t : List ℕ) →
    drop at s ≡ line (map (letters 8) vs ++ fields) ++ t → Fronted r vs fields s at t
names-of-line r [] fields h a s at t e = record { place = at; named = names-none r s at; left = e; whole = refl }
names-of-line r (v ∷ vs) fields h a s at t e =
    let d = letters 8 v in
    let l = map (letters 8) vs ++ fields in
    let g : line (d ∷ l) ≡ d ++ (44 ∷ line l) = line-more d l (simp length-append (omega arith)) in
    let f : drop at s ≡ d ++ (44 ∷ (line l ++ t)) = e ∙ simp (g, append_assoc) in
    let p = at + length d + 1 in
    let i = names-of-line r vs fields h a.1 s p t (behind 44 s at d (line l ++ t) f) in
    record {
      place = i.place;
      named = names-cons r (length vs) s at v p vs i.place (read-name-at 44 refl s at v (line l ++ t) a.0 f) i.named;
      left = i.left;
      whole = i.whole ∙ behind-field at d 44 (line l) ∙ simp g;
    }

pub row-of-line : (r : Refusal) (vs : List ℕ) (z : ℤ) (zs : List ℤ) → All Proper vs → All Small (z ∷ zs) → (s : List ℕ) (at : ℕ) (t : List ℕ) →
    drop at s ≡ line (map (letters 8) vs ++ map decimal (z ∷ zs)) ++ t →
    row r (length vs) (suc (length zs)) s at
    ≡ Ok (record { words = vs; values = z ∷ zs }, at + length (line (map (letters 8) vs ++ map decimal (z ∷ zs))))
row-of-line r vs z zs a b s at t e =
    let i = names-of-line r vs (map decimal (z ∷ zs)) (omega arith) a s at t e in
    let n = numbers-of-line r z zs b s i.place t i.left in
    row-good r (length vs) (suc (length zs)) s at vs i.place (z ∷ zs) (i.place + length (line (map decimal (z ∷ zs)))) i.named n ∙ simp i.whole
