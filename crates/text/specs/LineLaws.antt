-- How the rows of Lines go on, field by field, and what the reader of a line's numbers leaves. Assumes nothing.
use Rattle.std.specs.Prelude.{false, true, List, [], ◌++◌, ◌∷◌, ◌≡◌, refl, ◌+◌, ◌-◌, ◌<◌, ◌≤◌, suc, zero, ℕ, eqb, ℤ, drop, length, Ok, Err, Option, Some, None}
use Rattle.std.proofs.Common.{append_assoc, append-nil, ◌∙◌, ap, sym, not-suc-le-zero, arith, length-append, length-drop, eq-eqb, eqb-true}
use Prim.Native.String.{String}
use Rattle.answers.specs.Answers.{Outcome, ◌>>=◌}
use Rattle.answers.specs.declared.Refusal.{Refusal}
use Rattle.integers.specs.Bools.{both, clash}
use Rattle.text.specs.Lines.{got, names, numbers, row, sep_of, text}
use Rattle.text.specs.Promises.{filled}
use Rattle.text.specs.Text.{begins, bytes, name_at, number_at, Placed}

-- ---- numbers
-- the values read so far, in front of those that come
abbrev pub in_front : List ℤ → Outcome (Placed (List ℤ)) → Outcome (Placed (List ℤ))
in_front l (Ok x) = Ok (l ++ x.0, x.1)
in_front l (Err r) = Err r

-- the number at the place, and then the others
abbrev pub on_number : Refusal → List ℤ → Option (ℤ × ℕ) → (ℕ → Outcome (Placed (List ℤ))) → Outcome (Placed (List ℤ))
on_number r l (Some (z, next)) k = in_front (l ++ (z ∷ [])) (k next)
on_number r l None k = Err r

front-none : (o : Outcome (Placed (List ℤ))) → in_front [] o ≡ o
front-none (Ok x) = refl
front-none (Err r) = refl

front-cons : (l : List ℤ) (z : ℤ) (o : Outcome (Placed (List ℤ))) → in_front l (o >>= λ x. Ok (z ∷ x.0, x.1)) ≡ in_front (l ++ (z ∷ [])) o
front-cons l z (Ok x) = ap (λ (y : List ℤ). Ok (y, x.1)) (sym (append_assoc l (z ∷ []) x.0))
front-cons l z (Err r) = refl

pub numbers-start : (r : Refusal) (n : ℕ) (s : List ℕ) (at : ℕ) → numbers r n s at ≡ in_front [] (numbers r n s at)
numbers-start r n s at = sym (front-none (numbers r n s at))

pub numbers-none : (r : Refusal) (s : List ℕ) (at : ℕ) (l : List ℤ) → in_front l (numbers r 0 s at) ≡ Ok (l, at)
unfolding numbers
numbers-none r s at l = simp append-nil

pub numbers_more : (r : Refusal) (n : ℕ) (s : List ℕ) (at : ℕ) (l : List ℤ) → 0 < n →
    in_front l (numbers r n s at) ≡ on_number r l (number_at (sep_of (n - 1)) s at) (numbers r (n - 1) s)
unfolding numbers
numbers_more r zero s at l h = absurd (not-suc-le-zero h)
numbers_more r (suc n) s at l h =
    let e : suc n - 1 ≡ n = omega arith in
    simp e (on (number_at (sep_of n) s at))
  where
    on : (x : Option (ℤ × ℕ)) → in_front l (got r x >>= λ y. numbers r n s y.1 >>= λ w. Ok (y.0 ∷ w.0, w.1)) ≡ on_number r l x (numbers r n s)
    on (Some (z, next)) = front-cons l z (numbers r n s next)
    on None = refl

-- ---- names, and a row of both
pub names-none : (r : Refusal) (s : List ℕ) (at : ℕ) → names r 0 s at ≡ Ok ([], at)
unfolding names
names-none r s at = refl

pub names-cons : (r : Refusal) (m : ℕ) (s : List ℕ) (at v p : ℕ) (vs : List ℕ) (q : ℕ) → name_at 44 s at ≡ Some (v, p) → names r m s p ≡ Ok (vs, q) →
    names r (suc m) s at ≡ Ok (v ∷ vs, q)
unfolding names
names-cons r m s at v p vs q e f = simp (e, f)

-- refused at a later name, and at this one
pub names-late : (r : Refusal) (m : ℕ) (s : List ℕ) (at v p : ℕ) → name_at 44 s at ≡ Some (v, p) → names r m s p ≡ Err r → names r (suc m) s at ≡ Err r
unfolding names
names-late r m s at v p e f = simp (e, f)

pub names-stop : (r : Refusal) (m : ℕ) (s : List ℕ) (at : ℕ) → name_at 44 s at ≡ None → names r (suc m) s at ≡ Err r
unfolding names
names-stop r m s at e = simp e

pub numbers-nil : (r : Refusal) (s : List ℕ) (at : ℕ) → numbers r 0 s at ≡ Ok ([], at)
unfolding numbers
numbers-nil r s at = refl

pub numbers-cons : (r : Refusal) (n : ℕ) (s : List ℕ) (at : ℕ) (z : ℤ) (p : ℕ) (zs : List ℤ) (q : ℕ) →
    number_at (sep_of n) s at ≡ Some (z, p) → numbers r n s p ≡ Ok (zs, q) → numbers r (suc n) s at ≡ Ok (z ∷ zs, q)
unfolding numbers
numbers-cons r n s at z p zs q e f = simp (e, f)

-- what the reader of numbers says, by its answer
pub filled-good : (o : Outcome (Placed (List ℤ))) (r : Refusal) (x : Option ℕ) (values : List ℤ) (next : ℕ) → o ≡ filled r x values → x ≡ Some next → o ≡ Ok (values, next)
filled-good o r x values next e f = e ∙ simp f

pub filled-bad : (o : Outcome (Placed (List ℤ))) (r : Refusal) (x : Option ℕ) (values : List ℤ) → o ≡ filled r x values → x ≡ None → o ≡ Err r
filled-bad o r x values e f = e ∙ simp f

-- a row of names and numbers, and one that is refused at a number, and at a name
pub row-good : (r : Refusal) (m n : ℕ) (s : List ℕ) (at : ℕ) (ws : List ℕ) (p : ℕ) (zs : List ℤ) (q : ℕ) →
    names r m s at ≡ Ok (ws, p) → numbers r n s p ≡ Ok (zs, q) → row r m n s at ≡ Ok (record { words = ws; values = zs }, q)
unfolding row
row-good r m n s at ws p zs q e f = simp (e, f)

pub row-late : (r : Refusal) (m n : ℕ) (s : List ℕ) (at : ℕ) (ws : List ℕ) (p : ℕ) →
    names r m s at ≡ Ok (ws, p) → numbers r n s p ≡ Err r → row r m n s at ≡ Err r
unfolding row
row-late r m n s at ws p e f = simp (e, f)

pub row-stop : (r : Refusal) (m n : ℕ) (s : List ℕ) (at : ℕ) → names r m s at ≡ Err r → row r m n s at ≡ Err r
unfolding row
row-stop r m n s at e = simp e

-- ---- a text that has to stand at a place
pub text-stands : (r : Refusal) (w : String) (s : List ℕ) (at : ℕ) → begins (bytes w) (drop at s) ≡ true → text r w s at ≡ Ok (at + length (bytes w))
unfolding text
text-stands r w s at e = simp e

pub text-missing : (r : Refusal) (w : String) (s : List ℕ) (at : ℕ) → begins (bytes w) (drop at s) ≡ false → text r w s at ≡ Err r
unfolding text
text-missing r w s at e = simp e

pub begins-append : (w t : List ℕ) → begins w (w ++ t) ≡ true
unfolding begins
begins-append [] t = refl
begins-append (b ∷ w) t = simp (eq-eqb b b refl) (begins-append w t)

pub begins-split : (w l : List ℕ) → begins w l ≡ true → l ≡ w ++ drop (length w) l
unfolding begins
begins-split [] l e = refl
begins-split (b ∷ w) [] e = clash true refl (sym e)
begins-split (b ∷ w) (a ∷ l) e =
    let h = both (eqb b a) (begins w l) e in
    let k : b ≡ a = eqb-true b a h.0 in
    simp (sym k) (ap (λ (y : List ℕ). b ∷ y) (begins-split w l h.1))

-- the place behind it lies in the text
pub begins-within : (w s : List ℕ) (at : ℕ) → 0 < length w → begins w (drop at s) ≡ true → at + length w ≤ length s
begins-within w s at h e =
    let k = simp length-append at (ap length (begins-split w (drop at s) e)) in
    omega (arith, length-drop at s, k)
