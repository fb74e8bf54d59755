-- The lines of a text: its first lines begin it, and texts whose lines are all ended lie one behind the other. Assumes nothing.
use Rattle.std.specs.Prelude.{Bool, cond, false, true, List, [], ◌++◌, ◌∷◌, ◌≡◌, refl, ◌+◌, ◌<◌, ◌≤◌, suc, zero, ℕ, eqb, get_or, length}
use Rattle.std.proofs.Common.{append_assoc, append-nil, ◌∙◌, ap, sym, arith}
use Rattle.feeder.specs.File.{first_lines, line_feeds}

pub feeds-append : (a b : List ℕ) → line_feeds (a ++ b) ≡ line_feeds a + line_feeds b
unfolding line_feeds
feeds-append [] b = omega arith
feeds-append (x ∷ a) b = let h = feeds-append a b in omega arith

-- ---- the first lines of a text begin it
pub first-none : (s : List ℕ) → first_lines 0 s ≡ []
unfolding first_lines
first-none [] = refl
first-none (b ∷ s) = refl

pub first-begins : (n : ℕ) (s : List ℕ) → (rest : List ℕ) × (s ≡ first_lines n s ++ rest)
unfolding first_lines
first-begins n [] = ([], refl)
first-begins zero (b ∷ s) = (b ∷ s, refl)
first-begins (suc n) (b ∷ s) = let h = first-begins (cond (eqb b 10) n (suc n)) s in (h.0, ap (λ (y : List ℕ). b ∷ y) h.1)

-- and fewer of them begin more of them
pub first-fewer : (n m : ℕ) (s : List ℕ) → n ≤ m → first_lines n (first_lines m s) ≡ first_lines n s
unfolding first_lines
first-fewer n m [] h = refl
first-fewer zero zero (b ∷ s) h = refl
first-fewer zero (suc m) (b ∷ s) h = refl
first-fewer (suc n) zero (b ∷ s) h = absurd (omega arith)
first-fewer (suc n) (suc m) (b ∷ s) h = ap (λ (y : List ℕ). b ∷ y) (by (eqb b 10) (first-fewer (cond (eqb b 10) n (suc n)) (cond (eqb b 10) m (suc m)) s))
  where
    by : (c : Bool) → (cond c n (suc n) ≤ cond c m (suc m) → first_lines (cond c n (suc n)) (first_lines (cond c m (suc m)) s) ≡ first_lines (cond c n (suc n)) s)
        → first_lines (cond c n (suc n)) (first_lines (cond c m (suc m)) s) ≡ first_lines (cond c n (suc n)) s
    by true k = k (omega arith)
    by false k = k (omega arith)

-- a text has no more lines than it has LF, and one that is not ended
pub first-all : (n : ℕ) (s : List ℕ) → line_feeds s < n → first_lines n s ≡ s
unfolding first_lines line_feeds
first-all n [] h = refl
first-all zero (b ∷ s) h = absurd (omega arith)
first-all (suc n) (b ∷ s) h = ap (λ (y : List ℕ). b ∷ y) (by (eqb b 10) h (first-all (cond (eqb b 10) n (suc n)) s))
  where
    by : (c : Bool) → cond c 1 0 + line_feeds s < suc n → (line_feeds s < cond c n (suc n) → first_lines (cond c n (suc n)) s ≡ s) → first_lines (cond c n (suc n)) s ≡ s
    by true h k = k (omega arith)
    by false h k = k (omega arith)

-- what stands behind an ended line does not change it
pub first-kept : (u w : List ℕ) → 0 < line_feeds u → first_lines 1 (first_lines 1 u ++ w) ≡ first_lines 1 u
unfolding first_lines line_feeds
first-kept [] w h = absurd (omega arith)
first-kept (b ∷ u) w h = ap (λ (y : List ℕ). b ∷ y) (by (eqb b 10) h (first-kept u w))
  where
    by : (c : Bool) → 0 < cond c 1 0 + line_feeds u → (0 < line_feeds u → first_lines 1 (first_lines 1 u ++ w) ≡ first_lines 1 u)
        → first_lines (cond c 0 1) (first_lines (cond c 0 1) u ++ w) ≡ first_lines (cond c 0 1) u
    by true h k = first-none (first_lines 0 u ++ w) ∙ sym (first-none u)
    by false h k = k (omega arith)

-- ---- a text whose lines are all ended
abbrev pub Ended : List ℕ → Type 0
Ended a = (m : ℕ) (u : List ℕ) → first_lines (m + line_feeds a) (a ++ u) ≡ a ++ first_lines m u

pub ended-none : Ended []
unfolding line_feeds
ended-none m u = let e : m + 0 ≡ m = omega arith in rw e

pub ended-append : (a b : List ℕ) → Ended a → Ended b → Ended (a ++ b)
ended-append a b h k m u =
    let e : m + line_feeds (a ++ b) ≡ m + line_feeds b + line_feeds a = omega (arith, feeds-append a b) in
    rw (e, append_assoc) (h (m + line_feeds b) (b ++ u) ∙ ap (λ (y : List ℕ). a ++ y) (k m u) ∙ sym (append_assoc a b (first_lines m u)))

pub ended-whole : (a u : List ℕ) → Ended a → first_lines (line_feeds a) (a ++ u) ≡ a
ended-whole a u h = let e : 0 + line_feeds a ≡ line_feeds a = omega arith in (rw e at (h 0 u)) ∙ ap (λ (y : List ℕ). a ++ y) (first-none u) ∙ append-nil a

-- ---- just one line: LF is its last byte, and no other
pub record OneLine (a : List ℕ) : Type 0 where
  pub ended : Ended a
  pub one : line_feeds a ≡ 1

pub one_line : (d : List ℕ) → line_feeds d ≡ 0 → OneLine (d ++ (10 ∷ []))
unfolding line_feeds first_lines
one_line [] h = record { ended = λ m u. let e : m + 1 ≡ suc m = omega arith in rw e; one = refl }
one_line (b ∷ d) h = by (eqb b 10) refl h (one_line d)
  where
    by : (c : Bool) → eqb b 10 ≡ c → cond c 1 0 + line_feeds d ≡ 0 → (line_feeds d ≡ 0 → OneLine (d ++ (10 ∷ []))) → OneLine (b ∷ (d ++ (10 ∷ [])))
    by true e h k = absurd (omega arith)
    by false e h k =
        let l = k (omega arith) in
        record {
          ended = λ m u.
              let z : m + (cond (eqb b 10) 1 0 + line_feeds (d ++ (10 ∷ []))) ≡ suc m = rw e (omega (arith, l.one)) in
              let y : m + line_feeds (d ++ (10 ∷ [])) ≡ suc m = omega (arith, l.one) in
              rw (z, e) (ap (λ (y : List ℕ). b ∷ y) (rw y at (l.ended m u)));
          one = rw e (omega (arith, l.one));
        }

pub one-some : (a : List ℕ) → OneLine a → 0 < length a
unfolding line_feeds
one-some [] h = absurd (omega (arith, h.one))
one-some (b ∷ a) h = omega arith

-- ---- two texts that begin with the same line, which is ended
pub record SameLine (u t : List ℕ) : Type 0 where
  pub ended : 0 < line_feeds u
  pub same : first_lines 1 u ≡ first_lines 1 t

-- what is left of the one begins with it, where it begins the other
pub same-begins : (a u w : List ℕ) → OneLine a → SameLine u (a ++ w) → (rest : List ℕ) × (u ≡ a ++ rest)
same-begins a u w h q =
    let e : first_lines 1 (a ++ w) ≡ a = rw h.one at (ended-whole a w h.ended) in
    let b = first-begins 1 u in
    (b.0, b.1 ∙ ap (λ (y : List ℕ). y ++ b.0) (q.same ∙ e))

-- and so is its first byte
pub same_first : (u t : List ℕ) → SameLine u t → get_or u 0 0 ≡ get_or t 0 0
unfolding first_lines line_feeds
same_first [] t q = absurd (omega (arith, q.ended))
same_first (b ∷ u) [] q = cc
same_first (b ∷ u) (c ∷ t) q = cc

pub same_some : (u t : List ℕ) → SameLine u t → 0 < length t
unfolding first_lines line_feeds
same_some [] t q = absurd (omega (arith, q.ended))
same_some (b ∷ u) [] q = absurd (omega (arith, ap length q.same))
same_some (b ∷ u) (c ∷ t) q = omega arith
