-- The test of "Proved in one table" (01) holds, and what it says of each row. Assumes nothing.
use Rattle.std.specs.Prelude.{Bool, true, false, ◌&&◌, List, [], ◌∷◌, ◌≡◌, refl, ℕ, zero, suc, ◌<◌, T, ℤ, pos, negsuc, length, get_or}
use Rattle.std.proofs.Common.{ap, subst, sym, le_of_suc-le-suc, not-suc-le-zero, eqb→eq}
use Rattle.integers.specs.Lists.{all}
use Rattle.integers.specs.Pairs.{0c}
use Rattle.trials.specs.Opened.{opened}
use Rattle.trials.specs.Values.{Entry, equal, right, says, table}

-- ---- the test holds
pub all_right : all right table ≡ true
unfolding opened
all_right = refl

-- ---- what the test says of each row
equal→eq : (x y : ℤ) → T (equal x y) → x ≡ y
equal→eq (pos m) (pos n) t = ap pos (eqb→eq m n t)
equal→eq (negsuc m) (negsuc n) t = ap negsuc (eqb→eq m n t)
equal→eq (pos m) (negsuc n) t = absurd t
equal→eq (negsuc m) (pos n) t = absurd t

first : (a b : Bool) → T (a && b) → T a
first true b t = tt
first false b t = t

second : (a b : Bool) → T (a && b) → T b
second true b t = t
second false b t = absurd t

right→eq : (e : Entry) → T (right e) → e.computed ≡ e.expected
right→eq e t i = record {
  re = equal→eq e.computed.re e.expected.re (first (equal e.computed.re e.expected.re) _ t) i;
  im = equal→eq e.computed.im e.expected.im (second (equal e.computed.re e.expected.re) _ t) i;
}

abbrev pub none : Entry
none = says "" 0c 0c

each_right : (l : List Entry) → T (all right l) → (k : ℕ) → k < length l → T (right (get_or l k none))
unfolding all
each_right [] t k h = absurd (not-suc-le-zero h)
each_right (e ∷ l) t zero h = first (right e) (all right l) t
each_right (e ∷ l) t (suc k) h = each_right l (second (right e) (all right l) t) k (le_of_suc-le-suc h)

-- row k, counted from 0
pub entry : (k : ℕ) → k < length table → (get_or table k none).computed ≡ (get_or table k none).expected
entry k h = right→eq (get_or table k none) (each_right table (subst T (sym all_right) tt) k h)
