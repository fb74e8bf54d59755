-- An empty line, and the length of a part. Assumes nothing.
use Rattle.std.specs.Prelude.{Bool, ◌&&◌, false, true, List, [], ◌∷◌, ◌≡◌, refl, ◌-◌, suc, zero, ℕ, eqb, drop, length, take}
use Rattle.std.proofs.Common.{ap, sym, ◌∙◌, length-drop, eq-eqb, eqb-true, ne_eqb}
use Rattle.std.proofs.lemmas.Bool.{eqb-false}
use Rattle.text.specs.Text.{begins, bytes}
use Rattle.text.specs.TextLaws.{part-from}
use Rattle.feeder.specs.Layout.{empty_line}

-- an empty line is the next byte
pub empty-line : (s : List ℕ) (at : ℕ) → begins (bytes "\n") (drop at s) ≡ empty_line s at
unfolding bytes begins
empty-line [] zero = refl
empty-line [] (suc n) = refl
empty-line (b ∷ s) zero = pick (eqb b 10) refl
  where
    pick : (t : Bool) → eqb b 10 ≡ t → (eqb 10 b && true) ≡ t
    pick true e = simp (eq-eqb 10 b (sym (eqb-true b 10 e)))
    pick false e = simp (ne_eqb 10 b (λ h. eqb-false b 10 e (sym h)))
empty-line (b ∷ s) (suc n) = empty-line s n

-- how long the part `&s[a..]` is
pub part_length : (s : List ℕ) (a : ℕ) → length (take (length s - a) (drop a s)) ≡ length s - a
part_length s a = ap length (part-from s a) ∙ length-drop a s
