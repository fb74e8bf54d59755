-- An array of which the used places are stored, and one that is zero behind them as it was; and one whose used places are stored in turn. Assumes nothing.
use Rattle.std.specs.Prelude.{◌≡◌, List, ◌++◌, ◌+◌, ◌-◌, ◌<◌, ℕ, drop, get_or, length, set, take}
use Rattle.std.proofs.Common.{◌∙◌, ap, arith, get_or-set_other, get_or-set_same, length-set, sym}
use Rattle.std.proofs.Math.Decide.{dec_lt, ℕ_discrete}
use Rattle.std.proofs.lemmas.List.{ext_get_or, get_or-drop, length-drop, take-append-drop}
use Rattle.arrays.specs.Arrays.{Spare}
use Rattle.feeder.specs.Network.{no_three}
use Rattle.feeder.specs.Phased.{Three}

-- behind the used places both hold zero
alike : (rows : ℕ) (l m : List Three) → Spare rows l → Spare rows m → drop (rows + 1) l ≡ drop (rows + 1) m
alike rows l m s t =
    ext_get_or no_three (drop (rows + 1) l) (drop (rows + 1) m) (length-drop (rows + 1) l ∙ ap (λ (n : ℕ). n - (rows + 1)) (s.long ∙ sym t.long) ∙ sym (length-drop (rows + 1) m))
    (λ i h. get_or-drop (rows + 1) l i no_three ∙ s.behind (rows + 1 + i) (omega arith) ∙ sym (get_or-drop (rows + 1) m i no_three ∙ t.behind (rows + 1 + i) (omega arith)))

-- the used places of m before those of l that are not used
pub stored : (rows : ℕ) (l m : List Three) → Spare rows l → Spare rows m → take (rows + 1) m ++ drop (rows + 1) l ≡ m
stored rows l m s t = ap (λ (r : List Three). take (rows + 1) m ++ r) (alike rows l m s t) ∙ take-append-drop (rows + 1) m

-- l and m agree before place k and behind the used places
pub record Agreed (k rows : ℕ) (l m : List Three) : Type 0 where
  pub long : length l ≡ 201
  pub front : (j : ℕ) → j < k → get_or l j no_three ≡ get_or m j no_three
  pub behind : (j : ℕ) → rows < j → get_or l j no_three ≡ get_or m j no_three

pub agreed-none : (rows : ℕ) (l m : List Three) → Spare rows l → Spare rows m → Agreed 0 rows l m
agreed-none rows l m s t = record { long = s.long; front = λ j q. absurd (omega arith); behind = λ j q. s.behind j q ∙ sym (t.behind j q) }

pub agreed-next : (k rows : ℕ) (l m : List Three) (x : Three) → k < 201 → x ≡ get_or m k no_three → Agreed k rows l m → Agreed (k + 1) rows (set l k x) m
agreed-next k rows l m x p e a =
    record {
      long = length-set l k x ∙ a.long;
      front = λ j q. at j (λ n. a.front j (omega arith));
      behind = λ j q. at j (λ n. a.behind j q);
    }
  where
    at : (j : ℕ) → ((j ≡ k → ⊥) → get_or l j no_three ≡ get_or m j no_three) → get_or (set l k x) j no_three ≡ get_or m j no_three
    at j h =
        elim (ℕ_discrete j k) [
          | yes y ↦ rw y (get_or-set_same l k x no_three (omega (arith, a.long)) ∙ e)
          | no y ↦ get_or-set_other l k j x no_three y ∙ h y
        ]

pub agreed-all : (k rows : ℕ) (l m : List Three) → length m ≡ 201 → rows < k → Agreed k rows l m → l ≡ m
agreed-all k rows l m e p a =
    ext_get_or no_three l m (a.long ∙ sym e) (λ j q.
    elim (dec_lt j k) [
      | yes y ↦ a.front j y
      | no y ↦ a.behind j (omega arith)
    ])
