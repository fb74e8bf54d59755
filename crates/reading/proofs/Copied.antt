-- A list of n values that is made place by place from another. Assumes nothing.
use mathlib.Core.List.{List}
use mathlib.Core.Path.{◌∙◌, ◌≡◌, ap, sym}
use native.Mathlib.Omega.{arith}
use Prim.Native.Nat.{◌+◌, ◌<◌, ◌≤◌, ℕ}
use borrow.Author.Count.{below_more}
use lib.ListN.{get_or, length, length-set, set}
use Rattle.feeder.specs.Network.{kept}
use Rattle.feeder.specs.NetworkLaws.{length-kept}
use lib.Seq.{ext_get_or, get_or-set_other, get_or-set_same}

-- the first k places are done
pub record Copied {X : Type 0} (d : X) (n : ℕ) (from made : List X) (k : ℕ) : Type 0 where
  pub size : length made ≡ n
  pub same : (i : ℕ) → i < k → get_or made i d ≡ get_or from i d

module _ {X : Type 0} (d : X) {n : ℕ} {from made : List X} where
  pub copied_none : length made ≡ n → Copied d n from made 0
  copied_none e = record { size = e; same = λ i h. absurd (omega arith) }

  module _ {k : ℕ} (c : Copied d n from made k) where
    pub copied_next : {x : X} → k < n → x ≡ get_or from k d → Copied d n from (set made k x) (k + 1)
    copied_next {x} h e =
        record {
          size = length-set made k x ∙ c.size;
          same = below_more _ k
              (λ i p. get_or-set_other made k i x d (λ q. omega arith) ∙ c.same i p)
              (get_or-set_same made k x d (omega (arith, c.size)) ∙ e);
        }

    -- the whole, where the other list keeps one in n places
    pub copied_all : (l : List X) → from ≡ kept d n l → n ≤ k → made ≡ kept d n l
    copied_all l e h = ext_get_or d made (kept d n l) (c.size ∙ sym (length-kept d n l)) (λ i p. c.same i (omega (arith, c.size)) ∙ ap (λ (m : List X). get_or m i d) e)
