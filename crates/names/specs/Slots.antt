-- A table of places by the slots of the names, and the place of a name by it. Assumes nothing.
use Rattle.std.specs.Prelude.{List, [], ◌≡◌, ◌%◌, ◌+◌, ◌<◌, ◌≤◌, suc, zero, ℕ, get_or, length, replicate, set, take}
use Rattle.std.proofs.Common.{◌∙◌, ap, sym, add-one, arith, get_or-set_other, get_or-set_same}
use Rattle.std.proofs.Math.Decide.{ℕ_discrete}
use Rattle.feeder.specs.Feeder.{place_of}
use Rattle.feeder.specs.NetworkLaws.{blank-kept, get_or_kept}
use Rattle.names.specs.Rest.{place_here, place-next, rest}

abbrev pub slot_of : ℕ → ℕ
slot_of name = name % 4093

-- the slot of each name from place i on holds that place or one before it.
pub record SlottedFrom (i : ℕ) (names slots : List ℕ) : Type 0 where
  pub held : (j : ℕ) → i ≤ j → get_or slots (slot_of (get_or names j 0)) 0 ≤ j

abbrev pub Slotted : List ℕ → List ℕ → Type 0
Slotted names slots = SlottedFrom 0 names slots

-- ---- the table is filled from the last name to the first, and at first each slot holds 0
pub slots-none : (i n : ℕ) (names : List ℕ) → SlottedFrom i names (replicate n 0)
slots-none i n names = record { held = λ j p. rw (blank-kept {X = ℕ} 0 n, get_or_kept {X = ℕ} 0 n [] (slot_of (get_or names j 0)) (omega arith)) (omega arith) }

pub slots_next : (i k slot place : ℕ) (names slots : List ℕ) → SlottedFrom k names slots → k ≤ i + 1 → slot ≡ slot_of (get_or names i 0) → slot < length slots → place ≤ i →
    SlottedFrom i names (set slots slot place)
slots_next i k slot place names slots s near e h m = record {
  held = λ j p. elim (ℕ_discrete (slot_of (get_or names j 0)) slot) [
    | yes t ↦ rw (t, get_or-set_same slots slot place 0 h) (omega arith)
    | no t ↦ rw (get_or-set_other slots slot (slot_of (get_or names j 0)) place 0 t)
        (elim (ℕ_discrete j i) [
          | yes w ↦ absurd (t (ap (λ (x : ℕ). slot_of (get_or names x 0)) w ∙ sym e))
          | no w ↦ s.held j (omega arith)
        ])
  ];
}

-- ---- the place of a name, where the place in its slot has that name
module _ (name : ℕ) (names : List ℕ) (n : ℕ) (q : n ≤ length names) where
  place-behind : (i : ℕ) → i ≤ n → ((j : ℕ) → j < i → name ≡ get_or names j 0 → ⊥) → i + place_of name (rest i n names) ≡ place_of name (take n names)
  place-behind zero p e = omega arith
  place-behind (suc i) p e =
      omega (arith, place-behind i (omega arith) (λ j h. e j (omega arith)), rw add-one at (place-next name names n i q p (e i (omega arith))))

  pub place_found : (slots : List ℕ) (i : ℕ) → Slotted names slots → i ≡ get_or slots (slot_of name) 0 → i < n → name ≡ get_or names i 0 → i ≡ place_of name (take n names)
  place_found slots i s g p e =
      omega (arith, place_here name names n i q p e, place-behind i (omega arith) (λ j h f. omega (arith, rw (sym f) at (s.held j (omega arith)))))
