-- Rows at their places, and the search for the first row with a fault: it finds the first line, or no row has the fault. Assumes nothing.
use Rattle.std.specs.Prelude.{Bool, cond, false, ◌+◌, ◌<◌, suc, zero, ℕ, get_or, length, Some}
use Rattle.std.proofs.Math.Bool.{true}
use mathlib.Core.List.{List, [], ◌++◌, ◌∷◌}
use Rattle.std.proofs.Common.{◌∙◌, sym}
use Rattle.std.proofs.Math.Path.{◌≡◌, ap, refl}
use native.Mathlib.Omega.{arith}
use Rattle.feeder.specs.Faults.{Stands}
use Rattle.feeder.specs.Feeder.{first_row}
use Rattle.feeder.specs.Pointing.{Finds, finds-same}
use Rattle.integers.specs.Bools.{clash}

module _ {X : Type 0} where
  -- a place of a list, counted from 0, and one counted from 1
  behind-all : (a b : List X) (x d : X) → (length a < length (a ++ (x ∷ b))) × (get_or (a ++ (x ∷ b)) (length a) d ≡ x)
  behind-all [] b x d = (omega arith, refl)
  behind-all (y ∷ a) b x d = let w = behind-all a b x d in (omega arith, w.1)

  pub stands_at : {l : List X} {k : ℕ} {x : X} → Stands l k x → (d : X) → (i : ℕ) × ((k ≡ suc i) × ((i < length l) × (get_or l i d ≡ x)))
  stands_at {x = x} h d = let w = behind-all h.before h.behind x d in (length h.before, (h.place, (rw h.whole w.0, rw h.whole w.1)))

  one_more : (y : X) {l : List X} {k : ℕ} {x : X} → Stands l k x → Stands (y ∷ l) (suc k) x
  one_more y h = record { before = y ∷ h.before; behind = h.behind; whole = ap (λ (m : List X). y ∷ m) h.whole; place = ap suc h.place }

  pub at-stands : (l : List X) (i : ℕ) (d : X) → i < length l → Stands l (suc i) (get_or l i d)
  at-stands [] i d q = absurd (omega arith)
  at-stands (y ∷ l) zero d q = record { before = []; behind = l; whole = refl; place = refl }
  at-stands (y ∷ l) (suc i) d q = one_more y (at-stands l i d (omega arith))

  -- the first row of a list, or one of the others
  stands-split : {Z : Type 0} (y : X) (l : List X) (k : ℕ) (x : X) → Stands (y ∷ l) k x → (k ≡ 1 → y ≡ x → Z) → ((j : ℕ) → k ≡ suc j → Stands l j x → Z) → Z
  stands-split {Z} y l k x h here far = go h.before h.whole h.place
    where
      go : (b : List X) → y ∷ l ≡ b ++ (x ∷ h.behind) → k ≡ suc (length b) → Z
      go [] w p = here p (cc)
      go (z ∷ b) w p = far (suc (length b)) p (record { before = b; behind = h.behind; whole = cc; place = refl })

-- line n is that of a row with a fault. Row k stands in line `before` + k
pub record LineOf {X : Type 0} (bad : ℕ → X → Bool) (before : ℕ) (l : List X) (n : ℕ) : Type 0 where
  pub place : ℕ
  pub row : X
  pub stands : Stands l place row
  pub line : n ≡ before + place
  pub is-bad : bad place row ≡ true

module _ {X : Type 0} (bad : ℕ → X → Bool) (before : ℕ) where
  -- rows counted from k + 1, as the search has them behind its first k rows
  abbrev from : ℕ → ℕ → X → Bool
  from k j x = bad (k + j) x

  search : (k : ℕ) (l : List X) → Finds (first_row bad before (k + 1) l) (LineOf (from k) (before + k) l)
  unfolding first_row
  search k [] = record {
    at = λ n e. let z : ◌≡◌ {A = ℕ} 0 1 = cc in absurd (omega arith);
    nothing = λ e n h. let w = (stands_at h.stands h.row).1.1.0 in omega arith;
  }
  search k (y ∷ l) = go refl (bad (k + 1) y) refl (search (k + 1) l)
    where
      -- a row with the fault is the first row, or stands one place further
      split : {Z : Type 0} (n : ℕ) → LineOf (from k) (before + k) (y ∷ l) n → (bad (k + 1) y ≡ true → n ≡ before + (k + 1) → Z) → (LineOf (from (k + 1)) (before + (k + 1)) l n → Z) → Z
      split n h here far = stands-split y l h.place h.row h.stands
          (λ p e. here (ap (λ (i : ℕ). bad (k + i) y) (sym p) ∙ ap (bad (k + h.place)) e ∙ h.is-bad) (let w = h.line in omega arith))
          (λ j p s. far (record { place = j; row = h.row; stands = s; line = let w = h.line in omega arith; is-bad = let z : k + 1 + j ≡ k + h.place = omega arith in rw z h.is-bad }))

      join : (n : ℕ) → LineOf (from (k + 1)) (before + (k + 1)) l n → LineOf (from k) (before + k) (y ∷ l) n
      join n h = record {
        place = suc h.place;
        row = h.row;
        stands = one_more y h.stands;
        line = let w = h.line in omega arith;
        is-bad = let z : k + suc h.place ≡ k + 1 + h.place = omega arith in rw z h.is-bad;
      }

      go : {line : ℕ} → line ≡ before + (k + 1) → (c : Bool) → bad (k + 1) y ≡ c → Finds (first_row bad before (k + 1 + 1) l) (LineOf (from (k + 1)) (before + (k + 1)) l)
          → Finds (cond c (Some line) (first_row bad before (k + 1 + 1) l)) (LineOf (from k) (before + k) (y ∷ l))
      go {line} at-line true b far = record {
        at = λ n e.
            let z : line ≡ n = cc in
            record {
              faulty = record { place = 1; row = y; stands = at-stands (y ∷ l) 0 y (omega arith); line = omega arith; is-bad = b };
              none_before = λ m q h. split m h (λ c w. omega arith) (λ w. let v = w.line in omega arith);
            };
        nothing = λ e. let z : ◌≡◌ {A = ℕ} 0 1 = cc in absurd (omega arith);
      }
      go at-line false b far = record {
        at = λ n e.
            let w = far.at n e in
            record { faulty = join n w.faulty; none_before = λ m q h. split m h (λ c v. clash (bad (k + 1) y) c b) (w.none_before m q) };
        nothing = λ e n h. split n h (λ c v. clash (bad (k + 1) y) c b) (far.nothing e n);
      }

  -- "the line returned shall be the first with that fault"
  pub finds-rows : (l : List X) → Finds (first_row bad before 1 l) (LineOf bad before l)
  finds-rows l =
      let one : 0 + 1 ≡ 1 = omega arith in
      finds-same
      (λ n h. record { place = h.place; row = h.row; stands = h.stands; line = let w = h.line in omega arith; is-bad = let z : 0 + h.place ≡ h.place = omega arith in rw z at h.is-bad })
      (λ n h. record { place = h.place; row = h.row; stands = h.stands; line = let w = h.line in omega arith; is-bad = let z : 0 + h.place ≡ h.place = omega arith in rw z h.is-bad })
      (rw one at (search 0 l))
