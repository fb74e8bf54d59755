-- A text that is written piece by piece: what is left to write. Assumes nothing.
use Rattle.std.specs.Prelude.{List, [], ◌++◌, ◌≡◌, refl, ◌+◌, ◌-◌, ◌≤◌, ℕ, drop, length}
use Rattle.std.proofs.Common.{◌∙◌, ap, sym, add-zero, arith, length-append}
use Rattle.std.proofs.lemmas.List.Edits.{sets}
use borrow.Rule.Slice.PartMut.{mid_len, mid_of}
use Rattle.text.specs.Stores.{sets-append, written-length, written-parts}
use Rattle.text.specs.Promises.{Written}

-- the text `whole` is due in `first` from place `start` on. A part of it has been written, which left `out`; `rest` is due at place `at`
pub record Left (first : List ℕ) (start : ℕ) (whole : List ℕ) (out : List ℕ) (at : ℕ) (rest : List ℕ) : Type 0 where
  pub size : length out ≡ length first
  pub place : at + length rest ≡ start + length whole
  pub holds : sets out at rest ≡ sets first start whole

pub left-all : (out : List ℕ) (at : ℕ) (whole : List ℕ) → Left out at whole out at whole
left-all out at whole = record { size = refl; place = refl; holds = refl }

-- there is room for the next piece; it is written; and what has nothing left is written
pub left-room : {first : List ℕ} {start : ℕ} {whole out : List ℕ} {at : ℕ} (vs ws : List ℕ) →
    start + length whole ≤ length first → Left first start whole out at (vs ++ ws) → at + length vs ≤ length out
left-room vs ws h l = omega (arith, simp length-append at l.place, l.size)

pub left-next : {first : List ℕ} {start : ℕ} {whole out : List ℕ} {at : ℕ} {vs : List ℕ} {p : ℕ} {last : List ℕ} (ws : List ℕ) →
    Left first start whole out at (vs ++ ws) → Written out at vs p last → Left first start whole last p ws
left-next {out = out} {at = at} {vs = vs} {p = p} ws l w = record {
  size = written-length w ∙ l.size;
  place = omega (arith, simp length-append at l.place, w.next);
  holds = simp (w.next, w.holds) (sym (sets-append out at vs ws) ∙ l.holds);
}

pub left-last : {first : List ℕ} {start : ℕ} {whole out : List ℕ} {at : ℕ} {vs : List ℕ} {p : ℕ} {last : List ℕ} →
    Left first start whole out at vs → Written out at vs p last → Written first start whole p last
left-last l w = record { next = w.next ∙ l.place; holds = w.holds ∙ l.holds }

-- nothing is written
pub written_none : (out : List ℕ) (at : ℕ) → Written out at [] at out
written_none out at = record { next = sym (add-zero at); holds = refl }

-- the lent rest `&mut xs[a..]` has room for what has room from place a on
pub rest-room : (xs : List ℕ) (a n : ℕ) → a + n ≤ length xs → n ≤ length (mid_of a (length xs - a) xs)
rest-room xs a n h = omega (arith, mid_len a (length xs) xs (omega arith))

-- what was written from the start of the whole
pub written-front : {out vs : List ℕ} {p : ℕ} {last : List ℕ} → length vs ≤ length out → Written out 0 vs p last → (p ≡ length vs) × (last ≡ vs ++ drop (length vs) out)
written-front {out} {vs} h w =
    let e : 0 + length vs ≡ length vs = omega arith in
    (w.next ∙ e, written-parts (omega arith) w ∙ ap (λ (n : ℕ). vs ++ drop n out) (w.next ∙ e))
