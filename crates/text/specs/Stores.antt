-- Texts written into a buffer: one behind the other, byte by byte from either end, and into a lent rest of it. Assumes nothing.
use Rattle.std.specs.Prelude.{◌≡◌, refl, List, [], ◌∷◌, ◌++◌, ℕ, zero, suc, ◌+◌, ◌-◌, ◌≤◌, ◌<◌, length, get_or, set, take, drop}
use Rattle.std.proofs.Common.{sym, ap, ◌∙◌, append-nil, arith, add-zero, add_assoc, not-suc-le-zero, le_of_suc-le-suc, length-append, length-set, length-drop, drop_of_length-le, take_all}
use Rattle.std.proofs.lemmas.List.Edits.{sets, sets-eq}
use Rattle.std.proofs.lemmas.List.{set_comm}
use Rattle.std.proofs.lemmas.Slice.{put_mid-paste}
use Rattle.std.proofs.Math.Seq.{length-sets}
use borrow.Rule.Slice.PartMut.{mid_of, put_mid}
use Rattle.text.specs.Promises.{Written}
use Rattle.text.specs.TextLaws.{drop-next, part-from}

-- two texts, one behind the other, are one
pub sets-append : (l : List ℕ) (i : ℕ) (vs ws : List ℕ) → sets l i (vs ++ ws) ≡ sets (sets l i vs) (i + length vs) ws
sets-append l i [] ws = simp add-zero
sets-append l i (x ∷ vs) ws =
    let e : i + suc (length vs) ≡ suc i + length vs = omega arith in
    sets-append (set l i x) (suc i) vs ws ∙ simp e

-- a writer behind another: what both wrote
pub written_behind : {out : List ℕ} {at : ℕ} {vs : List ℕ} {p : ℕ} {l ws : List ℕ} {q : ℕ} {m : List ℕ} →
    Written out at vs p l → Written l p ws q m → Written out at (vs ++ ws) q m
written_behind {out} {at} {vs} {p} {l} {ws} a b = record {
  next = b.next ∙ ap (λ (n : ℕ). n + length ws) a.next ∙ simp (length-append, add_assoc);
  holds = b.holds ∙ ap (λ (n : ℕ). sets l n ws) a.next ∙ ap (λ (k : List ℕ). sets k (at + length vs) ws) a.holds ∙ sym (sets-append out at vs ws);
}

-- the buffer keeps its length, and what stands before and behind the text
pub written-length : {out : List ℕ} {at : ℕ} {vs : List ℕ} {p : ℕ} {l : List ℕ} → Written out at vs p l → length l ≡ length out
written-length {out} {at} {vs} a = ap length a.holds ∙ length-sets out at vs

pub written-parts : {out : List ℕ} {at : ℕ} {vs : List ℕ} {p : ℕ} {l : List ℕ} → at + length vs ≤ length out → Written out at vs p l →
    l ≡ take at out ++ vs ++ drop p out
written-parts {out} {at} {vs} h a = a.holds ∙ sets-eq vs out at h ∙ ap (λ (n : ℕ). take at out ++ vs ++ drop n out) (sym a.next)

-- a text that was copied into the part it takes
pub written-copied : {out : List ℕ} {at : ℕ} {vs l : List ℕ} → at + length vs ≤ length out → l ≡ vs →
    Written out at vs (at + length vs) (put_mid at (at + length vs - at) out l)
written-copied {out} {at} {vs} {l} h e = record {
  next = refl;
  holds = put_mid-paste at (at + length vs - at) out l vs (length vs) e (omega arith) refl ∙ simp (take_all (length vs) vs (omega arith)) (sym (sets-eq vs out at h));
}

-- the k-th byte of a text, and then the rest
pub sets-next : (l : List ℕ) (i : ℕ) (vs : List ℕ) (k : ℕ) → k < length vs → sets l (i + k) (drop k vs) ≡ sets (set l (i + k) (get_or vs k 0)) (i + (k + 1)) (drop (k + 1) vs)
sets-next l i vs k h =
    let e : i + (k + 1) ≡ suc (i + k) = omega arith in
    simp (drop-next vs k h, e)

-- the last byte of a text, and then those in front of it
sets_last : (l : List ℕ) (i : ℕ) (vs : List ℕ) (x : ℕ) → sets l i (vs ++ (x ∷ [])) ≡ sets (set l (i + length vs) x) i vs
sets_last l i [] x = simp add-zero
sets_last l i (v ∷ vs) x =
    let e : suc i + length vs ≡ i + suc (length vs) = omega arith in
    sets_last (set l i v) (suc i) vs x
    ∙ ap (λ (k : List ℕ). sets k (suc i) vs) (set_comm l i (suc i + length vs) v x (λ q. omega arith) ∙ ap (λ (j : ℕ). set (set l j x) i v) e)

-- a writer that begins with the last byte of vs: l is what it has made of out, front what is left to write, and i the place behind that
pub record Unwritten (out : List ℕ) (at : ℕ) (vs : List ℕ) (i : ℕ) (front l : List ℕ) : Type 0 where
  pub ends : i ≡ at + length front
  pub room : i ≤ length l
  pub same : length l ≡ length out
  pub left : sets out at vs ≡ sets l at front

pub unwritten-last : {out : List ℕ} {at : ℕ} {vs : List ℕ} {i : ℕ} (front : List ℕ) (x : ℕ) {l : List ℕ} →
    Unwritten out at vs i (front ++ (x ∷ [])) l → Unwritten out at vs (i - 1) front (set l (i - 1) x)
unwritten-last {out} {at} {vs} {i} front x {l} u =
    let e : i - 1 ≡ at + length front = omega (arith, simp length-append at u.ends) in
    record {
      ends = e;
      room = simp length-set (omega (arith, u.room));
      same = simp length-set u.same;
      left = u.left ∙ sets_last l at front x ∙ ap (λ (k : ℕ). sets (set l k x) at front) (sym e);
    }

sets-cons : (x : ℕ) (l : List ℕ) (i : ℕ) (vs : List ℕ) → sets (x ∷ l) (suc i) vs ≡ x ∷ sets l i vs
sets-cons x l i [] = refl
sets-cons x l i (a ∷ vs) = sets-cons x (set l i a) (suc i) vs

-- a text from the start of the rest of a list is one from its place in the whole
sets-rest : (xs : List ℕ) (a : ℕ) (vs : List ℕ) → a ≤ length xs → take a xs ++ sets (drop a xs) 0 vs ≡ sets xs a vs
sets-rest xs zero vs h = refl
sets-rest [] (suc a) vs h = absurd (not-suc-le-zero h)
sets-rest (x ∷ xs) (suc a) vs h = ap (λ (l : List ℕ). x ∷ l) (sets-rest xs a vs (le_of_suc-le-suc h)) ∙ sym (sets-cons x xs a vs)

-- what a writer that was lent `&mut xs[a..]` wrote, said of the whole
pub put_rest : (xs : List ℕ) (a : ℕ) (vs : List ℕ) → a ≤ length xs → put_mid a (length xs - a) xs (sets (mid_of a (length xs - a) xs) 0 vs) ≡ sets xs a vs
put_rest xs a vs h =
    simp (part-from, drop_of_length-le (drop a xs) {i = length xs - a} (simp length-drop (omega arith)), append-nil) (sets-rest xs a vs h)

pub written-rest : {xs : List ℕ} {a : ℕ} {vs : List ℕ} {r : ℕ} {l : List ℕ} → a ≤ length xs → Written (mid_of a (length xs - a) xs) 0 vs r l →
    Written xs a vs (a + r) (put_mid a (length xs - a) xs l)
written-rest {xs} {a} {vs} h w = record {
  next = omega (arith, w.next);
  holds = ap (λ (k : List ℕ). put_mid a (length xs - a) xs k) w.holds ∙ put_rest xs a vs h;
}
