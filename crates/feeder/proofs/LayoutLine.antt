-- 10 and its line: a file is refused for its layout with just the first line that cannot go on a good file, or the line where it ends early. Assumes nothing.
use Rattle.std.specs.Prelude.{List, [], ◌++◌, ◌⊎◌, ◌≡◌, refl, ◌+◌, ◌-◌, ◌<◌, suc, ℕ, Ok, Err}
use Rattle.std.proofs.Common.{append_assoc, append-nil, inl, inr, ⊎_elim, ◌∙◌, ap, subst, sym, arith}
use Rattle.std.proofs.Math.Decide.{dec_lt}
use Rattle.answers.specs.AnswerLaws.{not_good}
use Rattle.answers.specs.Answers.{Outcome}
use Rattle.answers.specs.declared.Refusal.{Refusal}
use Rattle.answers.specs.declared.Refusal.TheVariants.{Layout}
use Rattle.feeder.specs.File.{FileWritable, GoesOn, StopsAt, WellLaid, file_of, first_lines, line_feeds}
use Rattle.feeder.proofs.FileBack.{file-back}
use Rattle.feeder.proofs.FileRead.{file-read}
use Rattle.feeder.specs.FirstLines.{ended-whole, feeds-append, first-all, first-begins, first-fewer, first-kept}
use Rattle.feeder.specs.Layout.{Rows, layout}
use Rattle.feeder.proofs.LayoutFault.{Fault}
use Rattle.feeder.proofs.TableFaults.{layout-fault}

-- a file is good just where it is the text of rows that can be written, and these are the rows that are read
pub layout-good : (s : List ℕ) (r : Rows) → (layout s ≡ Ok r → FileWritable r × (s ≡ file_of r)) × (FileWritable r → s ≡ file_of r → layout s ≡ Ok r)
layout-good s r = (file-read s r, λ h e. ap layout e ∙ file-back r h)

pub laid-good : (s : List ℕ) (w : WellLaid s) → layout s ≡ Ok w.rows
laid-good s w = (layout-good s w.rows).1 w.writable w.text

-- every other file is refused with 10 and a line
pub layout-refused : (s : List ℕ) (x : Refusal) → layout s ≡ Err x → (n : ℕ) × (x ≡ Layout n)
layout-refused s x e = let f = layout-fault s x e in (1 + line_feeds f.front, f.told)

same_line : (m n : ℕ) → Layout m ≡ Layout n → m ≡ n
same_line m n e = cc

-- the line that is told is the first that cannot go on a good file, or the one where the file ends early
pub line-of-10 : (s : List ℕ) (n : ℕ) → layout s ≡ Err (Layout n) → StopsAt s n
line-of-10 s n e =
    let f = layout-fault s (Layout n) e in
    let m : n ≡ 1 + line_feeds f.front = same_line n (1 + line_feeds f.front) f.told in
    let k : n - 1 ≡ line_feeds f.front = omega arith in
    let a : first_lines (n - 1) s ≡ f.front = ap (λ (i : ℕ). first_lines i s) k ∙ ap (first_lines (line_feeds f.front)) f.split ∙ ended-whole f.front f.rest f.ended in
    record { counted = omega arith; before = subst GoesOn (sym a) (record { rest = f.more; whole = f.goes }); here = by f m (dec_lt 0 (line_feeds f.rest)) }
  where
    by : (f : Fault (λ t. layout t ≡ Err (Layout n)) WellLaid 1 s (Layout n)) → n ≡ 1 + line_feeds f.front → Dec (0 < line_feeds f.rest) →
        (GoesOn (first_lines n s) → ⊥) ⊎ ((suc (line_feeds s) ≡ n) × (WellLaid s → ⊥))
    by f m (yes h) = inl (λ g.
        let z : first_lines n s ≡ f.front ++ first_lines 1 f.rest = ap (λ (i : ℕ). first_lines i s) m ∙ ap (first_lines (1 + line_feeds f.front)) f.split ∙ f.ended 1 f.rest in
        let t : List ℕ = first_lines n s ++ g.rest in
        let u : t ≡ f.front ++ (first_lines 1 f.rest ++ g.rest) = ap (λ (l : List ℕ). l ++ g.rest) z ∙ append_assoc f.front (first_lines 1 f.rest) g.rest in
        let c = f.again (first_lines 1 f.rest ++ g.rest) (record { ended = h; same = sym (first-kept f.rest g.rest h) }) in
        not_good g.whole.rows (Layout n) (sym (laid-good t g.whole) ∙ ap layout u ∙ c))
    by f m (no h) = inr (omega (arith, ap line_feeds f.split, feeds-append f.front f.rest), λ w. not_good w.rows (Layout n) (sym (laid-good s w) ∙ e))

-- there is just one such line
goes-front : (a b : List ℕ) → GoesOn (a ++ b) → GoesOn a
goes-front a b g = record { rest = b ++ g.rest; whole = subst WellLaid (append_assoc a b g.rest) g.whole }

one-stop : (s : List ℕ) (n m : ℕ) → n < m → StopsAt s n → StopsAt s m → ⊥
one-stop s n m q a b = ⊎_elim
    (λ h.
    let c = first-begins n (first_lines (m - 1) s) in
    let e : first_lines (m - 1) s ≡ first_lines n s ++ c.0 = c.1 ∙ ap (λ (l : List ℕ). l ++ c.0) (first-fewer n (m - 1) s (omega arith)) in
    h (goes-front (first_lines n s) c.0 (subst GoesOn e b.before)))
    (λ h. ⊎_elim
    (λ k. k (subst GoesOn (first-all (m - 1) s (omega (arith, h.0)) ∙ sym (first-all m s (omega (arith, h.0)))) b.before))
    (λ k. omega (arith, h.0, k.0))
    b.here)
    a.here

-- and it is told
pub stops-at-10 : (s : List ℕ) (n : ℕ) → StopsAt s n → layout s ≡ Err (Layout n)
stops-at-10 s n h = go (layout s) refl
  where
    not-laid : WellLaid s → ⊥
    not-laid w =
        let c = first-begins n s in
        let g : WellLaid ((first_lines n s ++ c.0) ++ []) = subst WellLaid (c.1 ∙ sym (append-nil (first_lines n s ++ c.0))) w in
        ⊎_elim (λ k. k (goes-front (first_lines n s) c.0 (record { rest = []; whole = g }))) (λ k. k.1 w) h.here

    same : (m : ℕ) → StopsAt s m → Dec (n < m) → Dec (m < n) → m ≡ n
    same m k (yes q) d = absurd (one-stop s n m q h k)
    same m k (no p) (yes q) = absurd (one-stop s m n q k h)
    same m k (no p) (no q) = omega arith

    go : (x : Outcome Rows) → layout s ≡ x → layout s ≡ Err (Layout n)
    go (Ok r) e = let f = (layout-good s r).0 e in absurd (not-laid (record { rows = r; writable = f.0; text = f.1 }))
    go (Err x) e =
        let m = layout-refused s x e in
        let c : layout s ≡ Err (Layout m.0) = e ∙ ap (λ (z : Refusal). Err z) m.1 in
        c ∙ ap (λ (i : ℕ). Err (Layout i)) (same m.0 (line-of-10 s m.0 c) (dec_lt n m.0) (dec_lt m.0 n))
