-- Where the reading of a file is refused: behind lines that can go on as a good file, at a line of which the bytes alone decide. Assumes nothing.
use Rattle.std.specs.Prelude.{Bool, false, ◌≡◌, drop, Ok, Err}
use mathlib.Core.List.{List, [], ◌++◌, ◌∷◌, append_assoc}
use Rattle.std.proofs.Common.{◌∙◌, sym}
use Rattle.std.proofs.Math.Path.{ap, refl, subst}
use Prim.Native.Nat.{◌+◌, ◌<◌, suc, zero, ℕ}
use Prim.Native.String.{String}
use native.Mathlib.Omega.{arith}
use Rattle.std.proofs.Math.ListN.{length, length-append, length-drop}
use Rattle.answers.specs.AnswerLaws.{by-test, not_good, same-refused, stopped}
use Rattle.answers.specs.Answers.{Outcome}
use Rattle.answers.specs.declared.Refusal.{Refusal}
use Rattle.answers.specs.declared.Refusal.TheVariants.{Layout}
use Rattle.feeder.specs.File.{line_feeds}
use Rattle.feeder.specs.FirstLines.{Ended, OneLine, SameLine, ended-append, ended-none, feeds-append, same-begins, same_some}
use Rattle.feeder.specs.Layout.{rows}
use Rattle.feeder.proofs.LineReader.{LineReader}
use Rattle.feeder.proofs.TableRows.{Table, row_room}
use Rattle.integers.specs.Lists.{All}
use Rattle.text.specs.Lines.{text}
use Rattle.text.specs.RowText.{past, text-back, text-read}
use Rattle.text.specs.Text.{begins, bytes, joined, Placed}

-- the text u, of which the first line is line n of its file, is refused with y at the line behind front: whatever has these lines in front and the same line
-- behind them is refused so, and front goes on as a good text
pub record Fault (Refuses Good : List ℕ → Type 0) (n : ℕ) (u : List ℕ) (y : Refusal) : Type 0 where
  pub front : List ℕ
  pub rest : List ℕ
  pub split : u ≡ front ++ rest
  pub ended : Ended front
  pub told : y ≡ Layout (n + line_feeds front)
  pub again : (t : List ℕ) → SameLine rest t → Refuses (front ++ t)
  pub more : List ℕ
  pub goes : Good (front ++ more)

module _ {Refuses Good : List ℕ → Type 0} {y : Refusal} where
  -- at the first line
  pub here : (n : ℕ) (u : List ℕ) → y ≡ Layout n → ((t : List ℕ) → SameLine u t → Refuses t) → (more : List ℕ) → Good more → Fault Refuses Good n u y
  unfolding line_feeds
  here n u e k more g = record { front = []; rest = u; split = refl; ended = ended-none; told = let z : n + 0 ≡ n = omega arith in rw z e; again = k; more = more; goes = g }

  -- behind a text x
  pub behind : (x : List ℕ) → Ended x → (n m : ℕ) → m ≡ n + line_feeds x → (u v : List ℕ) → u ≡ x ++ v → Fault (λ t. Refuses (x ++ t)) (λ t. Good (x ++ t)) m v y → Fault Refuses Good n u y
  behind x h n m e u v w f = record {
    front = x ++ f.front;
    rest = f.rest;
    split = w ∙ ap (λ (z : List ℕ). x ++ z) f.split ∙ sym (append_assoc x f.front f.rest);
    ended = ended-append x f.front h f.ended;
    told = let z : m + line_feeds f.front ≡ n + line_feeds (x ++ f.front) = omega (arith, feeds-append x f.front) in f.told ∙ ap (λ (i : ℕ). Layout i) z;
    again = λ t q. subst Refuses (sym (append_assoc x f.front t)) (f.again t q);
    more = f.more;
    goes = subst Good (sym (append_assoc x f.front f.more)) f.goes;
  }

pub wider : {Refuses Wider Good : List ℕ → Type 0} {y : Refusal} (n : ℕ) (u : List ℕ) → Fault Refuses Good n u y → ((t : List ℕ) → Refuses t → Wider t) → Fault Wider Good n u y
wider n u f k = record { front = f.front; rest = f.rest; split = f.split; ended = f.ended; told = f.told; again = λ t q. k (f.front ++ t) (f.again t q); more = f.more; goes = f.goes }

-- what is told, m, has to be the line n
pub told_at : (y : Refusal) (m n : ℕ) → y ≡ Layout m → m ≡ n → y ≡ Layout n
told_at y m n e q = e ∙ ap (λ (i : ℕ). Layout i) q

-- ---- a line that is refused is refused wherever it stands
pub text-told : (r : Refusal) (w : String) (s : List ℕ) (at : ℕ) (y : Refusal) → text r w s at ≡ Err y → y ≡ r
unfolding text
text-told r w s at y e = by-test (begins (bytes w) (drop at s)) _ _ (Err y) e (λ c g. not_good (at + length (bytes w)) y g) (λ c g. sym (same-refused r y g))

pub text-again : (r : Refusal) (w : String) (s : List ℕ) (at : ℕ) (y : Refusal) → OneLine (bytes w) → text r w s at ≡ Err y →
    (u : List ℕ) → SameLine (drop at s) u → (t : List ℕ) (p : ℕ) → drop p t ≡ u → (x : Refusal) → text x w t p ≡ Err x
text-again r w s at y o e u q t p d x = go (text x w t p) refl
  where
    go : (z : Outcome ℕ) → text x w t p ≡ z → text x w t p ≡ Err x
    go (Ok n) c =
        let k = same-begins (bytes w) (drop at s) (drop n t) o (rw (sym d ∙ text-read x w t p n c) at q) in
        not_good (at + length (bytes w)) y (sym (text-back r w s at k.0 k.1) ∙ e)
    go (Err z) c = c ∙ ap (λ (i : Refusal). Err i) (text-told x w t p z c)

pub line-again : {X : Type 0} {read : Refusal → List ℕ → ℕ → Outcome (Placed X)} {written : X → List ℕ} {Writable : X → Type 0} → LineReader read written Writable →
    (r : Refusal) (s : List ℕ) (at : ℕ) (y : Refusal) → read r s at ≡ Err y →
    (u : List ℕ) → SameLine (drop at s) u → (t : List ℕ) (p : ℕ) → drop p t ≡ u → (x : Refusal) → read x t p ≡ Err x
line-again {X} {read} {written} reader r s at y e u q t p d x = go (read x t p) refl
  where
    go : (z : Outcome (Placed X)) → read x t p ≡ z → read x t p ≡ Err x
    go (Ok (v, n)) c =
        let h = reader.stands x t p v n c in
        let k = same-begins (written v) (drop at s) (drop n t) (reader.line v h.writable) (rw (sym d ∙ h.stand) at q) in
        not_good (v, at + length (written v)) y (sym (reader.back r v h.writable s at k.0 k.1) ∙ e)
    go (Err z) c = c ∙ ap (λ (i : Refusal). Err i) (reader.told x t p z c)

-- ---- the rows of a table, wherever they stand and with any bound that reaches their end
module _ {X : Type 0} {read : Refusal → List ℕ → ℕ → Outcome (Placed X)} {over : List ℕ → ℕ → Bool} {written : X → List ℕ} {Writable : X → Type 0} (table : Table read over written Writable) where
  abbrev pub RowsRefused : ℕ → Refusal → List ℕ → Type 0
  RowsRefused line y u = (s : List ℕ) (at : ℕ) → drop at s ≡ u → (f : ℕ) → length s < f + at → rows read f s line at (over s) ≡ Err y

  -- at a line that is no row, and behind a row
  rows-here : (line : ℕ) (y r : Refusal) (s : List ℕ) (at : ℕ) → over s at ≡ false → read r s at ≡ Err y → y ≡ Layout line → (u : List ℕ) → SameLine (drop at s) u → RowsRefused line y u
  unfolding rows
  rows-here line y r s at o e z u q t p d zero b = absurd (omega (arith, same_some (drop at s) u q, ap length d, length-drop p t))
  rows-here line y r s at o e z u q t p d (suc f) b = rw (table.seen s at t p (rw (sym d) at q) o, line-again table.reader r s at y e u q t p d) (ap (λ (x : Refusal). Err x) (sym z))

  rows_behind : (line : ℕ) (y : Refusal) (x : X) → Writable x → (u : List ℕ) → RowsRefused (line + 1) y u → RowsRefused line y (written x ++ u)
  unfolding rows
  rows_behind line y x h u k s at d zero b = let m = row_room table x h s at u d in absurd (omega (arith, m.0, m.1))
  rows_behind line y x h u k s at d (suc f) b =
      let m = row_room table x h s at u d in
      let r : (z : Refusal) → read z s at ≡ Ok (x, at + length (written x)) = λ z. table.reader.back z x h s at u d in
      rw (table.going x h s at u d, r, k s (at + length (written x)) (past s at (written x) u d) f (omega (arith, m.0))) refl

  pub rows-fault : (y : Refusal) (Good : List ℕ → Type 0) (f : ℕ) (s : List ℕ) (n line at : ℕ) → length s < f + at → rows read f s line at (over s) ≡ Err y → line ≡ n →
      (more : List ℕ) → ((l : List X) → All Writable l → Good (joined written l ++ more)) → Fault (RowsRefused line y) Good n (drop at s) y
  unfolding rows joined
  rows-fault y Good zero s n line at b e z more g = not_good ([], at) y e
  rows-fault y Good (suc f) s n line at b e z more g =
      by-test (over s at) _ _ (Err y) e (λ o d. not_good ([], at) y d) (λ o d. stopped (read _ s at) _ y d
      (λ c. let a = table.reader.told _ s at y c in here n (drop at s) (told_at y _ n a (omega arith)) (rows-here line y _ s at o c (told_at y _ line a (omega arith))) more (g [] tt))
      (λ v c m. stopped (rows read f s _ v.1 (over s)) _ y m
      (λ i.
      let x : X = v.0 in
      let h = table.reader.stands _ s at x v.1 c in
      let w = table.reader.line x h.writable in
      let k = row_room table x h.writable s at (drop v.1 s) h.stand in
      behind (written x) w.ended n (n + 1) (ap (λ (j : ℕ). n + j) (sym w.one)) (drop at s) (drop v.1 s) h.stand
      (wider (n + 1) (drop v.1 s)
      (rows-fault y (λ t. Good (written x ++ t)) f s (n + 1) _ v.1 (omega (arith, k.0, ap length h.stand, length-append (written x) (drop v.1 s), length-drop at s, length-drop v.1 s, h.within)) i (omega arith) more
      (λ l a. subst Good (append_assoc (written x) (joined written l) more) (g (x ∷ l) (h.writable, a))))
      (rows_behind line y x h.writable)))
      (λ j a b. not_good _ y b)))
