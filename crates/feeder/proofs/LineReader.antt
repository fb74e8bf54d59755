-- The readers of one line: what each reads is the line of a row that can be written, and the line of such a row is read as the row. Assumes nothing.
use Rattle.std.specs.Prelude.{Bool, false, true, List, [], ◌++◌, ◌∷◌, ◌≡◌, refl, ◌+◌, ◌≤◌, suc, zero, ℕ, eqb, pos, ℤ, drop, get_or, length, Ok, Err, Option, Some, None}
use Rattle.std.proofs.Common.{◌∙◌, ap, subst, sym, arith, eqb-true}
use Rattle.answers.specs.AnswerLaws.{bound, not-refused, same_good, by-test, not_good, same-refused, stopped}
use Rattle.answers.specs.Answers.{Outcome, ◌>>=◌}
use Rattle.answers.specs.declared.Refusal.{Refusal}
use Rattle.feeder.specs.File.{BranchWritable, LoadWritable, branch_text, kind_word, load_text, load_word, phase_word, phases_word, row_of_branch, row_of_load}
use Rattle.feeder.specs.FirstLines.{OneLine}
use Rattle.feeder.specs.Layout.{branch_row, kind_words, load_row, load_words, phase_words, phases_words}
use Rattle.feeder.specs.RowLine.{row_first, row_line}
use Rattle.feeder.specs.declared.BranchRow.{BranchRow}
use Rattle.feeder.specs.declared.Kind.{Kind}
use Rattle.feeder.specs.declared.Kind.TheVariants.{D, L, R, Y}
use Rattle.feeder.specs.declared.LoadKind.{LoadKind}
use Rattle.feeder.specs.declared.LoadKind.TheVariants.{Current, Impedance, Power}
use Rattle.feeder.specs.declared.LoadRow.{LoadRow}
use Rattle.feeder.specs.Phased.{Phases}
use Rattle.feeder.specs.declared.Terminals.{Terminals}
use Rattle.feeder.specs.declared.Terminals.TheVariants.{AB, BC, CA, OnA, OnB, OnC}
use Rattle.integers.specs.Bools.{clash}
use Rattle.integers.specs.Lists.{All}
use Rattle.text.specs.Lines.{Row, got, listed, names, nth, numbers, row, row_text, sep_of, word_of, Readable}
use Rattle.text.specs.RowText.{put, row_back, row-read}
use Rattle.text.specs.Text.{bytes, name_at, number_at, pack, word, Placed}

-- x was read at a place of s, and p is the place behind it
pub record ReadAt {X : Type 0} (written : X → List ℕ) (Writable : X → Type 0) (s : List ℕ) (at : ℕ) (x : X) (p : ℕ) : Type 0 where
  pub stand : drop at s ≡ written x ++ drop p s
  pub writable : Writable x
  pub within : p ≤ length s

-- a reader of one line: it refuses with what it is given, and neither an empty line nor a part of a line is a row
pub record LineReader {X : Type 0} (read : Refusal → List ℕ → ℕ → Outcome (Placed X)) (written : X → List ℕ) (Writable : X → Type 0) : Type 0 where
  pub back : (r : Refusal) (x : X) → Writable x → (s : List ℕ) (at : ℕ) (t : List ℕ) → drop at s ≡ written x ++ t → read r s at ≡ Ok (x, at + length (written x))
  pub stands : (r : Refusal) (s : List ℕ) (at : ℕ) (x : X) (p : ℕ) → read r s at ≡ Ok (x, p) → ReadAt written Writable s at x p
  pub told : (r : Refusal) (s : List ℕ) (at : ℕ) (y : Refusal) → read r s at ≡ Err y → y ≡ r
  pub line : (x : X) → Writable x → OneLine (written x)
  pub first : (x : X) → Writable x → (t : List ℕ) → eqb (get_or (written x ++ t) 0 0) 10 ≡ false

-- ---- a row
names-told : (r : Refusal) (m : ℕ) (s : List ℕ) (at : ℕ) (y : Refusal) → names r m s at ≡ Err y → y ≡ r
unfolding names
names-told r zero s at y e = not_good ([], at) y e
names-told r (suc m) s at y e = by (name_at 44 s at) e (names-told r m s)
  where
    by : (x : Option (Placed ℕ)) → (got r x >>= λ z. names r m s z.1 >>= put z.0) ≡ Err y → ((q : ℕ) (w : Refusal) → names r m s q ≡ Err w → w ≡ r) → y ≡ r
    by (Some (v, q)) g ih = stopped (names r m s q) (put v) y g (ih q y) (λ z c h. not_good _ y h)
    by None g ih = sym (same-refused r y g)

numbers-told : (r : Refusal) (n : ℕ) (s : List ℕ) (at : ℕ) (y : Refusal) → numbers r n s at ≡ Err y → y ≡ r
unfolding numbers
numbers-told r zero s at y e = not_good ([], at) y e
numbers-told r (suc n) s at y e = by (number_at (sep_of n) s at) e (numbers-told r n s)
  where
    by : (x : Option (Placed ℤ)) → (got r x >>= λ z. numbers r n s z.1 >>= put z.0) ≡ Err y → ((q : ℕ) (w : Refusal) → numbers r n s q ≡ Err w → w ≡ r) → y ≡ r
    by (Some (v, q)) g ih = stopped (numbers r n s q) (put v) y g (ih q y) (λ z c h. not_good _ y h)
    by None g ih = sym (same-refused r y g)

row_told : (r : Refusal) (m n : ℕ) (s : List ℕ) (at : ℕ) (y : Refusal) → row r m n s at ≡ Err y → y ≡ r
unfolding row
row_told r m n s at y e =
    stopped {X = Placed (List ℕ)} _ _ y e (names-told r m s at y) (λ x c h. stopped {X = Placed (List ℤ)} _ _ y h (numbers-told r n s x.1 y) (λ z d g. not_good _ y g))

pub row-reader : (m n : ℕ) → LineReader (λ r s at. row r (suc m) (suc n) s at) row_text (Readable (suc m) (suc n))
row-reader m n = record {
  back = λ r x h s at t e. row_back r (suc m) (suc n) x h s at t e;
  stands = λ r s at x p e. let h = row-read r (suc m) n s at x p e in record { stand = h.stand; writable = h.readable; within = h.within };
  told = λ r s at y e. row_told r (suc m) (suc n) s at y e;
  line = λ x h. row_line (suc m) (suc n) x h;
  first = λ x h t. row_first m (suc n) x h t;
}

-- ---- the words of a column: what is listed is written so, and what is written is listed
listed-as : {X : Type 0} (P : ℕ → X → Type 0) (r : Refusal) (w : ℕ) (l : List (ℕ × X)) (x : X) → All (λ y. P y.0 y.1) l → listed r w l ≡ Ok x → P w x
unfolding listed
listed-as P r w [] x a e = not-refused r x e
listed-as P r w (y ∷ l) x a e =
    by-test (eqb w y.0) _ _ (Ok x) e (λ q g. subst (P w) (same_good y.1 x g) (subst (λ (v : ℕ). P v y.1) (sym (eqb-true w y.0 q)) a.0)) (λ q g. listed-as P r w l x a.1 g)

listed-told : {X : Type 0} (r : Refusal) (w : ℕ) (l : List (ℕ × X)) (y : Refusal) → listed r w l ≡ Err y → y ≡ r
unfolding listed
listed-told r w [] y e = sym (same-refused r y e)
listed-told r w (x ∷ l) y e = by-test (eqb w x.0) _ _ (Err y) e (λ q g. not_good x.1 y g) (λ q g. listed-told r w l y g)

abbrev Phased : Phases → Type 0
Phased f = (f.a ≡ true → ⊥) → (f.b ≡ true → ⊥) → (f.c ≡ true → ⊥) → ⊥

phases-listed : All (λ y. (y.0 ≡ phases_word y.1) × Phased y.1) phases_words
unfolding phases_word word pack bytes
phases-listed =
    ((refl, λ x y z. x refl), ((refl, λ x y z. y refl), ((refl, λ x y z. z refl), ((refl, λ x y z. x refl), ((refl, λ x y z. x refl), ((refl, λ x y z. y refl), ((refl, λ x y z. x refl), tt)))))))

phases-back : (r : Refusal) (a b c : Bool) → Phased (record { a = a; b = b; c = c }) → listed r (phases_word (record { a = a; b = b; c = c })) phases_words ≡ Ok (record { a = a; b = b; c = c })
unfolding listed phases_word word pack bytes
phases-back r true true true h = refl
phases-back r true true false h = refl
phases-back r true false true h = refl
phases-back r true false false h = refl
phases-back r false true true h = refl
phases-back r false true false h = refl
phases-back r false false true h = refl
phases-back r false false false h = absurd (h (λ e. clash true refl (sym e)) (λ e. clash true refl (sym e)) (λ e. clash true refl (sym e)))

kinds-listed : All (λ y. y.0 ≡ kind_word y.1) kind_words
unfolding kind_word
kinds-listed = (refl, (refl, (refl, (refl, tt))))

kind-back : (r : Refusal) (k : Kind) → listed r (kind_word k) kind_words ≡ Ok k
unfolding listed kind_word word pack bytes
kind-back r L = refl
kind-back r R = refl
kind-back r Y = refl
kind-back r D = refl

phase-listed : All (λ y. y.0 ≡ phase_word y.1) phase_words
unfolding phase_word
phase-listed = (refl, (refl, (refl, (refl, (refl, (refl, tt))))))

phase-back : (r : Refusal) (p : Terminals) → listed r (phase_word p) phase_words ≡ Ok p
unfolding listed phase_word word pack bytes
phase-back r OnA = refl
phase-back r OnB = refl
phase-back r OnC = refl
phase-back r AB = refl
phase-back r BC = refl
phase-back r CA = refl

loads-listed : All (λ y. y.0 ≡ load_word y.1) load_words
unfolding load_word
loads-listed = (refl, (refl, (refl, tt)))

load-kind-back : (r : Refusal) (k : LoadKind) → listed r (load_word k) load_words ≡ Ok k
unfolding listed load_word word pack bytes
load-kind-back r Power = refl
load-kind-back r Current = refl
load-kind-back r Impedance = refl

-- ---- a line of the branches: the row that is read is the row that the branch is written as
four : (ws : List ℕ) → length ws ≡ 4 → ws ≡ get_or ws 0 0 ∷ get_or ws 1 0 ∷ get_or ws 2 0 ∷ get_or ws 3 0 ∷ []
four [] n = absurd (omega arith)
four (a ∷ []) n = absurd (omega arith)
four (a ∷ b ∷ []) n = absurd (omega arith)
four (a ∷ b ∷ c ∷ []) n = absurd (omega arith)
four (a ∷ b ∷ c ∷ d ∷ []) n = refl
four (a ∷ b ∷ c ∷ d ∷ (e ∷ l)) n = absurd (omega arith)

three : {X : Type 0} (z : X) (ws : List X) → length ws ≡ 3 → ws ≡ get_or ws 0 z ∷ get_or ws 1 z ∷ get_or ws 2 z ∷ []
three z [] n = absurd (omega arith)
three z (a ∷ []) n = absurd (omega arith)
three z (a ∷ b ∷ []) n = absurd (omega arith)
three z (a ∷ b ∷ c ∷ []) n = refl
three z (a ∷ b ∷ c ∷ (d ∷ l)) n = absurd (omega arith)

branch-stands : (r : Refusal) (s : List ℕ) (at : ℕ) (b : BranchRow) (p : ℕ) → branch_row r s at ≡ Ok (b, p) → ReadAt branch_text BranchWritable s at b p
unfolding branch_row row_of_branch
branch-stands r s at b p e =
    let a = bound {X = Placed Row} _ _ (b, p) e in
    let c = bound {X = Phases} _ _ (b, p) a.rest in
    let d = bound {X = Kind} _ _ (b, p) c.rest in
    let x : Row = a.value.0 in
    let n : ℕ = a.value.1 in
    let made : BranchRow = record { from = word_of x 0; to = word_of x 1; phases = c.value; kind = d.value; p = x.values } in
    let h = row-read r 4 11 s at x n a.came in
    let f = listed-as (λ w y. (w ≡ phases_word y) × Phased y) r (word_of x 2) phases_words c.value phases-listed c.came in
    let k = listed-as (λ w y. w ≡ kind_word y) r (word_of x 3) kind_words d.value kinds-listed d.came in
    let w : x ≡ row_of_branch made = ap (λ (l : List ℕ). record { words = l; values = x.values }) (four x.words h.readable.words_are ∙ (λ i. word_of x 0 ∷ word_of x 1 ∷ f.0 i ∷ k i ∷ [])) in
    subst (λ (y : Placed BranchRow). ReadAt branch_text BranchWritable s at y.0 y.1) (same_good (made, n) (b, p) d.rest) (record {
      stand = h.stand ∙ ap (λ (y : Row). row_text y ++ drop n s) w;
      writable = record { row = subst (Readable 4 12) w h.readable; phased = f.1 };
      within = h.within;
    })

branch-told : (r : Refusal) (s : List ℕ) (at : ℕ) (y : Refusal) → branch_row r s at ≡ Err y → y ≡ r
unfolding branch_row
branch-told r s at y e =
    stopped {X = Placed Row} _ _ y e (row_told r 4 12 s at y) (λ x c f.
    stopped {X = Phases} _ _ y f (listed-told r (word_of x.0 2) phases_words y) (λ p d g.
    stopped {X = Kind} _ _ y g (listed-told r (word_of x.0 3) kind_words y) (λ k i h. not_good _ y h)))

pub branch-reader : LineReader branch_row branch_text BranchWritable
unfolding branch_row row_of_branch
branch-reader = record {
  back = λ r b h s at t e. rw (row_back r 4 12 (row_of_branch b) h.row s at t e, phases-back r b.phases.a b.phases.b b.phases.c h.phased, kind-back r b.kind) refl;
  stands = branch-stands;
  told = branch-told;
  line = λ b h. row_line 4 12 (row_of_branch b) h.row;
  first = λ b h t. row_first 3 12 (row_of_branch b) h.row t;
}

-- ---- a line of the loads
load-stands : (r : Refusal) (s : List ℕ) (at : ℕ) (l : LoadRow) (p : ℕ) → load_row r s at ≡ Ok (l, p) → ReadAt load_text LoadWritable s at l p
unfolding load_row row_of_load
load-stands r s at l p e =
    let a = bound {X = Placed Row} _ _ (l, p) e in
    let c = bound {X = Terminals} _ _ (l, p) a.rest in
    let d = bound {X = LoadKind} _ _ (l, p) c.rest in
    let x : Row = a.value.0 in
    let n : ℕ = a.value.1 in
    let made : LoadRow = record { node = word_of x 0; phase = c.value; kind = d.value; vn = nth x.values 1; s = record { re = nth x.values 2; im = nth x.values 3 } } in
    let h = row-read r 3 2 s at x n a.came in
    let f = listed-as (λ w y. w ≡ phase_word y) r (word_of x 1) phase_words c.value phase-listed c.came in
    let k = listed-as (λ w y. w ≡ load_word y) r (word_of x 2) load_words d.value loads-listed d.came in
    let w : x.words ≡ word_of x 0 ∷ phase_word c.value ∷ load_word d.value ∷ [] = three 0 x.words h.readable.words_are ∙ (λ i. word_of x 0 ∷ f i ∷ k i ∷ []) in
    let v = three (pos 0) x.values h.readable.values-are in
    let z : x ≡ row_of_load made = λ i. record { words = w i; values = v i } in
    subst (λ (y : Placed LoadRow). ReadAt load_text LoadWritable s at y.0 y.1) (same_good (made, n) (l, p) d.rest)
    (record { stand = h.stand ∙ ap (λ (y : Row). row_text y ++ drop n s) z; writable = subst (Readable 3 3) z h.readable; within = h.within })

load_told : (r : Refusal) (s : List ℕ) (at : ℕ) (y : Refusal) → load_row r s at ≡ Err y → y ≡ r
unfolding load_row
load_told r s at y e =
    stopped {X = Placed Row} _ _ y e (row_told r 3 3 s at y) (λ x c f.
    stopped {X = Terminals} _ _ y f (listed-told r (word_of x.0 1) phase_words y) (λ p d g.
    stopped {X = LoadKind} _ _ y g (listed-told r (word_of x.0 2) load_words y) (λ k i h. not_good _ y h)))

pub load-reader : LineReader load_row load_text LoadWritable
unfolding load_row row_of_load
load-reader = record {
  back = λ r l h s at t e. rw (row_back r 3 3 (row_of_load l) h s at t e, phase-back r l.phase, load-kind-back r l.kind) refl;
  stands = load-stands;
  told = load_told;
  line = λ l h. row_line 3 3 (row_of_load l) h;
  first = λ l h t. row_first 2 3 (row_of_load l) h t;
}
