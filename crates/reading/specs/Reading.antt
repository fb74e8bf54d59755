-- What the reading of a feeder file answers, by cases of the definition's outcome. Assumes nothing.
use Rattle.std.specs.Prelude.{List, ◌≡◌, refl, ◌+◌, ◌<◌, ◌≤◌, ℕ, nat_abs, get_or, length, Ok, Err, Result}
use Rattle.std.proofs.Common.{◌∙◌, ap, subst, sym, arith}
use Rattle.answers.specs.AnswerLaws.{not_good, same-refused}
use Rattle.answers.specs.Answers.{Done, Outcome, Told, number_of, value_of}
use Rattle.answers.specs.declared.Refusal.{Refusal}
use Rattle.feeder.specs.Faults.{PointsIntoFeeder}
use Rattle.feeder.specs.Feeder.{Feeder, reading, three_at}
use Rattle.feeder.proofs.FeederPoints.{points-into-feeder, reading-short}
use Rattle.feeder.specs.Layout.{Rows}
use Rattle.feeder.specs.Network.{Held, Tabled}
use Rattle.feeder.specs.Pointing.{turn}
use Rattle.feeder.specs.declared.Network.{Network}
use Rattle.feeder.specs.declared.Tables.{Tables}
use Rattle.names.specs.Numbered.{branches_in, loads_in, nodes_in}
use Rattle.radial.specs.Radial.{Linked, Ordered, parent_in}
use Rattle.text.specs.Lines.{nth}

-- all nodes stand in `order`, each after the one that feeds it, and `rank` has their places
pub record Arranged (g : Network) : Type 0 where
  pub linked : Linked g.branches g.rows
  pub ordered : Ordered (g.rows + 1) (parent_in g.branches) g.order g.rank (g.rows + 1)
  pub ranked : (i : ℕ) → i < g.rows + 1 → 0 < get_or g.rank i 0
  pub order-size : length g.order ≡ 201
  pub rank-size : length g.rank ≡ 201

-- the number and the value of each case: a good file has 0 and 0
abbrev pub read_number : Result Network Refusal → ℕ
read_number (Ok g) = 0
read_number (Err x) = number_of x

abbrev pub read_value : Result Network Refusal → ℕ
read_value (Ok g) = 0
read_value (Err x) = value_of x

-- an answer that tells the number and the value of the outcome o
abbrev pub ReadTold : Outcome Feeder → Result Network Refusal → Type 0
ReadTold o r = Told (λ f. 0) o (read_number r) (read_value r)

-- 02, S-4: an answer with the number and the line of a fault points at the first row that has it
abbrev pub ReadPoints : List ℕ → Result Network Refusal → Type 0
ReadPoints s r = PointsIntoFeeder s (length s ≤ 65536) (λ y. r ≡ Err y)

-- a feeder that is read stands in the network that the answer gives, in an order of work; else the one refusal is the answer
abbrev pub AnsweredBy : {X : Type 0} → Outcome Feeder → Result X Refusal → (X → Network) → Type 0
AnsweredBy (Ok f) (Ok x) network = Held f (network x) × Arranged (network x)
AnsweredBy (Ok f) (Err y) network = ⊥
AnsweredBy (Err y) r network = r ≡ Err y

-- the answer is the network
pub record ReadAs (o : Outcome Feeder) (r : Result Network Refusal) : Type 0 where
  pub answered : AnsweredBy o r (λ g. g)

-- the answer says whether the network has it
pub record ReadInto (o : Outcome Feeder) (r : Outcome Done) (g : Network) : Type 0 where
  pub answered : AnsweredBy o r (λ u. g)

-- the tables hold the rows of a file, and all of them
pub record Stored (t : Tables) : Type 0 where
  pub read : Rows
  pub tabled : Tabled read t
  pub few-rows : t.rows ≤ 200
  pub few-loads : t.count ≤ 300

-- g has the rows r of a file, with numbers for its nodes
pub record Numbered (r : Rows) (g : Network) : Type 0 where
  pub source : g.source ≡ three_at r.given 1
  pub tol : g.tol ≡ nat_abs (nth r.given 7)
  pub limit : g.limit ≡ nat_abs (nth r.given 8)
  pub rows : g.rows ≡ length r.branches
  pub nodes : g.nodes ≡ nodes_in r
  pub branches : g.branches ≡ branches_in r
  pub count : g.count ≡ length r.loads
  pub loads : g.loads ≡ loads_in r

-- the answer by an equal outcome
pub into-same : {o p : Outcome Feeder} {r : Outcome Done} {g : Network} → o ≡ p → ReadInto p r g → ReadInto o r g
into-same {o} {p} {r} {g} e h = record { answered = subst (λ (z : Outcome Feeder). AnsweredBy z r (λ u. g)) (sym e) h.answered }

pub into-refused : {o : Outcome Feeder} {x : Refusal} {r : Outcome Done} {g : Network} → o ≡ Err x → r ≡ Err x → ReadInto o r g
into-refused {o} {x} {r} {g} e h = into-same {p = Err x} e (record { answered = h })

-- what the answer says, where it is good and where it is refused
pub record ReadWhole (o : Outcome Feeder) (g : Network) : Type 0 where
  pub feeder : Feeder
  pub whole : o ≡ Ok feeder
  pub held : Held feeder g
  pub arranged : Arranged g

pub into-good : {o : Outcome Feeder} {r : Outcome Done} {g : Network} (u : Done) → ReadInto o r g → r ≡ Ok u → ReadWhole o g
into-good {o} {r} {g} u h e = go o refl (subst (λ (z : Outcome Done). AnsweredBy {X = Done} o z (λ v. g)) e h.answered)
  where
    go : (z : Outcome Feeder) → o ≡ z → AnsweredBy {X = Done} z (Ok u) (λ v. g) → ReadWhole o g
    go (Ok f) d w = record { feeder = f; whole = d; held = w.0; arranged = w.1 }
    go (Err y) d w = not_good u y w

pub into-bad : {o : Outcome Feeder} {r : Outcome Done} {g : Network} (x : Refusal) → ReadInto o r g → r ≡ Err x → o ≡ Err x
into-bad {o} {r} {g} x h e = go o refl (subst (λ (z : Outcome Done). AnsweredBy {X = Done} o z (λ v. g)) e h.answered)
  where
    go : (z : Outcome Feeder) → o ≡ z → AnsweredBy {X = Done} z (Err x) (λ v. g) → o ≡ Err x
    go (Ok f) d w = absurd w
    go (Err y) d w = d ∙ ap (λ (z : Refusal). Err z) (sym (same-refused x y w))

-- the same where the network is the answer
pub into-as : {o : Outcome Feeder} {r : Outcome Done} {g : Network} (u : Done) → ReadInto o r g → r ≡ Ok u → ReadAs o (Ok g)
into-as {o} {r} {g} u h e =
    let w = into-good u h e in
    record { answered = subst (λ (z : Outcome Feeder). AnsweredBy z (Ok g) (λ x. x)) (sym w.whole) (w.held, w.arranged) }

pub into-as-bad : {o : Outcome Feeder} {r : Outcome Done} {g : Network} (x : Refusal) → ReadInto o r g → r ≡ Err x → ReadAs o (Err x)
into-as-bad x h e = record { answered = subst (λ (z : Outcome Feeder). AnsweredBy z (Err x) (λ g. g)) (sym (into-bad x h e)) refl }

-- such an answer tells its outcome's number and value
pub as-told : {o : Outcome Feeder} {r : Result Network Refusal} → ReadAs o r → ReadTold o r
as-told {o} {r} h = go o r h.answered
  where
    go : (o : Outcome Feeder) (r : Result Network Refusal) → AnsweredBy o r (λ g. g) → ReadTold o r
    go (Ok f) (Ok g) a = record { number = refl; value = refl }
    go (Ok f) (Err y) a = absurd a
    go (Err x) r a = rw a (record { number = refl; value = refl })

-- and points at the first row with a fault
pub as-points : (s : List ℕ) {r : Result Network Refusal} → ReadAs (reading s) r → ReadPoints s r
as-points s {r} h = points-into-feeder s (record {
  short = λ q. q;
  into = λ q y e. subst (λ (o : Outcome Feeder). AnsweredBy o r (λ g. g)) e h.answered;
  back = λ y p q t. go y p (reading s) refl (subst (λ (z : Result Network Refusal). AnsweredBy (reading s) z (λ g. g)) t h.answered);
})
  where
    go : (y : Refusal) → 2 ≤ turn y → (o : Outcome Feeder) → reading s ≡ o → AnsweredBy {X = Network} o (Err y) (λ g. g) → (length s ≤ 65536) × (reading s ≡ Err y)
    go y p (Ok f) e a = absurd a
    go y p (Err x) e a =
        let f : reading s ≡ Err y = e ∙ ap (λ (z : Refusal). Err z) (sym (same-refused y x a)) in
        (reading-short s y f (omega arith), f)
