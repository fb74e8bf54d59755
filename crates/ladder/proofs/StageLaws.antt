-- A stage that refuses, and the report of a solution over the arrays. Assumes nothing.
use Rattle.std.specs.Prelude.{false, true, List, ◌++◌, ◌∷◌, map, ◌≡◌, refl, ◌+◌, ◌<◌, ◌≤◌, suc, zero, ℕ, ltb, drop, get_or, length, Ok, Err}
use Rattle.std.proofs.Common.{◌∙◌, ap, subst, sym, arith}
use Rattle.std.proofs.lemmas.List.{length-map}
use Rattle.answers.specs.AnswerLaws.{not-refused, not_good, same-refused, same_good}
use Rattle.answers.specs.Answers.{Outcome, ◌>>=◌}
use Rattle.answers.specs.declared.Refusal.{Refusal}
use Rattle.answers.specs.declared.Refusal.TheVariants.{BufferShort}
use Rattle.equations.specs.Equations.{drawn_power, loss_of, power, source_power, zero3}
use Rattle.feeder.specs.Feeder.{Feeder, branch_at, no_branch, parent, reading, row_count, rows_of}
use Rattle.feeder.specs.Network.{Held}
use Rattle.feeder.specs.NetworkLaws.{get_or_kept}
use Rattle.feeder.specs.declared.Network.{Network}
use Rattle.feeder.specs.Phased.{Three}
use Rattle.integers.specs.ListLaws.{get_or_map, get_or-tab, length-tab}
use Rattle.integers.specs.Lists.{count}
use Rattle.integers.specs.Pairs.{0c}
use Rattle.integers.specs.declared.Pair.{Pair}
use Rattle.iteration.specs.Ladder.{Solution}
use Rattle.iteration.specs.Runs.{GoodRun}
use Rattle.iteration.proofs.RunLaws.{same-array}
use Rattle.ladder.specs.Stages.{StudyAs, fitted-is, fitted_from, fitted_with, study-same, text_of}
use Rattle.ladder.specs.Study.{buffer_of, study_of}
use Rattle.iteration.specs.declared.Run.{Run}
use Rattle.ladder.specs.declared.Written.{Written}
use Rattle.passes.specs.Passes.{LossesAre}
use Rattle.passes.specs.Same.{Same, loss-same, lost-same, source-same}
use Rattle.report_writer.specs.ReportIs.{Shown}
use Rattle.report_writer.specs.Tables.{Linked}
use Rattle.rounds.specs.Rounds.{Regulated, regulated}
use Rattle.rounds.specs.Turns.{RegulatedAs}
use Rattle.sweeps.specs.Sweeps.{Known}

-- ---- the whole
pub study-whole : (s : List ℕ) (out : List ℕ) (r : Outcome Written) (last : List ℕ) → StudyAs (reading s >>= λ f. fitted_from f (length out)) out r last → (r ≡ study_of s (length out)) × (last ≡ buffer_of s out)
unfolding study_of buffer_of
study-whole s out r last h = let w = study-same (fitted-is s (length out)) h in (w.answer, w.buffer)

pub whole-refused : (s : List ℕ) (out : List ℕ) (x : Refusal) (r : Outcome Written) (last : List ℕ) → reading s ≡ Err x → r ≡ Err x → last ≡ out → StudyAs (reading s >>= λ f. fitted_from f (length out)) out r last
whole-refused s out x r last e q b = study-same {p = Err x} (rw e) (record { answer = q; buffer = b })

pub whole-read : (s : List ℕ) (out : List ℕ) (f : Feeder) (r : Outcome Written) (last : List ℕ) → reading s ≡ Ok f → StudyAs (fitted_from f (length out)) out r last → StudyAs (reading s >>= λ f. fitted_from f (length out)) out r last
whole-read s out f r last e h = study-same {p = fitted_from f (length out)} (rw e) h

-- ---- the rounds' end
pub record RunGood (f : Feeder) (r : Run) (n : Network) (v i : List Three) : Type 0 where
  pub found : Regulated
  pub whole : regulated f ≡ Ok found
  pub held : Held found.feeder n
  pub sweeps : r.sweeps ≡ found.solution.sweeps
  pub good-run : GoodRun found.feeder found.solution v i r.drawn

pub run-good : (f : Feeder) (o : Outcome Run) (r : Run) (n : Network) (v i : List Three) → RegulatedAs (regulated f) o n v i → o ≡ Ok r → RunGood f r n v i
run-good f o r n v i h e = go (regulated f) refl h
  where
    go : (p : Outcome Regulated) → regulated f ≡ p → RegulatedAs p o n v i → RunGood f r n v i
    go (Ok y) q h =
        let s = h.regulating-is.1 in
        let b : record { sweeps = y.solution.sweeps; drawn = drawn_power y.feeder y.solution.voltages } ≡ r = same_good _ r (sym s.run-is ∙ e) in
        record {
          found = y;
          whole = q;
          held = h.regulating-is.0;
          sweeps = sym (ap (λ (z : Run). z.sweeps) b);
          good-run = subst (λ (z : Pair). GoodRun y.feeder y.solution v i z) (ap (λ (z : Run). z.drawn) b) s.arrays-are;
        }
    go (Err y) q h = not-refused y r (sym h.regulating-is ∙ e)

pub run-refused : (f : Feeder) (x : Refusal) (o : Outcome Run) (n : Network) (v i : List Three) → RegulatedAs (regulated f) o n v i → o ≡ Err x → regulated f ≡ Err x
run-refused f x o n v i h e = go (regulated f) refl h
  where
    go : (p : Outcome Regulated) → regulated f ≡ p → RegulatedAs p o n v i → regulated f ≡ Err x
    go (Ok y) q h = not_good _ x (sym h.regulating-is.1.run-is ∙ e)
    go (Err y) q h = q ∙ ap (λ (z : Refusal). Err z) (same-refused y x (sym h.regulating-is ∙ e))

pub from-refused : (f : Feeder) (out : List ℕ) (x : Refusal) (r : Outcome Written) (last : List ℕ) → regulated f ≡ Err x → r ≡ Err x → last ≡ out → StudyAs (fitted_from f (length out)) out r last
unfolding fitted_from
from-refused f out x r last e q b = study-same {p = Err x} (rw e) (record { answer = q; buffer = b })

pub from-regulated : (f : Feeder) (out : List ℕ) (y : Regulated) (r : Outcome Written) (last : List ℕ) → regulated f ≡ Ok y → StudyAs (fitted_with y.feeder y.solution (length out)) out r last
    → StudyAs (fitted_from f (length out)) out r last
unfolding fitted_from
from-regulated f out y r last e h = study-same {p = fitted_with y.feeder y.solution (length out)} (rw e) h

-- ---- the report of a solution
pub linked : {g : Network} → Known g → Linked g
linked {g} known = λ k p q. (let w = known.arranged.linked in let n = w.few in let e : (get_or g.branches k no_branch).from < g.rows + 1 = w.from k (omega arith) in omega arith)

pub source_is : {f : Feeder} {g : Network} → Held f g → (i : List Three) (p : Pair) → p ≡ power g.source (get_or i 0 zero3) → p ≡ source_power f i
unfolding source_power
source_is held i p e = e ∙ ap (λ (u : Three). power u (get_or i 0 zero3)) held.source

pub with-short : (f : Feeder) (x : Solution) (out : List ℕ) (n : ℕ) (r : Outcome Written) (last : List ℕ) → n ≡ length (text_of f x) → ltb (length out) n ≡ true → r ≡ Err (BufferShort n) → last ≡ out
    → StudyAs (fitted_with f x (length out)) out r last
unfolding fitted_with
with-short f x out n r last e h q b =
    let t : ltb (length out) (length (text_of f x)) ≡ true = rw e at h in
    study-same {p = Err (BufferShort (length (text_of f x)))} (rw t) (record { answer = q ∙ ap (λ (m : ℕ). Err (BufferShort m)) e; buffer = b })

pub with-room : (f : Feeder) (x : Solution) (out : List ℕ) (n len k : ℕ) (last : List ℕ) → n ≡ length (text_of f x) → ltb (length out) n ≡ false → k ≡ x.sweeps → len ≡ length (text_of f x)
    → last ≡ text_of f x ++ drop (length (text_of f x)) out → StudyAs (fitted_with f x (length out)) out (Ok (record { length = len; sweeps = k })) last
unfolding fitted_with
with-room f x out n len k last e h s l b =
    let t : ltb (length out) (length (text_of f x)) ≡ false = rw e at h in
    study-same {p = Ok (record { text = text_of f x; sweeps = x.sweeps })} (rw t) (record { answer = λ i. Ok (record { length = l i; sweeps = s i }); buffer = b })

loss-at : (f : Feeder) (i : List Three) (l : List Pair) (sum : Pair) → row_count f ≤ 200 → LossesAre f i l sum → (k : ℕ) → 0 < k → k ≤ row_count f → get_or l k 0c ≡ loss_of f i k
unfolding count
loss-at f i l sum few h zero p q = absurd (omega arith)
loss-at f i l sum few h (suc k) p q =
    let n = length-map (rows_of f) (loss_of f i) in
    let m = length-tab (λ (j : ℕ). j) 1 (row_count f) in
    rw h.each-is (
    get_or_kept 0c 201 (0c ∷ map (loss_of f i) (rows_of f)) (suc k) (omega arith)
    ∙ get_or_map (loss_of f i) (rows_of f) k 0 0c (omega arith)
    ∙ ap (loss_of f i) (let z : 1 + k ≡ suc k = omega arith in rw z at (get_or-tab (λ (j : ℕ). j) 1 (row_count f) k 0 (omega arith)))
    )

module _ {g : Network} (known : Known g) (f : Feeder) (held : Held f g) (x : Solution) (v i : List Three) (drawn : Pair) (run : GoodRun f x v i drawn) (l : List Pair) (sum : Pair) (lost : LossesAre f i l sum) where
  branch_held : (k : ℕ) → get_or g.branches k no_branch ≡ branch_at f k
  unfolding branch_at
  branch_held k = rw held.branches (get_or_kept no_branch 201 (no_branch ∷ f.branches) k (let q = held.few-rows in omega arith))

  same-v : Same v x.voltages
  same-v = same-array v x.voltages run.voltages-are run.few-voltages

  same-i : Same i x.currents
  same-i = same-array i x.currents run.currents-are run.few-currents

  pub shown : (source : Pair) → source ≡ source_power f i → (k : ℕ) (signed : k < 9223372036854775808) → Shown f x.voltages x.currents g v i l (record { sweeps = k; source = source; drawn = drawn; lost = sum; signed = signed })
  shown source e k signed = record {
    count = held.rows;
    names = held.nodes;
    held = held.branches;
    from = λ j p q. (let n = held.rows in let m = held.few-rows in let w : (get_or g.branches j no_branch).from < g.rows + 1 = known.arranged.linked.from j (omega arith) in let b : (get_or g.branches j no_branch).from ≡ parent f j = ap (λ b. b.from) (branch_held j) in omega arith);
    voltages = λ j q. same-v.place j;
    currents = λ j p q. same-i.place j;
    loss = λ j p q. loss-at f i l sum held.few-rows lost j p q ∙ loss-same f same-i j;
    source = e ∙ source-same f same-i;
    drawn = run.drawn-is;
    lost = lost.sum_is ∙ lost-same f same-i;
  }
