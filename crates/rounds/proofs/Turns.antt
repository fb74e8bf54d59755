-- What the rounds come to over a feeder in memory: each round is one step of the definition. Assumes nothing.
use Rattle.std.specs.Prelude.{Bool, cond, false, not, true, List, ◌≡◌, refl, ◌+◌, ◌<◌, ◌≤◌, suc, zero, ℕ, get_or, Ok, Err}
use Rattle.std.proofs.Common.{◌∙◌, ap, sym, arith}
use Rattle.answers.specs.AnswerLaws.{not-refused, same_good}
use Rattle.answers.specs.Answers.{Outcome, ◌>>=◌}
use Rattle.answers.specs.declared.Refusal.{Refusal}
use Rattle.answers.specs.declared.Refusal.TheVariants.{TapsMoving}
use Rattle.equations.specs.Equations.{beyond3, voltage_beyond, zero3}
use Rattle.equations.specs.Sizes.{Within3, beyond3-false}
use Rattle.equations.proofs.TapMoves.{rest-same}
use Rattle.equations.specs.Taps.{at_rest, moved}
use Rattle.feeder.specs.Feeder.{Feeder, row_count, with_taps}
use Rattle.feeder.specs.Network.{Held, branch_array}
use Rattle.feeder.proofs.TapLaws.{retapped-self, retapped-with}
use Rattle.feeder.specs.declared.Branch.{Branch}
use Rattle.feeder.specs.declared.Network.{Network}
use Rattle.feeder.specs.Phased.{Three}
use Rattle.integers.specs.ListLaws.{any_false, tab-all}
use Rattle.integers.specs.Lists.{any, count}
use Rattle.iteration.specs.Ladder.{Solution, solution}
use Rattle.iteration.proofs.LadderLaws.{solved}
use Rattle.iteration.proofs.RunLaws.{same-array}
use Rattle.iteration.specs.Runs.{GoodRun, SolvedAs}
use Rattle.iteration.specs.declared.Run.{Run}
use Rattle.passes.specs.Same.{Same}
use Rattle.rounds.specs.Moving.{moved_same, moved-small, rest_at}
use Rattle.rounds.specs.Rounds.{Regulated, regulated, rounds}
use Rattle.rounds.proofs.RoundsLaws.{rounds-step}
use Rattle.sweeps.specs.Retapped.{retapped-held, retapped-known, with_branches}
use Rattle.sweeps.specs.Sweeps.{Known}
use Rattle.rounds.specs.Turns.{RegulatedAs}

-- with `left` rounds to go the arrays hold a feeder whose rounds are those of f
pub record Reached (f : Feeder) (left : ℕ) (n : Network) : Type 0 where
  pub feeder : Feeder
  pub held : Held feeder n
  pub same : regulated f ≡ rounds left feeder

pub reached-start : (f : Feeder) (n : Network) → Held f n → Reached f 32 n
unfolding regulated
reached-start f n h = record { feeder = f; held = h; same = refl }

pub reached-last : (f : Feeder) (n : Network) → Reached f 0 n → (v i : List Three) → RegulatedAs (regulated f) (Err (TapsMoving 32)) n v i
unfolding rounds
reached-last f n w v i = record { regulating-is = rw w.same refl }

-- ---- a run that is solved
pub record Found (f : Feeder) (r : Run) (v i : List Three) : Type 0 where
  pub value : Solution
  pub came : solution f ≡ Ok value
  pub sweeps : r.sweeps ≡ value.sweeps
  pub run : GoodRun f value v i r.drawn

pub found : (f : Feeder) (r : Run) (v i : List Three) → SolvedAs f (solution f) (Ok r) v i → Found f r v i
found f r v i s = go (solution f) refl s
  where
    go : (o : Outcome Solution) → solution f ≡ o → SolvedAs f o (Ok r) v i → Found f r v i
    go (Ok x) z h =
        let e = same_good r _ h.run-is in
        record { value = x; came = z; sweeps = ap (λ (y : Run). y.sweeps) e; run = rw (ap (λ (y : Run). y.drawn) e) h.arrays-are }
    go (Err y) z h = not-refused y r (sym h.run-is)

row-false : (f : ℕ → Bool) (n : ℕ) → any f (count 1 n) ≡ false → (j : ℕ) → j < n → f (suc j) ≡ false
unfolding count
row-false f n e j q = let z : 1 + j ≡ suc j = omega arith in rw z at (tab-all (λ k. f k ≡ false) (λ i. i) 1 n (any_false f (count 1 n) e) j q)

-- its voltages are within the limit: 33
pub found_within : (f : Feeder) (r : Run) (v i : List Three) → Found f r v i → (k : ℕ) → 0 < k → k < row_count f + 1 → Within3 2000000 (get_or v k zero3)
unfolding voltage_beyond
found_within f r v i w zero p q = absurd (omega arith)
found_within f r v i w (suc k) p q =
    let x = w.value in
    rw ((same-array v x.voltages w.run.voltages-are w.run.few-voltages).place (suc k))
    (beyond3-false (row-false (λ k. beyond3 (get_or x.voltages k zero3)) (row_count f) (solved f x w.came).t33 k (omega arith)))

-- ---- one round
module _ (f : Feeder) (left : ℕ) (n : Network) (w : Reached f (suc left) n) where
  abbrev g : Feeder
  g = w.feeder

  abbrev next : Solution → Outcome Regulated
  next x = cond (at_rest g x.voltages x.currents) (Ok (record { feeder = g; solution = x })) (rounds left (with_taps (moved g x.voltages x.currents) g))

  step : regulated f ≡ (solution g >>= next)
  step = w.same ∙ rounds-step left g

  pub round-stops : (x : Refusal) (v i : List Three) → SolvedAs g (solution g) (Err x) v i → (m : Network) (u j : List Three) → RegulatedAs (regulated f) (Err x) m u j
  round-stops x v i s m u j = go (solution g) refl s
    where
      go : (o : Outcome Solution) → solution g ≡ o → SolvedAs g o (Err x) v i → RegulatedAs (regulated f) (Err x) m u j
      go (Ok y) z h = not-refused x _ h.run-is
      go (Err y) z h = record { regulating-is = rw (step ∙ ap (λ (o : Outcome Solution). o >>= next) z) h.run-is }

  module _ (r : Run) (v i : List Three) (s : SolvedAs g (solution g) (Ok r) v i) (moving : Bool) (bs : List Branch) (m : moving ≡ not (at_rest g v i)) (b : bs ≡ branch_array (with_taps (moved g v i) g)) (few_rows : n.rows ≤ 200) (few_loads : n.count ≤ 300) where
    y : Found g r v i
    y = found g r v i s

    abbrev x : Solution
    x = y.value

    sv : Same v x.voltages
    sv = same-array v x.voltages y.run.voltages-are y.run.few-voltages

    si : Same i x.currents
    si = same-array i x.currents y.run.currents-are y.run.few-currents

    here : regulated f ≡ next x
    here = step ∙ ap (λ (o : Outcome Solution). o >>= next) y.came

    turned : (c d : Bool) → c ≡ not d → d ≡ not c
    turned true true e = e
    turned true false e = refl
    turned false true e = refl
    turned false false e = e

    rest : (c : Bool) → moving ≡ c → at_rest g x.voltages x.currents ≡ not c
    rest c z = sym (rest_at g sv si) ∙ turned moving (at_rest g v i) m ∙ ap not z

    pub round-rests : moving ≡ false → RegulatedAs (regulated f) (Ok r) (with_branches bs n few_rows few_loads) v i
    round-rests z =
        let same : with_taps (moved g v i) g ≡ g = rest-same g v i (turned moving (at_rest g v i) m ∙ ap not z) in
        let o : regulated f ≡ Ok (record { feeder = g; solution = x }) = here ∙ ap (λ (c : Bool). cond c (Ok (record { feeder = g; solution = x })) (rounds left (with_taps (moved g x.voltages x.currents) g))) (rest false z) in
        let a : SolvedAs g (Ok x) (Ok r) v i = rw y.came at s in
        record { regulating-is = rw o (retapped-held n bs few_rows few_loads g g (retapped-self g) (b ∙ ap branch_array same) w.held, a) }

    pub round-moves : moving ≡ true → Reached f left (with_branches bs n few_rows few_loads)
    round-moves z =
        let t = moved_same g sv si in
        let o : regulated f ≡ rounds left (with_taps (moved g x.voltages x.currents) g) = here ∙ ap (λ (c : Bool). cond c (Ok (record { feeder = g; solution = x })) (rounds left (with_taps (moved g x.voltages x.currents) g))) (rest true z) in
        record {
          feeder = with_taps (moved g v i) g;
          held = retapped-held n bs few_rows few_loads g (with_taps (moved g v i) g) (retapped-with g g (moved g v i) (retapped-self g)) b w.held;
          same = o ∙ sym (ap (λ (l : List _). rounds left (with_taps l g)) t);
        }

-- arrays with moved taps are known
pub known-moved : (n : Network) (w : Known n) (v i : List Three) (bs : List Branch) → bs ≡ branch_array (with_taps (moved w.feeder v i) w.feeder) → (few_rows : n.rows ≤ 200) (few_loads : n.count ≤ 300)
    → Known (with_branches bs n few_rows few_loads)
known-moved n w v i bs e few_rows few_loads =
    let g = w.feeder in
    retapped-known n bs few_rows few_loads w (with_taps (moved g v i) g) (retapped-with g g (moved g v i) (retapped-self g)) (moved-small g v i w.fit) e
