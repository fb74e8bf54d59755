-- The iteration over arrays is the definition's: each sweep is one step of it. Assumes nothing.
use Rattle.std.specs.Prelude.{Bool, cond, false, true, List, [], ◌≡◌, refl, ◌+◌, ◌-◌, ◌<◌, ◌≤◌, suc, zero, ℕ, get_or, length, replicate, Option, Some, None, Result, Ok, Err, OnOk}
use Rattle.std.specs.Result.{result_or}
use Rattle.std.proofs.Common.{◌∙◌, ap, subst, sym, arith}
use Rattle.answers.specs.Answers.{Done, Outcome, ◌>>◌, refuse_if}
use Rattle.answers.specs.declared.Refusal.{Refusal}
use Rattle.answers.specs.declared.Refusal.TheVariants.{CurrentBeyond, LoadBeyond, NotSettled, VoltageBeyond, ZeroVoltage}
use Rattle.arrays.specs.ArrayLaws.{spare-blank}
use Rattle.equations.specs.Equations.{at, current_beyond, currents, drawn_power, load_beyond, voltage_beyond, voltages, zero3, zero_voltage}
use Rattle.equations.specs.Sizes.{within3-zero}
use Rattle.feeder.specs.Feeder.{Feeder, abc, row_count, rows_of}
use Rattle.feeder.specs.Network.{kept}
use Rattle.feeder.specs.Phased.{Three}
use Rattle.integers.specs.ListLaws.{count-true, length-tab}
use Rattle.integers.specs.Lists.{all, count}
use Rattle.integers.specs.Pairs.{close}
use Rattle.iteration.specs.Ladder.{Solution, settled, solution, sweep}
use Rattle.iteration.proofs.LadderLaws.{sweep-step}
use Rattle.iteration.specs.Runs.{Room, SolvedAs, SweptIs, step_at, step_of, still_at}
use Rattle.integers.specs.declared.Pair.{Pair}
use Rattle.passes.specs.Passes.{DownwardIs, unless_beyond}
use Rattle.passes.specs.declared.Beyond.{Beyond}
use Rattle.passes.specs.Same.{Same, currents-same, drawn-same, load-beyond-same, same_kept, voltages-same, zero-voltage-same}
use Rattle.sweeps.specs.Sweeps.{WorkedIs, refusal_of, work_of}
use Rattle.sweeps.specs.SweepsLaws.{Workable, was-beyond, was-within, workable}
use Rattle.sweeps.specs.declared.WorkError.{WorkError}

-- ---- tests over the rows
pub one-moved : (f : ℕ → Bool) (n k : ℕ) → 0 < k → k ≤ n → f k ≡ false → all f (count 1 n) ≡ false
one-moved f n zero p q e = absurd (omega arith)
one-moved f n (suc k) p q e = go (all f (count 1 n)) refl
  where
    go : (c : Bool) → all f (count 1 n) ≡ c → c ≡ false
    go true z = sym (let w : 1 + k ≡ suc k = omega arith in rw w at (count-true f 1 n z k (omega arith))) ∙ e
    go false z = refl

-- ---- lists and arrays
pub voltages-short : (f : Feeder) (i : List Three) → row_count f ≤ 200 → length (voltages f i) ≤ 201
unfolding voltages
voltages-short f i h = rw (length-tab _ 0 (suc (row_count f))) (omega arith)

pub currents-short : (f : Feeder) (v : List Three) → row_count f ≤ 200 → length (currents f v) ≤ 201
unfolding currents
currents-short f v h = rw (length-tab _ 0 (suc (row_count f))) (omega arith)

zeros-place : (n k : ℕ) → get_or (replicate n zero3) k zero3 ≡ zero3
zeros-place zero k = refl
zeros-place (suc n) zero = refl
zeros-place (suc n) (suc k) = zeros-place n k

pub same-zeros : (n : ℕ) → Same (replicate n zero3) []
same-zeros n = record { place = zeros-place n }

-- an array as it is made has room for voltages
pub room-made : (rows : ℕ) → Room rows (replicate 201 zero3)
room-made rows = record { spare = spare-blank rows; each = λ k. rw (zeros-place 201 k) within3-zero }

-- an array and the list that it keeps
pub same-array : (v l : List Three) → v ≡ kept zero3 201 l → length l ≤ 201 → Same v l
same-array v l e h = let w = same_kept 201 l h in record { place = λ k. ap (λ (x : List Three). get_or x k zero3) e ∙ w.place k }

settled_same : (f : Feeder) {v l w m : List Three} → Same v l → Same w m → settled f v w ≡ settled f l m
unfolding settled
settled_same f p q = λ t. all (λ k. all (λ x. close f.tol (at (q.place k t) x) (at (p.place k t) x)) abc) (rows_of f)

-- what the code tests is whether the voltages settled
pub settled_is : (f : Feeder) (rows tol : ℕ) (v w m : List Three) → rows ≡ row_count f → tol ≡ f.tol → Same w m → all (still_at tol v w) (count 1 rows) ≡ settled f v m
unfolding settled
settled_is f rows tol v w m e t h = there ∙ settled_same f {v = v} {l = v} {w = w} {m = m} (record { place = λ k. refl }) h
  where
    there : all (still_at tol v w) (count 1 rows) ≡ settled f v w
    there = λ i. all (still_at (t i) v w) (count 1 (e i))

-- what holds where a pass is not refused
on_ok : {P : Type 0} {r : Result Done Beyond} (u : Done) → r ≡ Ok u → OnOk r P → P
on_ok {P} u e h = subst (λ (y : Result Done Beyond). OnOk y P) e h

-- a pass that is refused by 33, as `or` says it
pub or-ok : (r : Result Done Beyond) (y : Refusal) (u : Done) → Ok u ≡ result_or r (Err y) → r ≡ Ok u
or-ok (Ok w) y u e = refl
or-ok (Err x) y u e = let z : ◌≡◌ {A = ℕ} 0 1 = cc in absurd (omega arith)

pub or-err : (r : Result Done Beyond) (y x : Refusal) → Err x ≡ result_or r (Err y) → (r ≡ Err (record {})) × (x ≡ y)
or-err (Ok w) y x e = let z : ◌≡◌ {A = ℕ} 0 1 = cc in absurd (omega arith)
or-err (Err b) y x e = (refl, cc)

-- ---- a sweep
-- one of 30 to 32
pub swept-refused : (f : Feeder) (v : List Three) (k : ℕ) (next i : List Three) (x : WorkError) → WorkedIs f v (Err x) i → SweptIs f v k (Err (refusal_of x k)) next i
swept-refused f v k next i x of = record { step_is = go (zero_voltage f v) (load_beyond f v) (current_beyond f (currents f v)) _ _ (drawn_power f v) of.work-is; arrays-are = tt }
  where
    same : {y : WorkError} → ◌≡◌ {A = Result Pair WorkError} (Err x) (Err y) → ◌≡◌ {A = Outcome (Option Pair)} (Err (refusal_of x k)) (Err (refusal_of y k))
    same {y} e = let z : x ≡ y = cc in ap (λ (w : WorkError). Err (refusal_of w k)) z

    go : (a b c d s : Bool) (p : Pair) → Err x ≡ work_of a b c p → Err (refusal_of x k) ≡ step_of k a b c d s p
    go true b c d s p e = same e
    go false true c d s p e = same e
    go false false true d s p e = same e
    go false false false d s p e = let z : ◌≡◌ {A = ℕ} 0 1 = cc in absurd (omega arith)

-- 33, and whether the voltages settled
module _ (f : Feeder) (v : List Three) (drawn : Pair) (i : List Three) (of : WorkedIs f v (Ok drawn) i) (few : row_count f ≤ 200) (r : Result Done Beyond) (next : List Three) (down : DownwardIs f i r next) where
  work : Workable f v drawn i
  work = workable f v drawn i of

  -- the voltages from an array of currents are those from the list
  far : voltages f i ≡ voltages f (currents f v)
  far = voltages-same f (same-array i (currents f v) work.currents-are (currents-short f v few))

  high_is : r ≡ unless_beyond (voltage_beyond f (voltages f (currents f v)))
  high_is = rw far at down.answer-is

  stored : (u : Done) → r ≡ Ok u → next ≡ kept zero3 201 (voltages f (currents f v))
  stored u o = rw far at (on_ok u o down.at-is)

  pub same_next : (u : Done) → r ≡ Ok u → Same next (voltages f (currents f v))
  same_next u o = same-array next (voltages f (currents f v)) (stored u o) (voltages-short f (currents f v) few)

  module _ (k : ℕ) where
    -- the step where none of 30 to 32 holds
    late : (d s : Bool) → voltage_beyond f (voltages f (currents f v)) ≡ d → settled f v (voltages f (currents f v)) ≡ s → step_at f v k ≡ step_of k false false false d s drawn
    late d s q t = rw (work.t30, work.t31, work.t32, q, t, ← work.drawn-is) refl

    pub swept-high : (x : Beyond) → r ≡ Err x → SweptIs f v k (Err (VoltageBeyond k)) next i
    swept-high x o = record { step_is = sym (late true _ (was-beyond _ x (sym high_is ∙ o)) refl); arrays-are = tt }

    pub swept-settled : (u : Done) → r ≡ Ok u → settled f v (voltages f (currents f v)) ≡ true → SweptIs f v k (Ok (Some drawn)) next i
    swept-settled u o t = record { step_is = sym (late false true (was-within _ u (sym high_is ∙ o)) t); arrays-are = work.currents-are }

    pub swept-again : (u : Done) → r ≡ Ok u → settled f v (voltages f (currents f v)) ≡ false → SweptIs f v k (Ok None) next i
    swept-again u o t = record { step_is = sym (late false false (was-within _ u (sym high_is ∙ o)) t); arrays-are = stored u o }

-- ---- the iteration
-- what the definition makes of a step
abbrev by_step : Outcome (Option Pair) → Outcome Solution → Outcome Solution → Outcome Solution
by_step (Err r) x y = Err r
by_step (Ok (Some drawn)) x y = x
by_step (Ok None) x y = y

by-step : (f : Feeder) (left k : ℕ) (v l : List Three) → Same v l → sweep f (suc left) k l
    ≡ by_step (step_at f v k) (Ok (record { voltages = l; currents = currents f v; sweeps = k })) (sweep f left (k + 1) (voltages f (currents f v)))
by-step f left k v l s =
    sweep-step f left k l ∙
    rw (← zero-voltage-same f s, ← load-beyond-same f s, ← currents-same f s, ← settled_same f {v = v} {l = l} {w = voltages f (currents f v)} {m = voltages f (currents f v)} s (record { place = λ j. refl }))
    (go (zero_voltage f v) (load_beyond f v) (current_beyond f (currents f v)) (voltage_beyond f (voltages f (currents f v))) (settled f v (voltages f (currents f v))) (drawn_power f v) _ _)
  where
    go : (a b c d e : Bool) (p : Pair) (x y : Outcome Solution) →
        (refuse_if a (ZeroVoltage k) >> (refuse_if b (LoadBeyond k) >> (refuse_if c (CurrentBeyond k) >> (refuse_if d (VoltageBeyond k) >> cond e x y)))) ≡ by_step (step_of k a b c d e p) x y
    go true b c d e p x y = refl
    go false true c d e p x y = refl
    go false false true d e p x y = refl
    go false false false true e p x y = refl
    go false false false false true p x y = refl
    go false false false false false p x y = refl

-- before sweep k: the array keeps voltages from which the rest of the run is the run
pub record Here (f : Feeder) (k : ℕ) (v : List Three) : Type 0 where
  pub list : List Three
  pub stored : v ≡ kept zero3 201 list
  pub short : length list ≤ 201
  pub rest : sweep f ((f.limit + 1) - k) k list ≡ solution f

pub here-start : (f : Feeder) (z : List Three) (r : Result Done Beyond) (v : List Three) → row_count f ≤ 200 → Same z [] → DownwardIs f z r v → (u : Done) → r ≡ Ok u → Here f 1 v
unfolding solution
here-start f z r v few none down u o =
    let e = voltages-same f none in
    let b : voltage_beyond f (voltages f []) ≡ false = was-within _ u (sym (rw e at down.answer-is) ∙ o) in
    record {
      list = voltages f [];
      stored = rw e at (on_ok u o down.at-is);
      short = voltages-short f [] few;
      rest = let w : (f.limit + 1) - 1 ≡ f.limit = omega arith in rw (w, b) refl;
    }

pub no_start : (f : Feeder) (z : List Three) (r : Result Done Beyond) (v : List Three) → Same z [] → DownwardIs f z r v → (x : Beyond) → r ≡ Err x → solution f ≡ Err (VoltageBeyond 0)
unfolding solution
no_start f z r v none down x o =
    let b : voltage_beyond f (voltages f []) ≡ true = was-beyond _ x (sym (rw (voltages-same f none) at down.answer-is) ∙ o) in
    rw b refl

-- a study that is refused, and one that is solved
pub solved-refused : (f : Feeder) (y : Refusal) (v i : List Three) → solution f ≡ Err y → SolvedAs f (solution f) (Err y) v i
solved-refused f y v i e = rw e (record { run-is = refl; arrays-are = tt })

-- the power drawn where a step is the last one
step-drawn : (k : ℕ) (a b c d e : Bool) (p drawn : Pair) → Ok (Some drawn) ≡ step_of k a b c d e p → drawn ≡ p
step-drawn k true b c d e p drawn q = let z : ◌≡◌ {A = ℕ} 0 1 = cc in absurd (omega arith)
step-drawn k false true c d e p drawn q = let z : ◌≡◌ {A = ℕ} 0 1 = cc in absurd (omega arith)
step-drawn k false false true d e p drawn q = let z : ◌≡◌ {A = ℕ} 0 1 = cc in absurd (omega arith)
step-drawn k false false false true e p drawn q = let z : ◌≡◌ {A = ℕ} 0 1 = cc in absurd (omega arith)
step-drawn k false false false false true p drawn q = cc
step-drawn k false false false false false p drawn q = let z : ◌≡◌ {A = ℕ} 0 1 = cc in absurd (omega arith)

module _ (f : Feeder) (k : ℕ) (v : List Three) (few : row_count f ≤ 200) (here : Here f k v) (more : k ≤ f.limit) (next i : List Three) where
  this : (r : Outcome (Option Pair)) → SweptIs f v k r next i → solution f ≡ by_step r (Ok (record { voltages = here.list; currents = currents f v; sweeps = k })) (sweep f (f.limit - k) (k + 1) (voltages f (currents f v)))
  this r of =
      let e : (f.limit + 1) - k ≡ suc (f.limit - k) = omega arith in
      sym (rw e at here.rest) ∙ by-step f (f.limit - k) k v here.list (same-array v here.list here.stored here.short) ∙
      ap (λ (s : Outcome (Option Pair)). by_step s (Ok (record { voltages = here.list; currents = currents f v; sweeps = k })) (sweep f (f.limit - k) (k + 1) (voltages f (currents f v)))) (sym of.step_is)

  pub here-next : SweptIs f v k (Ok None) next i → Here f (k + 1) next
  here-next of = record {
    list = voltages f (currents f v);
    stored = of.arrays-are;
    short = voltages-short f (currents f v) few;
    rest = let w : (f.limit + 1) - (k + 1) ≡ f.limit - k = omega arith in rw w (sym (this (Ok None) of));
  }

  pub here-refused : (y : Refusal) (u j : List Three) → SweptIs f v k (Err y) next i → SolvedAs f (solution f) (Err y) u j
  here-refused y u j of = solved-refused f y u j (this (Err y) of)

  pub here-settled : (drawn : Pair) → SweptIs f v k (Ok (Some drawn)) next i → SolvedAs f (solution f) (Ok (record { sweeps = k; drawn = drawn })) v i
  here-settled drawn of =
      let d : drawn ≡ drawn_power f here.list =
      step-drawn k (zero_voltage f v) (load_beyond f v) (current_beyond f (currents f v)) _ _ (drawn_power f v) drawn of.step_is
      ∙ drawn-same f (same-array v here.list here.stored here.short) in
      rw (this (Ok (Some drawn)) of) (record {
        run-is = ap (λ (p : Pair). Ok (record { sweeps = k; drawn = p })) d;
        arrays-are = record {
          voltages-are = here.stored;
          few-voltages = here.short;
          currents-are = of.arrays-are;
          few-currents = currents-short f v few;
          drawn-is = refl;
        };
      })

-- after the last sweep
pub here-last : (f : Feeder) (k : ℕ) (v : List Three) → Here f k v → f.limit < k → (u i : List Three) → SolvedAs f (solution f) (Err (NotSettled f.limit)) u i
unfolding sweep
here-last f k v here h u i =
    let e : (f.limit + 1) - k ≡ 0 = omega arith in
    solved-refused f (NotSettled f.limit) u i (sym (rw e at here.rest))
