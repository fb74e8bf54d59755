-- `sweep_once` meets its contract: 30 to 32, then 33, then whether the voltages settled. Assumes nothing.
use Rattle.std.specs.Prelude.{Result, Ok, Err, IsErrAnd, MatchResult}
use Rattle.std.proofs.Common.{ap, ◌≡◌, sym, ◌∙◌}
use Rattle.std.proofs.lemmas.Result.{err_from_is_err_and}
use Rattle.answers.specs.declared.Refusal.TheVariants.{VoltageBeyond}
use Rattle.equations.specs.Equations.{currents, voltages}
use Rattle.feeder.specs.Feeder.{Feeder}
use Rattle.feeder.specs.Network.{Held}
use Rattle.iteration.specs.Ladder.{settled}
use Rattle.iteration.proofs.RunLaws.{or-err, or-ok, same_next, settled_is, swept-again, swept-high, swept-settled}
use Rattle.sweeps.specs.Sweeps.{WorkedIs}
use Rattle.iteration.proofs.sweep_once.Goals as goal
use Rattle.iteration.proofs.sweep_once.Goals.{After-still, In_ok-drawn, In_ok-or}

-- what `map_err` leaves as it is
kept-ok : {X Y Z : Type 0} (P : Y → Z → Type 0) (r : Result X Y) (s : Result X Z) (x : X) → MatchResult r (λ y. s ≡ Ok y) (λ e. IsErrAnd s (P e)) → s ≡ Ok x → r ≡ Ok x
kept-ok {X} P (Ok y) s x h e = let q = sym h ∙ e in let z : ◌≡◌ {A = X} y x = cc in ap Ok z
kept-ok P (Err y) s x h e = absurd (rw e at h)

-- the currents were found
worked : (c : In_ok-drawn) (f : Feeder) → Held f c.args.network.now
    → WorkedIs f c.args.v.now (Ok c.in_ok-drawn.drawn) c.work_currents.new.i
worked c f h =
    let e : c.work_currents.result ≡ Ok c.in_ok-drawn.drawn = kept-ok _ c.work_currents.result c.map_err.result c.in_ok-drawn.drawn c.map_err.ensures.cases c.in_ok-drawn.was in
    rw e at (c.work_currents.ensures.value f h)

pub returns-in_err-or-clause-value : goal.returns-in_err-or-clause-value
returns-in_err-or-clause-value c = λ f h.
    let e = or-err c.work_voltages.result (VoltageBeyond c.args.k) c.in_err-or.field-0.0 c.in_err-or.ensures in
    let p = err_from_is_err_and c.from_residual-in_err-or.result c.from_residual-in_err-or.ensures.1 in
    rw (p.1, p.2, e.1)
    (swept-high f c.args.v.now c.in_ok-drawn.drawn c.work_currents.new.i (worked (goal.at.returns-in_err-or-clause-value c).In_ok-drawn f h) h.few-rows
    c.work_voltages.result c.work_voltages.new.v (c.work_voltages.ensures.value f h) c.args.k (record {}) e.0)

-- the voltages were found
lowered : (c : In_ok-or) → c.work_voltages.result ≡ Ok c.in_ok-or.field-0
lowered c = or-ok c.work_voltages.result (VoltageBeyond c.args.k) c.in_ok-or.field-0 c.in_ok-or.ensures

-- whether the voltages settled
tested : (c : After-still) (f : Feeder) → Held f c.args.network.now
    → c.still.result ≡ settled f c.args.v.now (voltages f (currents f c.args.v.now))
tested c f h =
    c.still.ensures ∙
    settled_is f c.args.network.now.rows c.args.network.now.tol c.args.v.now c.work_voltages.new.v (voltages f (currents f c.args.v.now)) h.rows h.tol
    (same_next f c.args.v.now c.in_ok-drawn.drawn c.work_currents.new.i (worked (goal.at.After-still c).In_ok-drawn f h) h.few-rows c.work_voltages.result
    c.work_voltages.new.v (c.work_voltages.ensures.value f h) c.in_ok-or.field-0 (lowered (goal.at.After-still c).In_ok-or))

pub returns-then-still-clause-value : goal.returns-then-still-clause-value
returns-then-still-clause-value c = λ f h.
    swept-settled f c.args.v.now c.in_ok-drawn.drawn c.work_currents.new.i (worked (goal.at.returns-then-still-clause-value c).In_ok-drawn f h) h.few-rows
    c.work_voltages.result c.work_voltages.new.v (c.work_voltages.ensures.value f h) c.args.k c.in_ok-or.field-0 (lowered (goal.at.returns-then-still-clause-value c).In_ok-or)
    (sym (tested (goal.at.returns-then-still-clause-value c).After-still f h) ∙ c.if-still.true)

pub returns-else-still-clause-value : goal.returns-else-still-clause-value
returns-else-still-clause-value c = λ f h.
    swept-again f c.args.v.now c.in_ok-drawn.drawn c.work_currents.new.i (worked (goal.at.returns-else-still-clause-value c).In_ok-drawn f h) h.few-rows
    c.work_voltages.result c.work_voltages.new.v (c.work_voltages.ensures.value f h) c.args.k c.in_ok-or.field-0 (lowered (goal.at.returns-else-still-clause-value c).In_ok-or)
    (sym (tested (goal.at.returns-else-still-clause-value c).After-still f h) ∙ c.if-still.false)
