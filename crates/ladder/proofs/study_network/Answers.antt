-- `study_network` meets its contract: rounds that refuse are answered so, and what they come to is written. Assumes nothing.
use Rattle.std.specs.Prelude.{Err}
use Rattle.std.proofs.Common.{◌∙◌, ap, refl}
use Rattle.std.proofs.lemmas.Result.{err_from_is_err_and}
use Rattle.answers.specs.declared.Refusal.{Refusal}
use Rattle.ladder.proofs.StageLaws.{from-refused, from-regulated, run-good, run-refused}
use Rattle.ladder.proofs.study_network.Goals as goal

pub returns-in_err-run-clause-study : goal.returns-in_err-run-clause-study
returns-in_err-run-clause-study c = λ f h.
    let p = err_from_is_err_and c.from_residual.result c.from_residual.ensures.1 in
    from-refused f c.args.out.now c.in_err-run.field-0.0 c.from_residual.result c.args.out.now
    (run-refused f c.in_err-run.field-0.0 c.regulate.result c.regulate.new.network c.regulate.new.v c.regulate.new.i (c.regulate.ensures.value f h) c.in_err-run.was)
    (p.1 ∙ ap (λ (z : Refusal). Err z) p.2) refl

pub returns-clause-study : goal.returns-clause-study
returns-clause-study c = λ f h.
    let g = run-good f c.regulate.result c.in_ok-run.run' c.regulate.new.network c.regulate.new.v c.regulate.new.i (c.regulate.ensures.value f h) c.in_ok-run.was in
    let y = g.found in
    from-regulated f c.args.out.now y _ _ g.whole (c.write_solution.ensures y.feeder y.solution g.held g.sweeps g.good-run)

pub write_solution-requires-clause-small_currents : goal.write_solution-requires-clause-small_currents
write_solution-requires-clause-small_currents c = rw c.regulate.ensures.rest.rows (rw c.in_ok-run.was at c.regulate.ensures.size).currents-small
