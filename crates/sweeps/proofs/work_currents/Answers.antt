-- `work_currents` meets its contract: what the loads draw, then the pass upward. Assumes nothing.
use Rattle.std.specs.Prelude.{◌≡◌, Ok, Err}
use Rattle.std.proofs.Common.{◌∙◌, ap}
use Rattle.std.proofs.lemmas.Result.{err_from_is_err_and}
use Rattle.equations.specs.Equations.{loads_at}
use Rattle.feeder.specs.Feeder.{Feeder}
use Rattle.feeder.specs.Network.{Held}
use Rattle.passes.specs.Passes.{UpwardIs}
use Rattle.sweeps.specs.Sweeps.{WorkedIs}
use Rattle.sweeps.specs.declared.WorkError.{WorkError}
use Rattle.sweeps.specs.declared.WorkError.TheVariants.{CurrentBeyond}
use Rattle.sweeps.specs.SweepsLaws.{currents-spare, in-arrays, loads-ok, own_at, own_behind, ready, worked-fine, worked-over}
use Rattle.sweeps.proofs.work_currents.Goals as goal
use Rattle.sweeps.proofs.work_currents.Goals.{After-upward_pass, In_ok-upward_pass}

pub draw-requires-clause-loads_ok : goal.draw-requires-clause-loads_ok
draw-requires-clause-loads_ok c = loads-ok c.requires.known c.args.v.now c.requires.by_index

pub upward_pass-requires-clause-ready : goal.upward_pass-requires-clause-ready
upward_pass-requires-clause-ready c = ready c.requires.known

pub upward_pass-requires-clause-by_index_2 : goal.upward_pass-requires-clause-by_index_2
upward_pass-requires-clause-by_index_2 c =
    own_behind c.requires.known c.args.v.now c.draw.result c.draw.new.own (λ f h. c.draw.ensures.value f h.loads h.count) c.in_ok-drawn.drawn c.in_ok-drawn.was

-- the pass upward from what the loads draw
up : (c : After-upward_pass) (f : Feeder) → Held f c.args.network.now
    → UpwardIs f (loads_at f c.args.v.now) c.upward_pass.result c.upward_pass.new.at
up c f h =
    c.upward_pass.ensures.value f (loads_at f c.args.v.now) (in-arrays h)
    (own_at c.requires.known c.args.v.now c.draw.result c.draw.new.own (λ f h. c.draw.ensures.value f h.loads h.count) c.in_ok-drawn.drawn c.in_ok-drawn.was f h)

pub returns-in_err-upward_pass-clause-value : goal.returns-in_err-upward_pass-clause-value
returns-in_err-upward_pass-clause-value c = λ f h.
    let p = err_from_is_err_and c.from_residual-in_err-upward_pass.result c.from_residual-in_err-upward_pass.ensures.1 in
    let e : c.from_residual-in_err-upward_pass.result ≡ Err CurrentBeyond = p.1 ∙ ap (λ (x : WorkError). Err x) p.2 in
    rw e
    (worked-over f c.args.v.now c.draw.result c.draw.new.own (c.draw.ensures.value f h.loads h.count) c.upward_pass.new.at c.upward_pass.result
    (up (goal.at.returns-in_err-upward_pass-clause-value c).After-upward_pass f h) c.in_ok-drawn.drawn c.in_ok-drawn.was c.in_err-upward_pass.field-0.0 c.in_err-upward_pass.was)

-- the currents were found
fine : (c : In_ok-upward_pass) (f : Feeder) → Held f c.args.network.now → WorkedIs f c.args.v.now (Ok c.in_ok-drawn.drawn) c.upward_pass.new.at
fine c f h =
    worked-fine f c.args.v.now c.draw.result c.draw.new.own (c.draw.ensures.value f h.loads h.count) c.upward_pass.new.at c.upward_pass.result
    (up (goal.at.In_ok-upward_pass c).After-upward_pass f h) c.in_ok-drawn.drawn c.in_ok-drawn.was c.in_ok-upward_pass.field-0 c.in_ok-upward_pass.was

pub returns-clause-value : goal.returns-clause-value
returns-clause-value c = fine (goal.at.returns-clause-value c).In_ok-upward_pass

pub returns-clause-spare : goal.returns-clause-spare
returns-clause-spare c =
    currents-spare c.requires.known c.args.v.now (Ok c.in_ok-drawn.drawn) c.upward_pass.new.at (fine (goal.at.returns-clause-spare c).In_ok-upward_pass)
