-- `write_solution` meets its contract: the arrays show the feeder with its solution. Assumes nothing.
use Rattle.std.proofs.Common.{◌<◌, ◌≡◌, ap, refl, ◌∙◌, ℕ, ◌++◌, drop, length}
use borrow.Author.Tests.{lt-ltb, le-ltb}
use Rattle.feeder.specs.Feeder.{Feeder}
use Rattle.feeder.specs.Network.{Held}
use Rattle.report.specs.Report.{report_text}
use Rattle.report_writer.specs.ReportIs.{Shown}
use Rattle.iteration.specs.Ladder.{Solution}
use Rattle.iteration.specs.Runs.{GoodRun}
use Rattle.ladder.specs.Stages.{text_of}
use Rattle.ladder.proofs.StageLaws.{shown, source_is, with-room, with-short}
use Rattle.sweeps.specs.SweepsLaws.{in-arrays, ready}
use Rattle.ladder.proofs.write_solution.Goals as goal
use Rattle.ladder.proofs.write_solution.Goals.{After-power, After-report_width-need}

pub loss_pass-lost-requires-clause-by_index : goal.loss_pass-lost-requires-clause-by_index
loss_pass-lost-requires-clause-by_index c = (ready c.requires.known).fine

-- what the arrays show
shows : (c : After-power) (signed : c.args.run.sweeps < 9223372036854775808) (f : Feeder) (x : Solution) → Held f c.args.network.now
    → GoodRun f x c.args.v.now c.args.i.now c.args.run.drawn
    → Shown f x.voltages x.currents c.args.network.now c.args.v.now c.args.i.now c.loss_pass-lost.new.losses
    (record { sweeps = c.args.run.sweeps; source = c.power.result; drawn = c.args.run.drawn; lost = c.loss_pass-lost.result; signed = signed })
shows c signed f x held run =
    shown c.requires.known f held x c.args.v.now c.args.i.now c.args.run.drawn run c.loss_pass-lost.new.losses c.loss_pass-lost.result (c.loss_pass-lost.ensures.value f (in-arrays held)) c.power.result
    (source_is held c.args.i.now c.power.result c.power.ensures) c.args.run.sweeps signed

text-is : (c : After-report_width-need) (f : Feeder) (x : Solution) → Held f c.args.network.now → c.args.run.sweeps ≡ x.sweeps →
    GoodRun f x c.args.v.now c.args.i.now c.args.run.drawn → c.report_width-need.result ≡ length (text_of f x)
text-is c f x held e run =
    c.report_width-need.ensures.report f x.voltages x.currents (shows (goal.at.After-report_width-need c).After-power _ f x held run) ∙ ap (λ (k : ℕ). length (report_text f x.voltages x.currents k)) e

pub returns-then-out-need : goal.returns-then-out-need
returns-then-out-need c = λ f x held e run.
    with-short f x c.args.out.now c.report_width-need.result _ _ (text-is (goal.at.returns-then-out-need c).After-report_width-need f x held e run) (lt-ltb _ _ c.if-out-need.true) refl refl

pub returns : goal.returns
returns c = λ f x held e run.
    let r = c.put_report-length.ensures.report f x.voltages x.currents (shows (goal.at.returns c).After-power _ f x held run) in
    with-room f x c.args.out.now c.report_width-need.result _ _ _ (text-is (goal.at.returns c).After-report_width-need f x held e run) (le-ltb _ _ c.if-out-need.false) e
    (r.0 ∙ ap (λ (k : ℕ). length (report_text f x.voltages x.currents k)) e)
    (r.1 ∙ ap (λ (k : ℕ). report_text f x.voltages x.currents k ++ drop (length (report_text f x.voltages x.currents k)) c.args.out.now) e)
