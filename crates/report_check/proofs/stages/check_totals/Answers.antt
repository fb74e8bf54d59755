-- `stages::check_totals` meets its contract: the losses, the source's power, then 55. Assumes nothing.
use Rattle.std.specs.Prelude.{true, Ok}
use mathlib.Core.Path.{◌∙◌, ◌≡◌, refl, sym}
use Rattle.answers.specs.Answers.{done}
use Rattle.answers.specs.declared.Refusal.TheVariants.{TotalDiffers}
use Rattle.equations.specs.Sizes.{within3-more}
use Rattle.feeder.specs.Feeder.{Feeder}
use Rattle.passes.specs.Arrays.{held_in}
use Rattle.report.specs.Report.{Reported, reported_voltages}
use Rattle.compare.specs.Differences.{total_differs}
use Rattle.verdicts.specs.CheckChain.{from55}
use Rattle.report_check.specs.CheckStages.{fails-if, passes}
use Rattle.verdicts.specs.ReportFaults.{worked_currents}
use Rattle.report_check.specs.InHand.{InHand, losses-held, lost-held, sent-held}
use Rattle.report_reader.specs.Read.{report_read}
use Rattle.sweeps.specs.SweepsLaws.{ready, source_fits}
use Rattle.report_check.proofs.stages.check_totals.Goals as goal
use Rattle.report_check.proofs.stages.check_totals.Goals.{After-totals_differ}

-- 55
totals-is : (c : After-totals_differ) (f : Feeder) (x : Reported) → let a = c.args in
    InHand f x a.network.now (report_read true a.read.now) a.i.now a.drawn → c.totals_differ.result ≡ total_differs f x (reported_voltages x) (worked_currents f x)
totals-is c f x h =
    let a = c.args in
    let g = a.network.now in
    let t = report_read true a.read.now in
    let i = a.i.now in
    let each = c.loss_pass-lost.new.losses in
    let k = c.loss_pass-lost.ensures.value f (held_in h.held) in
    c.totals_differ.ensures f x t (reported_voltages x) (worked_currents f x) h.read h.held.rows refl
    (losses-held f x g t i a.drawn h each c.loss_pass-lost.result k)
    refl
    (sent-held f x g t i a.drawn h _ c.power-source.ensures)
    h.drawn-is
    (lost-held f x g t i a.drawn h each c.loss_pass-lost.result k)

pub loss_pass-lost-requires-clause-by_index : goal.loss_pass-lost-requires-clause-by_index
loss_pass-lost-requires-clause-by_index c = (ready c.requires.known).fine

pub loss_pass-lost-requires-clause-by_index_2 : goal.loss_pass-lost-requires-clause-by_index_2
loss_pass-lost-requires-clause-by_index_2 c = c.requires.small_currents.branch

pub power-source-requires : goal.power-source-requires
power-source-requires c = record { within3 = within3-more (source_fits c.requires.known) tt; within3_2 = within3-more c.requires.small_currents.source tt }

pub returns-then-totals_differ : goal.returns-then-totals_differ
unfolding from55
returns-then-totals_differ c = λ f x h. fails-if TotalDiffers (Ok done) (sym (totals-is (goal.at.returns-then-totals_differ c).After-totals_differ f x h) ∙ c.if-totals_differ.true)

pub returns : goal.returns
unfolding from55
returns c = λ f x h. passes TotalDiffers (sym (totals-is (goal.at.returns c).After-totals_differ f x h) ∙ c.if-totals_differ.false)
