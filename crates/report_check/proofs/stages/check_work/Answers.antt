-- `stages::check_work` meets its contract: 30 to 32, then 53. Assumes nothing.
use Rattle.std.specs.Prelude.{true, ◌≡◌, Result, Ok, Err}
use Rattle.std.proofs.lemmas.Result.{IfOk-at_ok, err_from_is_err_and}
use borrow.Author.Rules.{rules}
use mathlib.Core.Path.{◌∙◌, ap, subst, sym}
use Rattle.answers.specs.declared.Refusal.{Refusal}
use Rattle.arrays.specs.ArrayLaws.{spare-blank}
use Rattle.feeder.specs.Feeder.{Feeder, row_count}
use Rattle.feeder.specs.Network.{Held}
use Rattle.integers.specs.declared.Pair.{Pair}
use Rattle.report.specs.Report.{Reported, reported_voltages}
use Rattle.report_check.specs.CheckStages.{fails30, goes30, mapped-err, mapped-ok}
use Rattle.report_check.specs.InHand.{work-held}
use Rattle.report_reader.specs.Read.{ReportHeld, report_read}
use Rattle.sweeps.specs.Sweeps.{SmallCurrents, WorkedIs, refusal_of}
use Rattle.sweeps.specs.declared.WorkError.{WorkError}
use Rattle.sweeps.specs.SweepsLaws.{workable}
use Rattle.report_check.proofs.stages.check_work.Goals as goal
use Rattle.report_check.proofs.stages.check_work.Goals.{After-work_currents, In_ok-drawn}

-- what is worked at the reported voltages
work : (c : After-work_currents) (f : Feeder) (x : Reported) → let a = c.args in
    Held f a.network.now → ReportHeld (row_count f) x (report_read true a.read.now) → WorkedIs f (reported_voltages x) c.work_currents.result c.work_currents.new.i
work c f x h w =
    let a = c.args in
    work-held f a.network.now x (report_read true a.read.now) h w c.work_currents.result c.work_currents.new.i (c.work_currents.ensures.value f h)

pub work_currents-requires : goal.work_currents-requires
work_currents-requires c = record { known = c.requires.known; by_index = c.requires.comparable.each; spare_2 = spare-blank _ }

-- the currents that were worked, and the refusal
worked : (c : In_ok-drawn) (f : Feeder) (x : Reported) → let a = c.args in Held f a.network.now → ReportHeld (row_count f) x (report_read true a.read.now) → WorkedIs f (reported_voltages x) (Ok c.in_ok-drawn.drawn) c.work_currents.new.i
worked c f x h w = subst (λ (r : Result Pair WorkError). WorkedIs f (reported_voltages x) r c.work_currents.new.i) (mapped-ok _ _ _ _ c.map_err.ensures.cases c.in_ok-drawn.was) (work (goal.at.In_ok-drawn c).After-work_currents f x h w)

pub check_currents-requires-clause-small_currents : goal.check_currents-requires-clause-small_currents
check_currents-requires-clause-small_currents c =
    IfOk-at_ok (λ (p : Pair). SmallCurrents c.args.network.now.rows c.work_currents.new.i) (mapped-ok _ _ _ _ c.map_err.ensures.cases c.in_ok-drawn.was) c.work_currents.ensures.size.currents-small

pub returns-in_err-drawn : goal.returns-in_err-drawn
returns-in_err-drawn c = λ f x h w.
    let r = err_from_is_err_and c.from_residual.result c.from_residual.ensures.1 in
    let m = mapped-err _ c.work_currents.result c.map_err.result c.in_err-drawn.field-0.0 c.map_err.ensures.cases c.in_err-drawn.was in
    let q : c.in_err-drawn.field-0.0 ≡ refusal_of m.0 0 = search (rules, m.1.1) in
    r.1 ∙ ap (λ (y : Refusal). Err y) (r.2 ∙ q) ∙ fails30 f x _ m.0 (sym m.1.0 ∙ (work (goal.at.returns-in_err-drawn c).After-work_currents f x h w).work-is)

pub returns : goal.returns
returns c = λ f x h w.
    let i = c.work_currents.new.i in
    let m = workable f (reported_voltages x) c.in_ok-drawn.drawn i (worked (goal.at.returns c).In_ok-drawn f x h w) in
    goes30 f x m.t30 m.t31 m.t32 (c.check_currents.ensures f x (record { held = h; read = w; currents-are = m.currents-are; drawn-is = m.drawn-is }))
