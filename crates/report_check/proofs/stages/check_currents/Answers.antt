-- `stages::check_currents` meets its contract: 53, 54, then 55. Assumes nothing.
use Rattle.std.specs.Prelude.{true, Ok}
use borrow.Author.Rules.{rules}
use mathlib.Core.Path.{◌∙◌, ◌≡◌, refl, sym}
use Rattle.answers.specs.Answers.{done}
use Rattle.answers.specs.declared.Refusal.TheVariants.{CurrentDiffers, VoltageOff}
use Rattle.equations.specs.Equations.{voltages}
use Rattle.feeder.specs.Feeder.{Feeder}
use Rattle.passes.specs.Arrays.{held_in}
use Rattle.report.specs.Report.{Reported}
use Rattle.compare.specs.Differences.{current_differs}
use Rattle.verdicts.specs.Check.{voltage_off}
use Rattle.verdicts.specs.CheckChain.{from53, from54, from55}
use Rattle.report_check.specs.CheckStages.{fails-at, goes_on}
use Rattle.verdicts.specs.ReportFaults.{worked_currents}
use Rattle.report_check.specs.InHand.{InHand, off-held}
use Rattle.report_reader.specs.Read.{report_read}
use Rattle.sweeps.specs.SweepsLaws.{ready}
use Rattle.report_check.proofs.stages.check_currents.Goals as goal
use Rattle.report_check.proofs.stages.check_currents.Goals.{After-compare_pass, After-first_current_differs, Start}

-- the worked currents are in hand
abbrev Works : Start → Feeder → Reported → Type 0
Works s f x = let a = s.args in InHand f x a.network.now (report_read true a.read.now) a.i.now a.drawn

-- 53
differs-is : (c : After-first_current_differs) (f : Feeder) (x : Reported) → Works (goal.at.After-first_current_differs c).Start f x → c.first_current_differs.result ≡ current_differs f x (worked_currents f x)
differs-is c f x h = c.first_current_differs.ensures f x (report_read true c.args.read.now) (worked_currents f x) h.read h.held.rows refl h.currents-are

-- 54
off-is : (c : After-compare_pass) (f : Feeder) (x : Reported) → Works (goal.at.After-compare_pass c).Start f x → c.compare_pass.result ≡ voltage_off f x (voltages f (worked_currents f x))
off-is c f x h =
    let a = c.args in
    let i = a.i.now in
    let g = held_in h.held in
    off-held f x a.network.now (report_read true a.read.now) i a.drawn h (c.compare_pass.ensures f (record { branches-are = g.branches-are; rows_are = g.rows_are }) h.held.source)

pub returns-in-Some : goal.returns-in-Some
unfolding from53
returns-in-Some c = λ f x h. fails-at CurrentDiffers (from54 (Ok done) f x) (sym (differs-is (goal.at.returns-in-Some c).After-first_current_differs f x h) ∙ c.in-Some.is)

pub compare_pass-requires : goal.compare_pass-requires
compare_pass-requires c =
    let r = ready c.requires.known in
    record {
      ready = record { linked = r.linked; ordered = r.ordered; ranked = r.ranked; fine = r.fine };
      comparable = record { first = c.requires.comparable.first; each = c.requires.comparable.each; small = search rules };
      by_index = c.requires.small_currents.branch;
    }

pub returns-in-Some-compare_pass : goal.returns-in-Some-compare_pass
unfolding from53 from54
returns-in-Some-compare_pass c = λ f x h.
    goes_on CurrentDiffers (from54 (Ok done) f x) (sym (differs-is (goal.at.returns-in-Some-compare_pass c).After-first_current_differs f x h) ∙ c.in_default.is)
    (fails-at VoltageOff (from55 (Ok done) f x) (sym (off-is (goal.at.returns-in-Some-compare_pass c).After-compare_pass f x h) ∙ c.in-Some-compare_pass.is))

pub check_totals-requires : goal.check_totals-requires
check_totals-requires c =
    record { known = c.requires.known; small_currents = c.requires.small_currents }

pub returns : goal.returns
unfolding from53 from54
returns c = λ f x h.
    goes_on CurrentDiffers (from54 (Ok done) f x) (sym (differs-is (goal.at.returns c).After-first_current_differs f x h) ∙ c.in_default.is)
    (goes_on VoltageOff (from55 (Ok done) f x) (sym (off-is (goal.at.returns c).After-compare_pass f x h) ∙ c.in_default-compare_pass.is) (c.check_totals.ensures f x h))
