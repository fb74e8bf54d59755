-- `stages::check_report` meets its contract: 51, 52, then 30 to 32. Assumes nothing.
use Rattle.std.specs.Prelude.{Ok}
use mathlib.Core.Bool.{true}
use mathlib.Core.Path.{◌∙◌, ◌≡◌, refl, sym}
use Rattle.answers.specs.Answers.{done}
use Rattle.answers.specs.declared.Refusal.TheVariants.{NameDiffers, SourceDiffers}
use Rattle.feeder.specs.Feeder.{Feeder, row_count}
use Rattle.feeder.specs.Network.{Held}
use Rattle.report.specs.Report.{Reported}
use Rattle.compare.specs.Differences.{name_differs, source_differs}
use Rattle.verdicts.specs.CheckChain.{compared_is, from30, from51, from52}
use Rattle.report_check.specs.CheckStages.{fails-at, goes_on}
use Rattle.report_check.specs.InHand.{comparable, parents-in}
use Rattle.report_reader.specs.Read.{ReportHeld, report_read}
use Rattle.report_check.proofs.stages.check_report.Goals as goal
use Rattle.report_check.proofs.stages.check_report.Goals.{After-first_name_differs, After-first_source_differs, Start}

-- f and its report x in memory
abbrev Here : Start → Feeder → Reported → Type 0
Here s f x = let a = s.args in Held f a.network.now × ReportHeld (row_count f) x (report_read true a.read.now)

-- 51
named-is : (c : After-first_name_differs) (f : Feeder) (x : Reported) → Here (goal.at.After-first_name_differs c).Start f x → c.first_name_differs.result ≡ name_differs f x
named-is c f x h = let a = c.args in c.first_name_differs.ensures f a.network.now x (report_read true a.read.now) h.0 h.1 refl refl refl refl refl refl refl

-- 52
source_is : (c : After-first_source_differs) (f : Feeder) (x : Reported) → Here (goal.at.After-first_source_differs c).Start f x → c.first_source_differs.result ≡ source_differs f x
source_is c f x h = let a = c.args in c.first_source_differs.ensures f a.network.now x (report_read true a.read.now) h.0 h.1 refl refl refl refl

pub first_name_differs-requires : goal.first_name_differs-requires
first_name_differs-requires c = parents-in c.requires.known

pub returns-in-Some : goal.returns-in-Some
unfolding from51
returns-in-Some c = λ f x h w. fails-at NameDiffers (from52 (Ok done) f x) (sym (named-is (goal.at.returns-in-Some c).After-first_name_differs f x (h, w)) ∙ c.in-Some.is) ∙ sym (compared_is f x)

pub returns-in-Some-first_source_differs : goal.returns-in-Some-first_source_differs
unfolding from51 from52
returns-in-Some-first_source_differs c = λ f x h w.
    goes_on NameDiffers (from52 (Ok done) f x) (sym (named-is (goal.at.returns-in-Some-first_source_differs c).After-first_name_differs f x (h, w)) ∙ c.in_default.is)
    (fails-at SourceDiffers (from30 (Ok done) f x) (sym (source_is (goal.at.returns-in-Some-first_source_differs c).After-first_source_differs f x (h, w)) ∙ c.in-Some-first_source_differs.is)) ∙ sym (compared_is f x)

pub check_work-requires : goal.check_work-requires
check_work-requires c =
    let m = c.requires in
    record { known = m.known; comparable = comparable c.args.network.now (report_read true c.args.read.now) m (sym (source_is (goal.at.check_work-requires c).After-first_source_differs m.known.feeder m.report (m.known.held, m.read)) ∙ c.in_default-first_source_differs.is) }

pub returns : goal.returns
unfolding from51 from52
returns c = λ f x h w.
    goes_on NameDiffers (from52 (Ok done) f x) (sym (named-is (goal.at.returns c).After-first_name_differs f x (h, w)) ∙ c.in_default.is)
    (goes_on SourceDiffers (from30 (Ok done) f x) (sym (source_is (goal.at.returns c).After-first_source_differs f x (h, w)) ∙ c.in_default-first_source_differs.is)
    (c.check_work.ensures f x h w)) ∙ sym (compared_is f x)
