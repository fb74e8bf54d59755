-- `stages::check_taps` meets its contract: 51 to 55 with the branches that have the reported taps, then 56. Assumes nothing.
use Rattle.std.specs.Prelude.{Ok, Err}
use Rattle.std.proofs.lemmas.Result.{err_from_is_err_and}
use mathlib.Core.Bool.{true}
use mathlib.Core.Path.{◌∙◌, ◌≡◌, ap, refl, subst, sym}
use Prim.Native.Nat.{ℕ}
use Rattle.answers.specs.Answers.{done}
use Rattle.answers.specs.declared.Refusal.{Refusal}
use Rattle.answers.specs.declared.Refusal.TheVariants.{TapDiffers}
use Rattle.compare.specs.Differences.{tap_differs}
use Rattle.feeder.specs.Feeder.{Feeder, row_count}
use Rattle.feeder.specs.Network.{Held, branch_array}
use Rattle.report.specs.Report.{Reported, reported_taps, with_reported}
use Rattle.verdicts.specs.Check.{compared}
use Rattle.verdicts.specs.CheckChain.{from56}
use Rattle.report_check.specs.CheckStages.{behind50, fails-at, fails-before, goes-behind, goes_on}
use Rattle.report_check.specs.InHand.{devices-in, only-taps, own-held, own-known, own-met, taps-many}
use Rattle.report_reader.specs.Read.{ReportHeld, TapsHeld, report_read}
use Rattle.report_check.proofs.stages.check_taps.Goals as goal
use Rattle.report_check.proofs.stages.check_taps.Goals.{After-check_report, After-first_tap_differs, After-set_taps, Start}

-- f and its report x in memory
abbrev Here : Start → Feeder → Reported → Type 0
Here s f x = let a = s.args in Held f a.network.now × (ReportHeld (row_count f) x (report_read true a.read.now) × TapsHeld f x a.read.now.taps)

-- the copy has the reported taps
own_is : (c : After-set_taps) (f : Feeder) (x : Reported) → Here (goal.at.After-set_taps c).Start f x → c.set_taps.new.branches ≡ branch_array (with_reported f x)
unfolding with_reported
own_is c f x h = c.set_taps.ensures f (reported_taps f x) h.0.branches h.0.rows h.1.1 (taps-many f x h.0.few-rows)

met : (s : Start) → Here s s.requires.known.feeder s.requires.report
met s = let m = s.requires in (m.known.held, (m.read, m.taps-held))

pub check_report-requires : goal.check_report-requires
check_report-requires c =
    let t = (goal.at.check_report-requires c).After-set_taps in
    let m = c.requires in
    own-met c.args.network.now c.set_taps.new.branches _ _ (report_read true c.args.read.now) c.args.read.now.taps m (own_is t m.known.feeder m.report (met (goal.at.check_report-requires c).Start))

-- 51 to 55
compared-as : (c : After-check_report) (f : Feeder) (x : Reported) → Here (goal.at.After-check_report c).Start f x → c.check_report.result ≡ compared (with_reported f x) x
compared-as c f x h =
    c.check_report.ensures (with_reported f x) x
    (own-held c.args.network.now c.set_taps.new.branches _ _ f x (own_is (goal.at.After-check_report c).After-set_taps f x h) h.0)
    (subst (λ (n : ℕ). ReportHeld n x (report_read true c.args.read.now)) (sym (only-taps f x).rows) h.1.0)

pub returns-in_err-check_report : goal.returns-in_err-check_report
unfolding behind50
returns-in_err-check_report c = λ f x h w q.
    let p = err_from_is_err_and c.from_residual.result c.from_residual.ensures.1 in
    (p.1 ∙ ap (λ (y : Refusal). Err y) p.2)
    ∙ fails-before (compared (with_reported f x) x) (from56 f x) (compared-as (goal.at.returns-in_err-check_report c).After-check_report f x (h, (w, q))) c.in_err-check_report.was

pub first_tap_differs-requires-clause-by_index : goal.first_tap_differs-requires-clause-by_index
first_tap_differs-requires-clause-by_index c = devices-in c.requires.known

pub first_tap_differs-requires-clause-by_index_2 : goal.first_tap_differs-requires-clause-by_index_2
first_tap_differs-requires-clause-by_index_2 c =
    let t = (goal.at.first_tap_differs-requires-clause-by_index_2 c).After-set_taps in
    let m = c.requires in
    devices-in (own-known c.args.network.now c.set_taps.new.branches c.args.network.now.few_rows c.args.network.now.few_loads (report_read true c.args.read.now) c.args.read.now.taps m (own_is t m.known.feeder m.report (met (goal.at.first_tap_differs-requires-clause-by_index_2 c).Start)))

pub first_tap_differs-requires-clause-by_index_3 : goal.first_tap_differs-requires-clause-by_index_3
first_tap_differs-requires-clause-by_index_3 c = λ k p q. c.requires.read.small_voltages k

pub first_tap_differs-requires-clause-by_index_4 : goal.first_tap_differs-requires-clause-by_index_4
first_tap_differs-requires-clause-by_index_4 c = λ k p q. c.requires.read.small_currents k

-- 56
moves-is : (c : After-first_tap_differs) (f : Feeder) (x : Reported) → Here (goal.at.After-first_tap_differs c).Start f x → c.first_tap_differs.result ≡ tap_differs f x
moves-is c f x h = c.first_tap_differs.ensures f x (report_read true c.args.read.now) h.0.branches (own_is (goal.at.After-first_tap_differs c).After-set_taps f x h) h.0.rows h.1.0 refl refl

pub returns-in-Some : goal.returns-in-Some
unfolding behind50 from56
returns-in-Some c = λ f x h w q.
    goes-behind (compared (with_reported f x) x) (from56 f x) (compared-as (goal.at.returns-in-Some c).After-check_report f x (h, (w, q))) c.in_ok-check_report.was
    (fails-at TapDiffers (Ok done) (sym (moves-is (goal.at.returns-in-Some c).After-first_tap_differs f x (h, (w, q))) ∙ c.in-Some.is))

pub returns : goal.returns
unfolding behind50 from56
returns c = λ f x h w q.
    goes-behind (compared (with_reported f x) x) (from56 f x) (compared-as (goal.at.returns c).After-check_report f x (h, (w, q))) c.in_ok-check_report.was
    (goes_on TapDiffers (Ok done) (sym (moves-is (goal.at.returns c).After-first_tap_differs f x (h, (w, q))) ∙ c.in_default.is) refl)
