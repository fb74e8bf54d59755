-- `stages::check_text` meets its contract: 50, then 51. Assumes nothing.
use mathlib.Core.Bool.{Bool, true}
use mathlib.Core.List.{List}
use mathlib.Core.Path.{◌≡◌}
use Prim.Native.Nat.{ℕ}
use native.Mathlib.Omega.{arith}
use Rattle.answers.specs.Answers.{Outcome}
use Rattle.feeder.specs.Feeder.{Feeder, row_count}
use Rattle.feeder.specs.Network.{Held}
use Rattle.feeder.specs.Phased.{Taps}
use Rattle.report.specs.Report.{Reported, report_of}
use Rattle.report.proofs.ReportTaps.{reported-within}
use Rattle.report_check.specs.CheckStages.{ReportFound, goes50, refused50, report-read, report-refused}
use Rattle.report_reader.specs.ReportLaws.{unread}
use Rattle.report_reader.specs.Read.{FeederShown, ReportIs, ReportRead, TapsHeld, report_read}
use Rattle.report_check.proofs.stages.check_text.Goals as goal
use Rattle.report_check.proofs.stages.check_text.Goals.{After-read_report, Start}

abbrev start : After-read_report → Start
start q = (goal.at.After-read_report q).Start

-- the arrays that the report is read into
abbrev arrays : After-read_report → Bool → ReportRead
arrays q ok = report_read ok q.read_report.new.read

abbrev taps : After-read_report → List Taps
taps q = q.read_report.new.read.taps

-- the feeder is lent to the reader
shown : (q : After-read_report) (f : Feeder) → Held f (start q).args.network.now → let n = (start q).args.network.now in FeederShown f n n.limit
shown q f h = record { nodes = h.nodes; branches = h.branches; rows = h.rows; few-rows = h.few-rows; limit = h.limit }

-- they hold it, or it is refused
answer : (q : After-read_report) (f : Feeder) → Held f (start q).args.network.now → ReportIs (row_count f) (report_of f (start q).args.report.now) (arrays q q.read_report.result)
answer q f h = q.read_report.ensures.held f (shown q f h)

-- the report that is read
as-true : {rows : ℕ} {o : Outcome Reported} (t : Bool → ReportRead) {ok : Bool} → ok ≡ true → ReportFound rows o (t ok) → ReportFound rows o (t true)
as-true t e x = rw e at x

there : (q : After-read_report) → q.read_report.result ≡ true → (f : Feeder) → Held f (start q).args.network.now → ReportFound (row_count f) (report_of f (start q).args.report.now) (arrays q true)
there q e f h = as-true (arrays q) e (report-read (row_count f) (report_of f (start q).args.report.now) (arrays q q.read_report.result) (answer q f h) e)

taps-there : (q : After-read_report) (e : q.read_report.result ≡ true) (f : Feeder) (h : Held f (start q).args.network.now) → TapsHeld f (there q e f h).report (taps q)
taps-there q e f h = q.read_report.ensures.taps f (there q e f h).report (shown q f h) (there q e f h).came

pub read_report-requires-clause-limit_bound : goal.read_report-requires-clause-limit_bound
read_report-requires-clause-limit_bound c = omega (arith, c.requires.held.limit, c.requires.fit.few-sweeps)

pub read_report-requires-clause-unread : goal.read_report-requires-clause-unread
read_report-requires-clause-unread c = unread c.empty-read.ensures

pub returns-then-not-read_report : goal.returns-then-not-read_report
returns-then-not-read_report c = λ f h.
    let text = (start (goal.at.returns-then-not-read_report c).After-read_report).args.report.now in
    refused50 f text (report-refused (row_count f) (report_of f text) (arrays (goal.at.returns-then-not-read_report c).After-read_report c.read_report.result) (answer (goal.at.returns-then-not-read_report c).After-read_report f h) c.if-not-read_report.true)

pub check_taps-requires : goal.check_taps-requires
check_taps-requires c =
    let k = (start (goal.at.check_taps-requires c).After-read_report).requires in
    let e = c.if-not-read_report.false in
    let x = there (goal.at.check_taps-requires c).After-read_report e k.feeder k.held in
    record {
      known = k;
      report = x.report;
      read = x.held;
      taps-held = taps-there (goal.at.check_taps-requires c).After-read_report e k.feeder k.held;
      small = λ j p. (reported-within k.feeder (start (goal.at.check_taps-requires c).After-read_report).args.report.now x.report x.came j p).small;
    }

pub returns : goal.returns
returns c = λ f h.
    let e = c.if-not-read_report.false in
    let x = there (goal.at.returns c).After-read_report e f h in
    goes50 f (start (goal.at.returns c).After-read_report).args.report.now x.report x.came (c.check_taps.ensures f x.report h x.held (taps-there (goal.at.returns c).After-read_report e f h))
