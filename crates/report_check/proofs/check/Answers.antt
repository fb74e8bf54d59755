-- `check` meets its contract: the report's length, the feeder's reader, then the tests of the report. Assumes nothing.
use Rattle.std.specs.Prelude.{Err}
use borrow.Author.Tests.{le-ltb, lt-ltb}
use mathlib.Core.Path.{◌∙◌, ap}
use Rattle.std.proofs.lemmas.Result.{err_from_is_err_and}
use Rattle.answers.specs.declared.Refusal.{Refusal}
use Rattle.reading.specs.Reading.{into-bad}
use Rattle.report_check.specs.CheckStages.{check-feeder, check-long, check-read, promised}
use Rattle.sweeps.specs.ReadKnown.{ReadKnown, read-good}
use Rattle.report_check.proofs.check.Goals as goal
use Rattle.report_check.proofs.check.Goals.{In_ok-read_into}

-- the feeder that is read, in the network that it is read into
read : (c : In_ok-read_into) → ReadKnown c.args.feeder.now c.read_into.new.network
read c = read-good c.args.feeder.now c.in_ok-read_into.field-0 c.read_into.ensures c.in_ok-read_into.was

pub returns-then-long : goal.returns-then-long
returns-then-long c =
    let a = c.args in
    let p = promised a.feeder.now a.report.now (check-long a.feeder.now a.report.now (lt-ltb _ _ c.if-long.true)) in
    record { answer = p.0; account = p.1.0; told = p.1.1.0; first = p.1.1.1 }

pub returns-in_err-read_into : goal.returns-in_err-read_into
returns-in_err-read_into c =
    let a = c.args in
    let x = c.in_err-read_into.field-0.0 in
    let r = err_from_is_err_and c.from_residual.result c.from_residual.ensures.1 in
    let p = promised a.feeder.now a.report.now
    (r.1 ∙ ap (λ (y : Refusal). Err y) r.2 ∙ check-feeder a.feeder.now a.report.now (le-ltb _ _ c.if-long.false) x (into-bad x c.read_into.ensures c.in_err-read_into.was)) in
    record { answer = p.0; account = p.1.0; told = p.1.1.0; first = p.1.1.1 }

pub check_text-requires : goal.check_text-requires
check_text-requires c = (read (goal.at.check_text-requires c).In_ok-read_into).known

pub returns : goal.returns
returns c =
    let a = c.args in
    let w = read (goal.at.returns c).In_ok-read_into in
    let p = promised a.feeder.now a.report.now (check-read a.feeder.now a.report.now (le-ltb _ _ c.if-long.false) w.feeder w.whole (c.check_text.ensures w.feeder w.held)) in
    record { answer = p.0; account = p.1.0; told = p.1.1.0; first = p.1.1.1 }
