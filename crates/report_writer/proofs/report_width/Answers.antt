-- `report_writer::report_width` meets its contract. Assumes nothing.
use mathlib.Core.Path.{◌∙◌, ◌≡◌, ap, sym}
use Prim.Native.Nat.{◌+◌}
use native.Mathlib.Omega.{arith}
use lib.ListN.{length}
use Rattle.report_writer.specs.ReportIs.{report-is, whole_length}
use Rattle.report_writer.specs.Tables.{whole_text}
use Rattle.report_writer.proofs.report_width.Goals as goal
use Rattle.report_writer.proofs.report_width.Goals.{After-taps_width-fourth}

whole : (c : After-taps_width-fourth) →
    let a = c.args in
    c.nodes_width-first.result + c.branches_width-second.result + c.totals_width-third.result + c.taps_width-fourth.result ≡ length (whole_text a.network.now a.v.now a.i.now a.losses.now a.figures)
whole c = let a = c.args in omega (arith, whole_length a.network.now a.v.now a.i.now a.losses.now a.figures)

pub returns : goal.returns
returns c = record { value = whole c; report = λ f vs is s. whole c ∙ sym (ap length (report-is s)) }
