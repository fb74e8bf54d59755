-- DEMAND 3: a pass implies the power account. Assumes nothing.
use Rattle.std.specs.Prelude.{◌&&◌, false, List, ◌≡◌, get_or, Ok}
use Rattle.std.proofs.Common.{◌∙◌, ap}
use Rattle.std.proofs.Math.Path.{ap₂, sym}
use Prim.Native.Nat.{◌+◌, ◌<◌, suc, ℕ}
use native.Mathlib.Omega.{arith}
use Rattle.account.specs.Account.{PowerAccount}
use Rattle.account.specs.Powers.{reactive, real}
use Rattle.account.proofs.AccountLaw.{BranchKnown, Known, LoadKnown, account-law}
use Rattle.answers.specs.Answers.{done}
use Rattle.equations.specs.Absent.{absent_none}
use Rattle.equations.specs.Equations.{at, currents, far_voltage, kind_at, needs_voltage, power, source_power, voltage_on, voltages, zero3, zero_voltage}
use Rattle.equations.specs.Meets.{currents-meet, taken-same, taken_at, voltages-meet, voltages-source}
use Rattle.equations.specs.Weight.{weight-pos}
use Rattle.feeder.specs.Feeder.{Feeder, branch_at, parent, row_count}
use Rattle.feeder.proofs.FeederLaws.{sound}
use Rattle.feeder.proofs.RowFacts.{Formed, OfLoad, formed, load-node}
use Rattle.feeder.specs.declared.Load.{Load}
use Rattle.feeder.specs.Phased.{Three}
use Rattle.integers.specs.ListLaws.{all-count, all-map2, any_false}
use Rattle.integers.specs.Pairs.{within}
use Rattle.report.specs.Report.{Reported, reported_currents, reported_voltages, with_reported}
use Rattle.report.proofs.ReportTaps.{reported-formed}
use Rattle.verdicts.specs.Check.{checked}
use Rattle.verdicts.proofs.Passed.{Passed, pass-found}
use Rattle.verdicts.proofs.Tests.{all-close, currents-same, source-same, totals-same}

module _ (f : Feeder) (r : Reported) (w : Formed f) (h : Passed f r) where
  abbrev v : List Three
  v = reported_voltages r

  abbrev i : List Three
  i = currents f (reported_voltages r)

  -- all that is taken at a node, by the reported I
  taken-same-reported : (m : ℕ) → m < suc (row_count f) → get_or i m zero3 ≡ taken_at f v (reported_currents r) m
  taken-same-reported m q = currents-meet f w v m q ∙ taken-same f v i (reported_currents r) m (λ k y. sym (currents-same f r h k y))

  branch-known : (k : ℕ) → k < row_count f → BranchKnown f v (reported_currents r) (voltages f i) (suc k)
  branch-known k q =
      let meets = currents-same f r h k q ∙ taken-same-reported (suc k) (omega arith) in
      let facts = w.branches k q in
      record {
        from-known = w.parents (suc k) (omega arith);
        kirchhoff = meets;
        worked = voltages-meet f w i k q ∙ ap (far_voltage (branch_at f (suc k)) (get_or (voltages f i) (parent f (suc k)) zero3)) (sym (currents-same f r h k q));
        off = λ p n. ap (λ (x : Three). at x p) meets ∙ absent_none f w v (reported_currents r) k p n;
        sized = facts.sized;
      }

  load-known : (l : Load) → OfLoad f l → (needs_voltage (kind_at l (voltage_on l v)) && within 0 (voltage_on l v)) ≡ false → LoadKnown f v l
  load-known l o z = record { node-known = load-node f l o; weighs = weight-pos (kind_at l (voltage_on l v)) l.vn (voltage_on l v) o.rated z }

  -- all that the account asks
  pub all_known : Known f r
  unfolding zero_voltage source_power
  all_known = record {
    worked = voltages f i;
    start = voltages-source f w i ∙ sym (source-same f r h);
    close = all-close f r h w;
    on-branches = all-count _ 1 (row_count f) (λ k q. let z : 1 + k ≡ suc k = omega arith in rw z (branch-known k q));
    on-loads = all-map2 f.loads load-known w.loads (any_false _ f.loads h.t30);
    source = (totals-same f r h).source ∙ ap₂ power (sym (source-same f r h)) (taken-same-reported 0 (omega arith));
  }

-- DEMAND 3, for every feeder's and every report's text
pub demand3 : (s t : List ℕ) → checked s t ≡ Ok done → PowerAccount s t
demand3 s t e =
    let g = pass-found s t e in
    let f : Feeder = with_reported g.feeder g.report in
    let k = all_known f g.report (reported-formed g.feeder t g.report g.report-read (formed s g.feeder (sound s g.feeder g.feeder-read))) g.met in
    record {
      feeder = g.feeder;
      report = g.report;
      feeder-read = g.feeder-read;
      report-read = g.report-read;
      real = account-law f g.report k real;
      reactive = account-law f g.report k reactive;
    }
