-- `tap_table::by_node::taps_by_node` meets its contract: at each turn the rows in front have their taps, and the rest is to be tested. Assumes nothing.
use mathlib.Core.Bool.{Bool, ◌&&◌, false, true}
use mathlib.Core.Path.{◌∙◌, ◌≡◌, ap, refl, sym}
use Prim.Native.Nat.{◌+◌, ◌-◌}
use native.Mathlib.Omega.{arith}
use lib.ListN.{get_or, length}
use Rattle.feeder.specs.Feeder.{no_branch, no_taps}
use Rattle.integers.specs.Bools.{clash}
use Rattle.report.specs.Report.{taps_fit}
use Rattle.tap_table.specs.OwnLaws.{before-first, before-more, before-none, fits-none, fits-skip, fits-some, given-start, taps-skip, taps-some}
use Rattle.tap_table.specs.OwnRows.{fits_from, given_taps}
use Rattle.tap_table.specs.Regulators.{regulates_in}
use Rattle.tap_table.proofs.by_node.taps_by_node.Goals as goal
use Rattle.tap_table.proofs.by_node.taps_by_node.Goals.{After-regulates, else-regulates, then-regulates+else-not-taps_fit}

-- the row of this turn is a regulator's, and its taps fit or not
fitted : (c : After-regulates) → c.regulates.result ≡ true → let g = c.args.network.now in (b d : Bool) → b ≡ taps_fit (get_or g.branches c.loop-k.k no_branch).phases (get_or c.args.table.now c.loop-k.j no_taps) → b ≡ d →
    fits_from g.branches c.args.table.now 1 g.rows ≡ (d && fits_from g.branches c.args.table.now (c.loop-k.k + 1) g.rows)
fitted c r b d e f =
    let g = c.args.network.now in
    c.loop-k.invariant.fit ∙ fits-some g.branches c.args.table.now c.loop-k.k c.loop-k.j g.rows (omega (arith, c.loop-k-test.true)) (sym c.regulates.ensures ∙ r) c.loop-k.invariant.counted
    ∙ ap (λ (x : Bool). x && fits_from g.branches c.args.table.now (c.loop-k.k + 1) g.rows) (sym e ∙ f)

pub loop-k-init : goal.loop-k-init
loop-k-init c = record { few = omega arith; counted = sym (ap length (before-first c.args.network.now.branches)); given = given-start _ _ _ c.requires; fit = refl }

pub returns-then-not-taps_fit : goal.returns-then-not-taps_fit
returns-then-not-taps_fit c = record { fit = sym (fitted (goal.at.returns-then-not-taps_fit c).After-regulates c.if-regulates.true _ false c.taps_fit.ensures c.if-not-taps_fit.true); held = λ z. clash false z refl }

pub loop-k-preserved : goal.loop-k-preserved
loop-k-preserved c =
    let g = c.args.network.now in
    let i = c.loop-k.invariant in
    elim c.if-regulates.branch [
      | then-regulates+else-not-taps_fit w ↦
          let r : regulates_in g.branches c.loop-k.k ≡ true = sym c.regulates.ensures ∙ w.if-regulates.true in
          record {
            few = omega (arith, w.j-is, i.few);
            counted = w.j-is ∙ before-more g.branches c.loop-k.k c.loop-k.j c.loop-k.auto.k r i.counted;
            given = w.taps-is ∙ taps-some g.branches c.args.table.now c.loop-k.k c.loop-k.j c.loop-k.taps c.loop-k.auto.k (omega (arith, c.loop-k-test.true, c.args.network.now.few_rows)) r i.counted i.given;
            fit = fitted (goal.at.loop-k-preserved c).After-regulates w.if-regulates.true _ true w.taps_fit.ensures w.if-not-taps_fit.false;
          }
      | else-regulates w ↦
          let r : regulates_in g.branches c.loop-k.k ≡ false = sym c.regulates.ensures ∙ w.if-regulates.false in
          record {
            few = omega (arith, w.j-is, i.few);
            counted = w.j-is ∙ i.counted ∙ sym (ap length (before-none g.branches c.loop-k.k c.loop-k.auto.k r));
            given = w.taps-is ∙ i.given ∙ taps-skip g.branches c.args.table.now c.loop-k.k c.loop-k.auto.k r;
            fit = i.fit ∙ fits-skip g.branches c.args.table.now c.loop-k.k g.rows (omega (arith, c.loop-k-test.true)) r;
          }
    ]

pub returns : goal.returns
returns c =
    let g = c.args.network.now in
    let z : c.loop-k.k - 1 ≡ g.rows = omega (arith, c.loop-k-test.false, c.loop-k.auto.k-end) in
    record { fit = sym (c.loop-k.invariant.fit ∙ fits-none g.branches c.args.table.now c.loop-k.k g.rows (omega (arith, c.loop-k-test.false))); held = λ e. c.loop-k.invariant.given ∙ ap (given_taps g.branches c.args.table.now) z }
