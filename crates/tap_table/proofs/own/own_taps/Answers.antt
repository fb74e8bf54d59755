-- `tap_table::own::own_taps` meets its contract: at each turn the rows in front are stored. Assumes nothing.
use mathlib.Core.Bool.{false, not}
use mathlib.Core.Path.{◌∙◌, ap, refl, sym}
use native.Mathlib.Omega.{arith}
use Rattle.integers.specs.Bools.{clash}
use Rattle.tap_table.specs.OwnLaws.{own-all, own-none, own-some, own-start}
use Rattle.tap_table.proofs.own.own_taps.Goals as goal
use Rattle.tap_table.proofs.own.own_taps.Goals.{else-regulates, then-regulates}

pub returns-then-any_level : goal.returns-then-any_level
returns-then-any_level c = record { level = ap not (sym c.if-any_level.true ∙ c.any_level.ensures); held = λ z. clash false z refl }

pub loop-k-init : goal.loop-k-init
loop-k-init c = record { few = omega arith; stored = own-start _ _ _ _ c.requires.names_value c.requires.taps_value }

pub loop-k-preserved : goal.loop-k-preserved
loop-k-preserved c =
    let i = c.loop-k.invariant in
    elim c.if-regulates.branch [
      | then-regulates w ↦
          rw (w.j-is, w.names-is) (record {
            few = omega (arith, i.few);
            stored = own-some _ _ _ _ _ _ i.stored _ _ _ c.loop-k.auto.k (omega (arith, c.loop-k-test.true, c.args.network.now.few_rows)) (sym c.regulates.ensures ∙ w.if-regulates.true) refl w.taps.ensures w.taps-is;
          })
      | else-regulates w ↦
          rw (w.j-is, w.names-is, w.taps-is) (record { few = omega (arith, i.few); stored = own-none _ _ _ _ _ _ i.stored c.loop-k.auto.k (sym c.regulates.ensures ∙ w.if-regulates.false) })
    ]

pub returns : goal.returns
returns c =
    record { level = ap not (sym c.if-any_level.false ∙ c.any_level.ensures); held = λ z. own-all _ _ _ _ _ _ c.loop-k.invariant.stored _ (omega (arith, c.loop-k-test.false, c.loop-k.auto.k-end)) }
