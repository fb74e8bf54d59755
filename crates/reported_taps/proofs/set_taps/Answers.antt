-- `set_taps` meets its contract: the rows before k have their taps. Assumes nothing.
use mathlib.Core.List.{List}
use mathlib.Core.Path.{◌∙◌, ◌≡◌, ap}
use Prim.Native.Nat.{◌+◌}
use lib.ListN.{get_or, set}
use Rattle.feeder.specs.Feeder.{no_taps}
use Rattle.feeder.specs.NetworkLaws.{get_or_kept}
use Rattle.feeder.specs.Phased.{Taps}
use Rattle.branch_taps.proofs.SettingLaws.{set-array, setting-next, setting-start}
use Rattle.branch_taps.specs.Setting.{Setting}
use native.Mathlib.Omega.{arith}
use Rattle.reported_taps.proofs.set_taps.Invariants.{given}
use Rattle.reported_taps.proofs.set_taps.Goals as goal

pub loop-k-init : goal.loop-k-init
loop-k-init c = setting-start c.args.branches.now (given c.args.taps.now)

pub loop-k-preserved : goal.loop-k-preserved
loop-k-preserved c =
    setting-next c.loop-k.k c.args.branches.now c.loop-k.branches _ (given c.args.taps.now) c.loop-k.auto.k
    (omega (arith, c.told-branches, c.requires, c.loop-k-test.true)) (ap (set c.loop-k.branches c.loop-k.k) c.set_taps.ensures) c.loop-k.invariant

pub returns : goal.returns
returns c =
    let rows = c.args.rows in
    λ f t e r u q. let w : Setting (rows + 1) c.args.branches.now c.loop-k.branches (given c.args.taps.now) =
    (let z : c.loop-k.k ≡ rows + 1 = omega (arith, c.loop-k-test.false, c.loop-k.auto.k-end) in rw z at c.loop-k.invariant) in
    set-array f rows _ _ _ t e r c.requires (λ k p z. ap (λ (l : List Taps). get_or l k no_taps) u ∙ get_or_kept no_taps 201 t k q) w
