-- `passes::loss_pass` meets its contract: the losses of the rows passed, and their sum. Assumes nothing.
use Rattle.std.specs.Prelude.{◌≡◌, ◌+◌, ◌-◌}
use Rattle.std.proofs.Common.{arith}
use Rattle.equations.specs.Limits.{loss-within}
use Rattle.integers.specs.PairLaws.{Within, within_more}
use Rattle.passes.proofs.Losing.{lost-all, lost-next, lost-none}
use Rattle.passes.proofs.loss_pass.Goals as goal
use Rattle.passes.proofs.loss_pass.Goals.{After-loss-e}

small : (c : After-loss-e) → Within 1440000000000000 c.loss-e.result
small c = let k = c.loop-row.row - 1 in rw c.loss-e.ensures (loss-within _ (c.requires.by_index k (omega arith) (omega arith)) (c.requires.by_index_2 k (omega arith) (omega arith)))

pub loop-row-init : goal.loop-row-init
loop-row-init c =
    let z : (c.args.network.now.rows + 1) - 1 ≡ c.args.network.now.rows = omega arith in
    rw (z, c.requires.losses_value) (lost-none c.args.network.now c.args.i.now)

pub add-sum-requires-clause-within : goal.add-sum-requires-clause-within
add-sum-requires-clause-within c = within_more (small (goal.at.add-sum-requires-clause-within c).After-loss-e) tt

pub loop-row-preserved : goal.loop-row-preserved
loop-row-preserved c =
    lost-next c.args.network.now c.args.i.now c.loop-row.losses c.loop-row.sum (c.loop-row.row - 1) c.args.network.now.few_rows c.loop-row.invariant (omega arith) (omega arith) _ _ c.loss-e.ensures
    (small (goal.at.loop-row-preserved c).After-loss-e) c.add-sum.ensures

pub returns-clause-value : goal.returns-clause-value
returns-clause-value c = λ f a. lost-all c.args.network.now c.args.i.now c.loop-row.losses c.loop-row.sum (c.loop-row.row - 1) c.args.network.now.few_rows c.loop-row.invariant f a (omega arith)
