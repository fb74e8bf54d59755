-- `number_branches` meets its contract: the branches of the rows that passed stand behind place 0. Assumes nothing.
use mathlib.Core.List.{[], ◌∷◌}
use mathlib.Core.Path.{ap}
use Prim.Native.Nat.{◌+◌, ◌-◌}
use native.Mathlib.Omega.{arith}
use lib.ListN.{take}
use Rattle.feeder.specs.Feeder.{branch_of, no_branch}
use Rattle.feeder.specs.Network.{kept, no_branch_row}
use Rattle.feeder.specs.NetworkLaws.{blank-kept}
use Rattle.names.specs.Numbering.{branch-row, filled_all, filled_next}
use Rattle.names.proofs.number_branches.Goals as goal

pub loop-k-init : goal.loop-k-init
unfolding kept
loop-k-init c = λ r e n b. rw (b, blank-kept no_branch 201)

pub loop-k-preserved : goal.loop-k-preserved
loop-k-preserved c = λ r e n b.
    let k = c.loop-k.k in
    let made = branch_of (take (c.args.tables.now.rows + 1) c.args.nodes.now) in
    rw (c.loop-k.invariant r e n b)
    (filled_next made no_branch 201 (no_branch ∷ []) r.branches no_branch_row (k - 1) k _ _ (omega arith) (omega arith) (omega (arith, n)) (omega arith)
    (rw (c.find-from.ensures, c.device_of.ensures) (ap made (branch-row r.branches e (k - 1) _ (omega arith)))))

pub returns : goal.returns
returns c = λ r e n b.
    rw (c.loop-k.invariant r e n b, filled_all (branch_of (take (c.args.tables.now.rows + 1) c.args.nodes.now)) (no_branch ∷ []) r.branches (c.loop-k.k - 1) (omega (arith, n)))
