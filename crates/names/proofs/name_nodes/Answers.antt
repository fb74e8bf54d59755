-- `name_nodes` meets its contract: the names of the rows that passed stand behind the source's. Assumes nothing.
use mathlib.Core.List.{[], ◌∷◌}
use mathlib.Core.Path.{ap}
use Prim.Native.Nat.{◌-◌}
use native.Mathlib.Omega.{arith}
use Rattle.feeder.specs.Feeder.{nodes_of}
use Rattle.feeder.specs.Network.{kept, no_branch_row}
use Rattle.feeder.specs.declared.BranchRow.{BranchRow}
use Rattle.names.specs.Numbering.{branch-row, filled_all, filled_next}
use Rattle.names.proofs.name_nodes.Goals as goal

pub loop-k-init : goal.loop-k-init
unfolding kept
loop-k-init c = λ r t. rw (c.requires.nodes_value, t.source)

pub loop-k-preserved : goal.loop-k-preserved
loop-k-preserved c = λ r t.
    let k = c.loop-k.k in
    rw (c.loop-k.invariant r t)
    (filled_next (λ b. b.to) 0 201 (r.source ∷ []) r.branches no_branch_row (k - 1) k _ _ (omega arith) (omega arith) (omega (arith, t.rows)) (omega arith)
    (ap (λ (b : BranchRow). b.to) (branch-row r.branches t.branches (k - 1) _ (omega arith))))

pub returns : goal.returns
unfolding nodes_of
returns c = λ r t. rw (c.loop-k.invariant r t, filled_all (λ b. b.to) (r.source ∷ []) r.branches (c.loop-k.k - 1) (omega (arith, t.rows)))
