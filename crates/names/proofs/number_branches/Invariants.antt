-- `number_branches` meets its contract: the branches of the rows that passed stand behind place 0. Assumes nothing.
use mathlib.Core.List.{[], ◌∷◌}
use mathlib.Core.Path.{◌≡◌}
use Prim.Native.Nat.{◌+◌, ◌-◌}
use lib.ListN.{length, replicate, take}
use Rattle.feeder.specs.Feeder.{branch_of, no_branch}
use Rattle.feeder.specs.Layout.{Rows}
use Rattle.feeder.specs.Network.{kept, no_branch_row}
use Rattle.names.specs.Numbering.{filled}
use Rattle.names.proofs.number_branches.Given as goal

abbrev pub invariant-loop-k : goal.invariant-loop-k
invariant-loop-k l =
    (r : Rows) → l.tables.branches ≡ kept no_branch_row 200 r.branches → l.tables.rows ≡ length r.branches → l.initial.branches ≡ replicate 201 no_branch → l.branches ≡ kept no_branch 201 (filled (branch_of (take (l.tables.rows + 1) l.nodes)) (no_branch ∷ []) r.branches (l.k - 1))
