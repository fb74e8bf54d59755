-- `name_nodes` meets its contract: the names of the rows that passed stand behind the source's. Assumes nothing.
use mathlib.Core.List.{[], ◌∷◌}
use mathlib.Core.Path.{◌≡◌}
use Prim.Native.Nat.{◌-◌}
use Rattle.feeder.specs.Layout.{Rows}
use Rattle.feeder.specs.Network.{Tabled, kept}
use Rattle.names.specs.Numbering.{filled}
use Rattle.names.proofs.name_nodes.Given as goal

abbrev pub invariant-loop-k : goal.invariant-loop-k
invariant-loop-k l =
    (r : Rows) → Tabled r l.tables → l.nodes ≡ kept 0 201 (filled (λ b. b.to) (r.source ∷ []) r.branches (l.k - 1))
