-- `tap_table::own::any_level` meets its contract: what `any` finds among the rows is what the definition finds. Assumes nothing.
use mathlib.Core.Path.{◌∙◌}
use Prim.Native.Nat.{◌+◌}
use native.Mathlib.Omega.{arith}
use lib.ListN.{get_or}
use Rattle.std.proofs.Common.{rules, tests}
use Rattle.std.proofs.lemmas.Iterator.{YieldsList-from_range}
use Rattle.std.proofs.lemmas.Iterator.Search.{any_from_yields_List}
use Rattle.feeder.specs.Feeder.{moves_taps, no_branch}
use Rattle.tap_table.specs.OwnLaws.{levels-any}
use Rattle.tap_table.proofs.own.any_level.Goals as goal

pub returns : goal.returns
returns c =
    any_from_yields_List (λ k. moves_taps (get_or c.args.network.now.branches k no_branch).device) _ _ _ c.any.ensures.ran (YieldsList-from_range 1 (c.args.network.now.rows + 1) c.args.network.now.rows (cc) (omega arith)) (λ x b q k. search (rules, tests))
    ∙ levels-any c.args.network.now.branches c.args.network.now.rows
