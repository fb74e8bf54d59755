-- `tap_table::taps::regulator_count` meets its contract: the rows that `filter` leaves are the regulators. Assumes nothing.
use mathlib.Core.Path.{◌∙◌, ◌≡◌, ap}
use Prim.Native.Nat.{◌+◌}
use native.Mathlib.Omega.{arith}
use lib.ListN.{length}
use Rattle.std.proofs.Common.{rules, tests}
use Rattle.std.proofs.lemmas.Iterator.{YieldsList-from_range}
use Rattle.std.proofs.lemmas.Iterator.Consumers.{YieldsList-from_filter, count_from_yields_List}
use Rattle.tap_table.specs.Regulators.{regulates_in, regulators-few, regulators-filtered, regulators_from}
use Rattle.tap_table.proofs.taps.regulator_count.Goals as goal

pub returns : goal.returns
returns c =
    let bs = c.args.network.now.branches in
    let n : c.count.result ≡ length (regulators_from bs 1 c.args.network.now.rows) =
    count_from_yields_List _ _ c.count.ensures.ran (YieldsList-from_filter _ (regulates_in bs) (YieldsList-from_range 1 (c.args.network.now.rows + 1) c.args.network.now.rows (cc) (omega arith)) c.filter.ensures.closure (λ x b q k. search (rules, tests))) ∙ ap length (regulators-filtered bs c.args.network.now.rows) in
    record { value = n; few = omega (arith, n, regulators-few bs c.args.network.now.rows, c.args.network.now.few_rows) }
