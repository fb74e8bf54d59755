-- `radial::place_with_above` meets its contract: every step leaves an order an order. The nodes that were not met get fewer with each call. Assumes nothing.
use Rattle.std.specs.List.{sum_by}
use Rattle.std.specs.Prelude.{Bool, ℕ, false, true}
use Rattle.radial.proofs.+place_with_above.Given as goal

-- one for a node that was not met
abbrev pub not_met : Bool → ℕ
not_met true = 0
not_met false = 1

abbrev pub decreases-place_with_above : goal.decreases-place_with_above
decreases-place_with_above l = sum_by not_met l.met.now
