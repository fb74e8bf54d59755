-- `radial::place_with_above` meets its contract: every step leaves an order an order. The nodes that were not met get fewer with each call. Assumes nothing.
use Rattle.std.proofs.Common.{◌≡◌, ap, arith, false, get_or}
use Rattle.std.proofs.lemmas.List.Sums.{sum_by-set}
use Rattle.std.specs.Prelude.{true}
use Rattle.radial.proofs.+place_with_above.Invariants.{not_met}
use Rattle.radial.proofs.+place_with_above.Goals as goal

pub place_with_above-requires : goal.place_with_above-requires
place_with_above-requires t c =
    let p = c.requires.placed in
    let fewer = sum_by-set not_met c.args.met.now c.args.node true false (omega (arith, p.linked.few, c.requires.node_bound)) in
    let e : not_met (get_or c.args.met.now c.args.node false) ≡ 1 = ap not_met c.if-met-node.false in
    (omega (arith, c.decreases, fewer, e), (p.linked.from c.args.node c.requires.node_bound, p))
