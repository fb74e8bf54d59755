-- `number_loads_among` meets its contract: the loads of the rows that passed stand in the array. Assumes nothing.
use mathlib.Core.List.{[]}
use mathlib.Core.Path.{◌≡◌, ap}
use native.Mathlib.Omega.{arith}
use borrow.Author.Rules.{rules}
use lib.ListN.{get_or, take}
use Rattle.feeder.specs.Feeder.{load_of}
use Rattle.feeder.specs.Network.{no_load, no_load_row}
use Rattle.feeder.specs.NetworkLaws.{blank-kept}
use Rattle.integers.specs.Machine.{read}
use Rattle.names.specs.Numbering.{filled_all, filled_next, load-row}
use Rattle.names.proofs.number_loads_among.Goals as goal

pub loop-i-init : goal.loop-i-init
loop-i-init c = λ r e n b. rw (b, blank-kept no_load 300)

pub loop-i-preserved : goal.loop-i-preserved
loop-i-preserved c = λ r e n b.
    let i = c.loop-i.i in
    let made = load_of (take c.args.n c.args.nodes.now) in
    let z : read (get_or c.args.tables.now.loads i no_load_row).vn ≡ (get_or c.args.tables.now.loads i no_load_row).vn = search rules in
    rw (c.loop-i.invariant r e n b)
    (filled_next made no_load 300 [] r.loads no_load_row i i _ _ (omega arith) (omega arith) (omega (arith, n)) (omega arith)
    (rw (c.find-node.ensures, z) (ap made (load-row r.loads e i _ (omega arith)))))

pub returns : goal.returns
returns c = λ r e n b. rw (c.loop-i.invariant r e n b, filled_all (load_of (take c.args.n c.args.nodes.now)) [] r.loads c.loop-i.i (omega (arith, n)))
