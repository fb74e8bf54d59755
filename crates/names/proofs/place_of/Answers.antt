-- `place_of` meets its contract: the place is that of the rest of the names behind those that passed. Assumes nothing.
use native.Mathlib.Omega.{arith}
use Rattle.names.specs.Rest.{place_end, place_here, place-next}
use Rattle.names.proofs.place_of.Goals as goal

pub returns-then-name-nodes : goal.returns-then-name-nodes
returns-then-name-nodes c =
    let a = c.args in
    omega (arith, place_here a.name a.nodes.now a.n c.loop-i.i c.requires (omega arith) c.if-name-nodes.true)

pub loop-i-preserved : goal.loop-i-preserved
loop-i-preserved c =
    let a = c.args in
    omega (arith, place-next a.name a.nodes.now a.n c.loop-i.i c.requires (omega arith) c.if-name-nodes.false)

pub returns : goal.returns
returns c =
    let a = c.args in
    omega (arith, place_end a.name a.nodes.now a.n c.loop-i.i (omega arith))
