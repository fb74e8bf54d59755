-- `slots_of` meets its contract: the slot of each name that passed holds its place or one before it. Assumes nothing.
use mathlib.Core.Path.{◌≡◌}
use Prim.Native.Nat.{◌-◌}
use native.Mathlib.Omega.{arith}
use borrow.Author.Rules.{rules}
use Rattle.names.specs.Slots.{slots-none, slots_next}
use Rattle.names.proofs.slots_of.Goals as goal

pub loop-i-init : goal.loop-i-init
loop-i-init c = (search rules, slots-none c.args.n 4093 c.args.nodes.now)

pub loop-i-preserved : goal.loop-i-preserved
loop-i-preserved c =
    let l = c.loop-i in
    (search rules, slots_next (l.i - 1) l.i c.slot_of.result (l.i - 1) c.args.nodes.now l.slots l.invariant.1 (omega arith) c.slot_of.ensures (omega arith) (omega arith))

pub returns : goal.returns
returns c = let e : c.loop-i.i ≡ 0 = omega arith in rw e at c.loop-i.invariant.1
