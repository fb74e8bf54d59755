-- `text::write::put_name` meets its contract: at each turn the letters of what is left, written in front of those that stand, are the whole. Assumes nothing.
use native.Mathlib.Omega.{arith}
use Rattle.text.specs.TextLaws.{letters-going, letters-front}
use Rattle.text.specs.Stores.{unwritten-last}
use Rattle.text.proofs.write.put_name.Goals as goal

pub loop-i-preserved : goal.loop-i-preserved
loop-i-preserved c =
    let i = c.loop-i.invariant in
    let e = letters-front c.loop-i.left (letters-going 8 _ (omega (arith, i.unwritten.ends))) i.below in
    record { below = omega arith; unwritten = unwritten-last _ _ (rw e at i.unwritten) }
