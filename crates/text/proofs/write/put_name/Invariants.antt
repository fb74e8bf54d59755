-- `text::write::put_name` meets its contract: at each turn the letters of what is left, written in front of those that stand, are the whole. Assumes nothing.
use Prim.Native.Nat.{◌<◌}
use Rattle.text.specs.Text.{letters}
use Rattle.text.specs.Stores.{Unwritten}
use Rattle.text.proofs.write.put_name.Given as goal

abbrev pub invariant-loop-i : goal.invariant-loop-i
invariant-loop-i l = record {
  below : l.left < 18446744073709551616;
  unwritten : Unwritten l.initial.out l.at (letters 8 l.v) l.i (letters 8 l.left) l.out;
}
