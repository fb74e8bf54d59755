-- `text::write::put_digits` meets its contract: at each turn the digits of what is left, written in front of those that stand, are the whole. Assumes nothing.
use Prim.Native.Nat.{◌<◌}
use Rattle.text.specs.Text.{digits}
use Rattle.text.specs.Stores.{Unwritten}
use Rattle.text.proofs.write.put_digits.Given as goal

abbrev pub invariant-loop-i : goal.invariant-loop-i
invariant-loop-i l = record {
  below : l.left < 18446744073709551616;
  unwritten : Unwritten l.initial.out l.at (digits 20 l.n) l.i (digits 20 l.left) l.out;
}
