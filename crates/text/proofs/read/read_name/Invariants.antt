-- `text::read::read_name` meets its contract: at each turn the rest of the text, read behind v, gives what the whole gives. Assumes nothing.
use mathlib.Core.Path.{◌≡◌}
use Prim.Native.Nat.{◌<◌}
use lib.ListN.{drop}
use Rattle.text.specs.Text.{name}
use Rattle.text.proofs.read.read_name.Given as goal

abbrev pub invariant-loop-i : goal.invariant-loop-i
invariant-loop-i l = record {
  below : l.v < 18446744073709551616;
  rest : name l.sep (drop l.at l.s) l.at 0 ≡ name l.sep (drop l.i l.s) l.i l.v;
}
