-- `text::read::read_digits` meets its contract: at each turn the rest of the text, read behind v, gives what the whole gives. Assumes nothing.
use mathlib.Core.Path.{◌≡◌}
use Prim.Native.Nat.{◌<◌}
use lib.ListN.{drop}
use Rattle.text.specs.Text.{more}
use Rattle.text.proofs.read.read_digits.Given as goal

abbrev pub invariant-loop-i : goal.invariant-loop-i
invariant-loop-i l = record {
  below : l.v < 1000000000000000000;
  rest : more l.sep (drop l.from l.s) l.from l.first ≡ more l.sep (drop l.i l.s) l.i l.v;
}
