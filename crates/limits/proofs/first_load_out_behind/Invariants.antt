-- `limits::first_load_out_behind` meets its contract: the rows are tested one after the other. Assumes nothing.
use mathlib.Core.List.{List}
use mathlib.Core.Path.{◌≡◌}
use lib.ListN.{length}
use Rattle.feeder.specs.Network.{kept, no_load_row}
use Rattle.feeder.specs.declared.LoadRow.{LoadRow}
use Rattle.limits.specs.FirstRow.{Passed, load_out}
use Rattle.limits.proofs.first_load_out_behind.Given as goal

abbrev pub invariant-loop-k : goal.invariant-loop-k
invariant-loop-k l = (ls : List LoadRow) → l.tables.loads ≡ kept no_load_row 300 ls → l.tables.count ≡ length ls → Passed load_out l.before ls l.k
