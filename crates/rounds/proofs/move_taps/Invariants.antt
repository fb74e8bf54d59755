-- `move_taps` meets its contract: the rows before k have moved. Assumes nothing.
use Rattle.rounds.specs.Moving.{Moving}
use Rattle.rounds.proofs.move_taps.Given as goal

abbrev pub invariant-loop-k : goal.invariant-loop-k
invariant-loop-k l = Moving l.k l.fn.branches l.branches l.v l.i l.changed
