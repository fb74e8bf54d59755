-- `limits::all_between` meets its contract: the columns are tested one after the other. Assumes nothing.
use Rattle.feeder.specs.Feeder.{between}
use Rattle.text.specs.Lines.{nth}
use Rattle.limits.specs.Columns.{Held}
use Rattle.limits.proofs.all_between.Given as goal

abbrev pub invariant-loop-j : goal.invariant-loop-j
invariant-loop-j l = Held (λ i. between l.lo l.hi (nth l.p i)) l.first l.last l.j
