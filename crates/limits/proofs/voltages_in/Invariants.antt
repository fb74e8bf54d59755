-- `limits::voltages_in` meets its contract: the six numbers are tested one after the other. Assumes nothing.
use Rattle.limits.specs.Columns.{Held, voltage_at}
use Rattle.limits.proofs.voltages_in.Given as goal

abbrev pub invariant-loop-j : goal.invariant-loop-j
invariant-loop-j l = Held (voltage_at l.given) 1 6 l.j
