-- `draw` meets its contract. After l rows the loop holds the sums over the first l. Assumes nothing.
use Rattle.draws.proofs.Summing.{Summed, first_rows}
use Rattle.draws.proofs.draw.Given as goal

abbrev pub invariant-loop-l : goal.invariant-loop-l
invariant-loop-l l = Summed (first_rows l.network.loads l.l) l.v l.beyond l.drawn l.own
