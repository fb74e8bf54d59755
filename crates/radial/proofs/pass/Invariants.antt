-- `radial::pass` meets its contract: the order stays one, and while none is placed, no row passed was to be placed. Assumes nothing.
use Rattle.radial.proofs.Placing.{Upto}
use Rattle.radial.proofs.pass.Given as goal

abbrev pub invariant-loop-k : goal.invariant-loop-k
invariant-loop-k l = Upto l.network.branches l.network.rows l.fn.to.len l.k l.to
