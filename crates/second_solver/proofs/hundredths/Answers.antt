-- `hundredths` is safe: the two tests say what the call asks of y, with each number by its bit pattern. Assumes nothing.
use Rattle.std.proofs.Common.{T, sym, subst}
use lib.Ieee.{of_bits, neg}
use Rattle.second_solver.proofs.hundredths.Goals as goal

pub truncating_f64_to_u64-requires-clause-lower_bound :
    goal.truncating_f64_to_u64-requires-clause-lower_bound
unfolding of_bits neg
truncating_f64_to_u64-requires-clause-lower_bound c = subst T (sym c.if-y.true) tt

pub truncating_f64_to_u64-requires-clause-upper_bound :
    goal.truncating_f64_to_u64-requires-clause-upper_bound
unfolding of_bits neg
truncating_f64_to_u64-requires-clause-upper_bound c = subst T (sym c.if-y-2.true) tt
