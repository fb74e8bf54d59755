-- Pairs: rounding makes nothing larger. Assumes nothing.
use Rattle.std.specs.Prelude.{ℕ, ◌*◌, ◌<◌, nat_abs}
use Rattle.std.proofs.Common.{arith}
use Rattle.integers.specs.declared.Pair.{Pair}
use Rattle.integers.specs.Pairs.{rnd_pair}
use Rattle.integers.specs.PairLaws.{Within}
use Rattle.integers.proofs.RoundingLaws.{abs-rnd, near_le, near-bound}

-- rounding makes nothing larger
pub within-rnd : {m d : ℕ} {x : Pair} → 0 < d → Within m x → Within m (rnd_pair x d)
unfolding rnd_pair
within-rnd {d = d} {x = x} p h =
    record {
      re = omega (arith, abs-rnd x.re d, near_le (nat_abs x.re) d p);
      im = omega (arith, abs-rnd x.im d, near_le (nat_abs x.im) d p);
    }

-- what is at most d times m is at most m when it is divided by d
pub within-div : {m d : ℕ} {x : Pair} → 0 < d → Within (m * d) x → Within m (rnd_pair x d)
unfolding rnd_pair
within-div {m} {d} {x} p h =
    record {
      re = omega (arith, abs-rnd x.re d, near-bound (nat_abs x.re) d m p (omega arith));
      im = omega (arith, abs-rnd x.im d, near-bound (nat_abs x.im) d m p (omega arith));
    }
