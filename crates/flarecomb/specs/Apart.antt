-- A word fits into 64 bits and can be taken apart where its parts are small enough. Assumes nothing.
use Rattle.std.specs.Prelude.{◌≡◌, ◌<◌, ◌^◌, ℕ}
use Rattle.std.proofs.Common.{arith}
use Rattle.flarecomb.specs.Words.{number_in, sweeps_in, value_in, word}

-- ---- a word of sweeps and a number below 2^16 and a value below 2^32
pub record Apart (w sweeps number value : ℕ) : Type 0 where
  pub fits : w < 2 ^ 64
  pub sweeps-back : sweeps_in w ≡ sweeps
  pub number-back : number_in w ≡ number
  pub value-back : value_in w ≡ value

pub apart : (sweeps number value : ℕ) → sweeps < 2 ^ 16 → number < 2 ^ 16 → value < 2 ^ 32 → Apart (word sweeps number value) sweeps number value
unfolding word
apart sweeps number value o p q = record {
  fits = omega arith;
  sweeps-back = omega arith;
  number-back = omega arith;
  value-back = omega arith;
}
