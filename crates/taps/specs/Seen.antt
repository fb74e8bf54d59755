-- What the tests of a relay are given. Assumes nothing.
use Rattle.std.specs.Prelude.{◌≤◌, nat_abs}
use Rattle.feeder.specs.declared.TapChanger.{TapChanger}
use Rattle.integers.specs.PairLaws.{Within}
use Rattle.integers.specs.declared.Pair.{Pair}

-- a level and a band of at most 200 V, and a relay voltage as `relay_voltage` can give. A clause of three contracts: a type of both would be made for one call
pub record Seen (x : TapChanger) (r : Pair) : Type 0 where
  pub level : nat_abs x.level ≤ 20000
  pub band : nat_abs x.band ≤ 20000
  pub within : Within 42000000 r
