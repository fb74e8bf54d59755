-- An array of which a part is used. Assumes nothing.
use Rattle.std.specs.Prelude.{List, ◌≡◌, ◌<◌, ℕ, get_or, length}
use Rattle.feeder.specs.Network.{no_three}
use Rattle.feeder.specs.Phased.{Three}

-- places 0 to `rows` are used: zero stands behind them
pub record Spare (rows : ℕ) (l : List Three) : Type 0 where
  pub long : length l ≡ 201
  pub behind : (k : ℕ) → rows < k → get_or l k no_three ≡ no_three
