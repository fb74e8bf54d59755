-- What the place of the first of a root's binary digits is worth, squared. Assumes nothing.
use Rattle.std.specs.Prelude.{ℕ, suc, zero, ◌*◌, ◌^◌}

-- ---- the square of what the place of the first of k digits is worth, 0 for no digits
unfoldable pub place_squared : ℕ → ℕ
place_squared zero = 0
place_squared (suc k) = 2 ^ k * 2 ^ k
