-- Rounding (01, 'Units and rounding'). Assumes nothing.
use Rattle.std.specs.Prelude.{ℕ, suc, ◌+◌, ◌*◌, ◌/◌, ℤ, pos, negsuc, neg_ℤ}

-- "rnd(a/b) is the quotient taken to the nearest whole number, a tie going away from zero": of two naturals, so that a tie goes up
unfoldable pub near : ℕ → ℕ → ℕ
near n d = (2 * n + d) / (2 * d)

-- of a whole number: by its size, with its sign
unfoldable pub rnd : ℤ → ℕ → ℤ
rnd (pos n) d = pos (near n d)
rnd (negsuc n) d = neg_ℤ (pos (near (suc n) d))
