-- The whole root (01, 'Units and rounding'), and how many binary digits a number has (02, S-2). `root-law` of RootLaws and `digits-law` of DigitsLaws say that they are
-- the ones that are meant. Assumes nothing.
use Rattle.std.specs.Prelude.{true, false, cond, ℕ, zero, suc, ◌+◌, ◌*◌, ◌/◌, leb, eqb}

-- "root(n) is the greatest whole m with m·m ≤ n": twice the root of n / 4, or one more. k bounds the steps
unfoldable pub root_by : ℕ → ℕ → ℕ
root_by zero n = 0
root_by (suc k) n =
    elim (eqb n 0) [ true ↦ 0 | false ↦ let m = 2 * root_by k (n / 4) in cond (leb ((m + 1) * (m + 1)) n) (m + 1) m ]

unfoldable pub root : ℕ → ℕ
root n = root_by n n

-- "one step for each of its own binary digits (none for 0)": m has one binary digit more than m / 2 has. k bounds how often m is halved
unfoldable pub digits_by : ℕ → ℕ → ℕ
digits_by zero m = 0
digits_by (suc k) m = elim (eqb m 0) [ true ↦ 0 | false ↦ let d = digits_by k (m / 2) in suc d ]

unfoldable pub binary_digits : ℕ → ℕ
binary_digits m = digits_by m m
