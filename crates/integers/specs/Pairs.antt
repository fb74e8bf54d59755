-- Pairs (01, 'Units and rounding'). Assumes nothing.
use Rattle.std.specs.Prelude.{Bool, ◌&&◌, ℕ, ◌+◌, ◌*◌, leb, ℤ, pos, nat_abs, ◌+ℤ◌, ◌-ℤ◌, ◌*ℤ◌}
use Rattle.integers.specs.declared.Pair.{Pair}
use Rattle.integers.specs.Rounding.{rnd}

-- "Voltages and currents are pairs (re, im)"
abbrev pub 0c : Pair
0c = record { re = pos 0; im = pos 0 }

infixl 6 ◌+c◌ ◌-c◌
infixl 7 ◌·c◌ ◌·*◌
unfoldable pub ◌+c◌ : Pair → Pair → Pair
x +c y = record { re = x.re +ℤ y.re; im = x.im +ℤ y.im }

unfoldable pub ◌-c◌ : Pair → Pair → Pair
x -c y = record { re = x.re -ℤ y.re; im = x.im -ℤ y.im }

unfoldable pub ◌·c◌ : Pair → Pair → Pair
x ·c y = record { re = x.re *ℤ y.re -ℤ x.im *ℤ y.im; im = x.re *ℤ y.im +ℤ x.im *ℤ y.re }

-- "conj changes the sign of im": x times conj y
unfoldable pub ◌·*◌ : Pair → Pair → Pair
x ·* y = record { re = x.re *ℤ y.re +ℤ x.im *ℤ y.im; im = x.im *ℤ y.re -ℤ x.re *ℤ y.im }

-- a whole number times a pair
unfoldable pub scaled : ℤ → Pair → Pair
scaled k x = record { re = k *ℤ x.re; im = k *ℤ x.im }

-- rnd "on re and im separately"
unfoldable pub rnd_pair : Pair → ℕ → Pair
rnd_pair x b = record { re = rnd x.re b; im = rnd x.im b }

-- "|V| and |I| mean |re| + |im|"
unfoldable pub abs : Pair → ℕ
abs x = nat_abs x.re + nat_abs x.im

-- re² + im²
unfoldable pub square : Pair → ℕ
square x = nat_abs x.re * nat_abs x.re + nat_abs x.im * nat_abs x.im

-- a number is within ±n; a pair is, in re and im each; two pairs differ by at most n in each; they are equal
unfoldable pub inside : ℕ → ℤ → Bool
inside n z = leb (nat_abs z) n

unfoldable pub within : ℕ → Pair → Bool
within n x = inside n x.re && inside n x.im

unfoldable pub close : ℕ → Pair → Pair → Bool
close n x y = inside n (x.re -ℤ y.re) && inside n (x.im -ℤ y.im)

unfoldable pub same : Pair → Pair → Bool
same x y = close 0 x y
