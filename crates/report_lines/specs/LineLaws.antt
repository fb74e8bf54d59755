-- Laws of the lines: their lengths. Assumes nothing.
use Rattle.std.specs.Prelude.{◌≡◌, ◌*◌, ◌+◌, ◌≤◌, suc, ℕ, negsuc, pos, ℤ, length}
use Rattle.std.proofs.Common.{arith, length-append}
use Rattle.equations.specs.Equations.{at}
use Rattle.feeder.specs.declared.Phase.{Phase}
use Rattle.feeder.specs.declared.Phase.TheVariants.{A, B, C}
use Rattle.feeder.specs.Phased.{Taps, Three}
use Rattle.integers.specs.declared.Pair.{Pair}
use Rattle.report_lines.specs.Lines.{branch_row, node_row, pair_fields, tap_row, three_fields, totals_row}
use Rattle.report_lines.specs.declared.Figures.{Figures}
use Rattle.text.specs.NameText.{letters-8}
use Rattle.text.specs.Text.{decimal, letters}
use Rattle.text.specs.TextLaws.{decimal-natural, decimal-negative, digits-fit}

-- ---- lengths
pub decimal-fits : (z : ℤ) → length (decimal z) ≤ 21
decimal-fits (pos n) = rw (decimal-natural n) (omega (arith, digits-fit 20 n))
decimal-fits (negsuc n) = rw (decimal-negative n) (omega (arith, digits-fit 20 (suc n)))

pub pair-length : (x : Pair) → length (pair_fields x) ≡ length (decimal x.re) + length (decimal x.im) + 2
unfolding pair_fields
pair-length x = simp length-append (omega arith)

pub three-length : (x : Three) → length (three_fields x) ≡ length (pair_fields x.a) + length (pair_fields x.b) + length (pair_fields x.c)
unfolding three_fields
three-length x = simp length-append (omega arith)

pub node-length : (n : ℕ) (x : Three) → length (node_row n x) ≡ length (letters 8 n) + length (three_fields x) + 1
unfolding node_row
node-length n x = simp length-append (omega arith)

pub branch-length : (from to : ℕ) (x : Three) (loss : Pair) →
    length (branch_row from to x loss) ≡ length (letters 8 from) + length (letters 8 to) + length (three_fields x) + length (pair_fields loss) + 2
unfolding branch_row
branch-length from to x loss = simp length-append (omega arith)

pub totals-length : (g : Figures) → length (totals_row g) ≡
    length (decimal (pos g.sweeps)) + length (pair_fields g.source) + length (pair_fields g.drawn) + length (pair_fields g.lost) + 1
unfolding totals_row
totals-length g = simp length-append (omega arith)

pub tap-length : (n : ℕ) (t : Taps) → length (tap_row n t) ≡ length (letters 8 n) + length (decimal t.a) + length (decimal t.b) + length (decimal t.c) + 4
unfolding tap_row
tap-length n t = simp length-append (omega arith)

-- ---- how long a line can get, where its numbers have at most b bytes each, or those of the loss c
pub record Short (b : ℕ) (x : Pair) : Type 0 where
  pub re : length (decimal x.re) ≤ b
  pub im : length (decimal x.im) ≤ b

pub pair-most : {b : ℕ} {x : Pair} → Short b x → length (pair_fields x) ≤ 2 * b + 2
pair-most {x = x} h = omega (arith, pair-length x)

pub three-most : {b : ℕ} {x : Three} → ((p : Phase) → Short b (at x p)) → length (three_fields x) ≤ 6 * b + 6
three-most {x = x} h = omega (arith, three-length x, pair-most (h A), pair-most (h B), pair-most (h C))

pub node-most : {b : ℕ} (n : ℕ) {x : Three} → ((p : Phase) → Short b (at x p)) → length (node_row n x) ≤ 6 * b + 15
node-most n {x} h = omega (arith, node-length n x, letters-8 n, three-most h)

pub branch-most : {b c : ℕ} (from to : ℕ) {x : Three} {loss : Pair} → ((p : Phase) → Short b (at x p)) → Short c loss →
    length (branch_row from to x loss) ≤ 6 * b + 2 * c + 26
branch-most from to {x} {loss} h l = omega (arith, branch-length from to x loss, letters-8 from, letters-8 to, three-most h, pair-most l)

pub totals-most : {c : ℕ} (g : Figures) → Short c g.source → Short c g.drawn → Short c g.lost → length (totals_row g) ≤ 6 * c + 28
totals-most g s d l = omega (arith, totals-length g, decimal-fits (pos g.sweeps), pair-most s, pair-most d, pair-most l)

-- whatever the numbers are: any has at most 21 bytes
pub fits : (x : Pair) → Short 21 x
fits x = record { re = decimal-fits x.re; im = decimal-fits x.im }

pub fits3 : (x : Three) (p : Phase) → Short 21 (at x p)
fits3 x p = fits (at x p)

pub node-fits : (n : ℕ) (x : Three) → length (node_row n x) ≤ 141
node-fits n x = node-most n (fits3 x)

pub branch_fits : (from to : ℕ) (x : Three) (loss : Pair) → length (branch_row from to x loss) ≤ 194
branch_fits from to x loss = branch-most from to (fits3 x) (fits loss)

pub totals-fits : (g : Figures) → length (totals_row g) ≤ 154
totals-fits g = totals-most g (fits g.source) (fits g.drawn) (fits g.lost)

pub tap-fits : (n : ℕ) (t : Taps) → length (tap_row n t) ≤ 75
tap-fits n t = omega (arith, tap-length n t, letters-8 n, decimal-fits t.a, decimal-fits t.b, decimal-fits t.c)
