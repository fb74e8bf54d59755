-- Power account (01, and demand 3): a statement about a feeder's and a report's text. Assumes nothing.
use Rattle.std.specs.Prelude.{cond, List, ◌≡◌, ◌*◌, ◌+◌, ◌≤◌, ℕ, nat_abs, pos, ℤ, get_or, Ok}
use Rattle.equations.specs.Equations.{at, kind_at, load_current, rated, voltage_on, weight, z_of, zero3}
use Rattle.feeder.specs.Feeder.{Feeder, abc, branch_at, delta, has, parent, reading, rows_of}
use Rattle.feeder.specs.declared.Device.{Device}
use Rattle.feeder.specs.declared.Device.TheVariants.{Line, Regulator, Transformer}
use Rattle.feeder.specs.declared.Load.{Load}
use Rattle.feeder.specs.declared.LoadKind.{LoadKind}
use Rattle.feeder.specs.declared.LoadKind.TheVariants.{Current, Impedance, Power}
use Rattle.feeder.specs.declared.Phase.{Phase}
use Rattle.feeder.specs.Phased.{Phases, Three}
use Rattle.integers.specs.Lists.{csum, nsum}
use Rattle.integers.specs.Pairs.{0c, ◌+c◌, ◌-c◌, ◌·*◌, ◌·c◌, abs, rnd_pair, scaled, square}
use Rattle.integers.specs.declared.Pair.{Pair}
use Rattle.report.specs.Report.{Reported, report_of, reported_currents, reported_source, reported_voltages, with_reported}

-- "A load's rating is S for P, else rnd(S·(re² + im²)/w), at the reported V"
unfoldable pub rating_of : LoadKind → ℤ → Pair → Pair → Pair
rating_of Power vn s u = s
rating_of Current vn s u = rnd_pair (scaled (pos (square u)) s) (weight Current vn u)
rating_of Impedance vn s u = rnd_pair (scaled (pos (square u)) s) (weight Impedance vn u)

-- 02: "the power account uses the rating that the rule picks"
unfoldable pub rating : List Three → Load → Pair
rating v l = rating_of (kind_at l (voltage_on l v)) l.vn (rated l) (voltage_on l v)

-- "A line's exact loss is rnd(sum over i, j of conj(I_i)·z_ij·I_j / 10,000,000); a transformer's the same with z_i alone; a regulator's 0"
unfoldable pub exact_loss : Device → Three → Pair
exact_loss (Line z) i = rnd_pair (csum (λ p. csum (λ j. (z_of z p j ·c at i j) ·* at i p) abc) abc) 10000000
exact_loss (Regulator x) i = 0c
exact_loss (Transformer x) i = rnd_pair (csum (λ p. (at x.z p ·c at i p) ·* at i p) abc) 10000000

-- "the ratings of all load rows plus the exact losses of all branches"
unfoldable pub accounted : Feeder → Reported → Pair
accounted f r = csum (rating (reported_voltages r)) f.loads +c csum (λ k. exact_loss (branch_at f k).device (get_or (reported_currents r) k zero3)) (rows_of f)

-- the table of demand 3. "load row: 2·tol·|I| + |V| + 1"; 02, of AB, BC and CA: "such a row is allowed 4·tol·|I| + |V| + 1, with V the difference"
unfoldable pub load_allowance : ℕ → List Three → Load → ℕ
load_allowance tol v l = cond (delta l.phase) 4 2 * tol * abs (load_current v l) + abs (voltage_on l v) + 1

-- "each summed over its phases"
unfoldable pub over : Phases → (Phase → ℕ) → ℕ
over f x = nsum (λ p. cond (has f p) (x p) 0) abc

-- "line: 1 + |I|", "regulator: |V| + 2·tol + |I| on each of its phases", "transformer: 1, and |V| + 2·tol + 2·|I| on each of its phases"
unfoldable pub branch_allowance : ℕ → Device → Phases → Three → Three → ℕ
branch_allowance tol (Line z) f u i = 1 + over f (λ p. abs (at i p))
branch_allowance tol (Regulator x) f u i = over f (λ p. abs (at u p) + 2 * tol + abs (at i p))
branch_allowance tol (Transformer x) f u i = 1 + over f (λ p. abs (at u p) + 2 * tol + 2 * abs (at i p))

-- "a branch's V is at its from-node, its I the reported one at m"
unfoldable pub allowance : Feeder → Reported → ℕ
allowance f r =
    nsum (load_allowance f.tol (reported_voltages r)) f.loads
    + nsum (λ k. branch_allowance f.tol (branch_at f k).device (branch_at f k).phases (get_or (reported_voltages r) (parent f k) zero3) (get_or (reported_currents r) k zero3)) (rows_of f)

-- "the difference between source_p + j·source_q, as the report has it, and the sum": "Twice that difference, real and reactive each, without its sign, is at most" the allowance
unfoldable pub difference : Feeder → Reported → Pair
difference f r = reported_source r -c accounted f r

-- of a feeder's text and a report's text: they are read as some feeder and some report, and for these the account holds. 02: "the power account is that of
-- those taps", the reported ones
pub record PowerAccount (s t : List ℕ) : Type 0 where
  pub feeder : Feeder
  pub report : Reported
  pub feeder-read : reading s ≡ Ok feeder
  pub report-read : report_of feeder t ≡ Ok report
  pub real : 2 * nat_abs (difference (with_reported feeder report) report).re ≤ allowance (with_reported feeder report) report
  pub reactive : 2 * nat_abs (difference (with_reported feeder report) report).im ≤ allowance (with_reported feeder report) report
