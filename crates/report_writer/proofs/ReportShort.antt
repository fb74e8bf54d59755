-- A report whose numbers keep their limits has fewer than 65,536 bytes. Assumes nothing.
use Rattle.std.specs.Prelude.{Bool, cond, List, [], ◌++◌, ◌∷◌, pos, ◌*◌, ◌+◌, ◌<◌, ◌≤◌, suc, zero, ℕ, get_or}
use Rattle.std.proofs.Math.Bool.{false, true}
use Rattle.std.proofs.Common.{suc-mul}
use native.Mathlib.Omega.{arith}
use Rattle.std.proofs.Math.ListN.{length, length-append}
use Rattle.equations.specs.Equations.{at, drawn_power, loss_of, lost_power, source_power, zero3}
use Rattle.feeder.specs.Feeder.{Feeder, branch_at, regulates, regulators, row_count, taps_on}
use Rattle.feeder.specs.declared.Network.{Network}
use Rattle.feeder.specs.declared.Phase.{Phase}
use Rattle.feeder.specs.Phased.{Three}
use Rattle.integers.specs.Lists.{count, tab}
use Rattle.integers.specs.PairLaws.{Within}
use Rattle.integers.specs.declared.Pair.{Pair}
use Rattle.report.specs.Report.{branch_line, branches_text, name_text, node_line, nodes_text, pair_text, report_text, tap_line, taps_text, totals_line, totals_text}
use Rattle.report_lines.specs.LineLaws.{Short, branch-most, decimal-fits, node-most, tap-fits, totals-most}
use Rattle.report_writer.specs.ReportIs.{Shown, behind, branch-line, line-behind, joined-chosen, node-line, report-is, tap-line, totals-line}
use Rattle.report_writer.specs.Tables.{whole_text}
use Rattle.report_lines.specs.declared.Figures.{Figures}
use Rattle.text.specs.NumberText.{decimal-19, decimal-short}
use Rattle.text.specs.Text.{bytes, decimal, joined, line}

-- at most 200 rows, voltages and currents within ±2,000,000, and powers of at most 18 digits
pub record Limited (f : Feeder) (v i : List Three) : Type 0 where
  pub few : row_count f ≤ 200
  pub voltages : (k : ℕ) → k ≤ row_count f → (p : Phase) → Within 2000000 (at (get_or v k zero3) p)
  pub currents : (k : ℕ) → 0 < k → k ≤ row_count f → (p : Phase) → Within 2000000 (at (get_or i k zero3) p)
  pub losses : (k : ℕ) → 0 < k → k ≤ row_count f → Within 999999999999999999 (loss_of f i k)
  pub source : Within 999999999999999999 (source_power f i)
  pub drawn : Within 999999999999999999 (drawn_power f v)
  pub lost : Within 999999999999999999 (lost_power f i)

-- ---- how many bytes such numbers have
short-8 : {x : Pair} → Within 2000000 x → Short 8 x
short-8 {x} h = record { re = decimal-short 6 x.re (omega arith); im = decimal-short 6 x.im (omega arith) }

short-19 : {x : Pair} → Within 999999999999999999 x → Short 19 x
short-19 {x} h = record { re = decimal-19 x.re (omega arith); im = decimal-19 x.im (omega arith) }

joined-most : (g : ℕ → List ℕ) (b k n : ℕ) → ((j : ℕ) → k ≤ j → j < k + n → length (g j) ≤ b) → length (joined g (count k n)) ≤ n * b
unfolding count tab joined
joined-most g b k zero h = omega arith
joined-most g b k (suc n) h =
    let rest = joined-most g b (k + 1) n (λ j p q. h j (omega arith) (omega arith)) in
    omega (arith, length-append (g k) (joined g (tab (λ i. i) (k + 1) n)), h k (omega arith) (omega arith), suc-mul n b)

module _ {f : Feeder} {v i : List Three} (l : Limited f v i) where
  node-short : (k : ℕ) → k ≤ row_count f → length (node_line f v k) ≤ 63
  unfolding node_line name_text
  node-short k h = rw (node-line (get_or f.nodes k 0) (get_or v k zero3)) (node-most _ (λ p. short-8 (l.voltages k h p)))

  branch-short : (k : ℕ) → 0 < k → k ≤ row_count f → length (branch_line f i k) ≤ 112
  unfolding branch_line name_text
  branch-short k q h = rw (branch-line _ _ (get_or i k zero3) (loss_of f i k)) (branch-most _ _ (λ p. short-8 (l.currents k q h p)) (short-19 (l.losses k q h)))

  -- whatever the number of sweeps is
  totals-short : (k : ℕ) → length (totals_line f v i k) ≤ 163
  unfolding totals_line
  totals-short k =
      let g : Figures = record { sweeps = 0; source = source_power f i; drawn = drawn_power f v; lost = lost_power f i; signed = omega arith } in
      let rest = pair_text g.source ++ (pair_text g.drawn ++ pair_text g.lost) in
      let most : length (line (decimal (pos 0) ∷ rest)) ≤ 142 = rw (totals-line g) (totals-most g (short-19 l.source) (short-19 l.drawn) (short-19 l.lost)) in
      let behind-most = rw (line-behind (decimal (pos 0)) rest) at most in
      rw (line-behind (decimal (pos k)) rest)
      (omega (arith, length-append (decimal (pos k)) (behind rest), length-append (decimal (pos 0)) (behind rest), decimal-fits (pos k), behind-most))

  tap-short : (k : ℕ) → length (tap_line f k) ≤ 75
  unfolding tap_line name_text
  tap-short k = rw (tap-line (get_or f.nodes k 0) (taps_on (branch_at f k).device)) (tap-fits _ _)

  -- whatever the taps are
  taps-short : length (joined (tap_line f) (regulators f)) ≤ row_count f * 75
  unfolding regulators
  taps-short = rw (joined-chosen (tap_line f) (λ k. regulates (branch_at f k).device) (count 1 (row_count f))) (joined-most _ 75 1 (row_count f) (λ j p q. one j (regulates (branch_at f j).device)))
    where
      one : (k : ℕ) (d : Bool) → length (cond d (tap_line f k) []) ≤ 75
      one k true = tap-short k
      one k false = omega arith

  pub report-short : (k : ℕ) → length (report_text f v i k) < 65536
  unfolding report_text nodes_text branches_text totals_text taps_text bytes joined
  report-short k = simp length-append
      (omega (
        arith,
        l.few,
        totals-short k,
        taps-short,
        node-short 0 (omega arith),
        joined-most (node_line f v) 63 1 (row_count f) (λ j p q. node-short j (omega arith)),
        joined-most (branch_line f i) 112 1 (row_count f) (λ j p q. branch-short j p (omega arith)),
      ))

-- the same of the text over the arrays
pub whole-short : {f : Feeder} {vs is : List Three} {n : Network} {v i : List Three} {losses : List Pair} {g : Figures} →
    Limited f vs is → Shown f vs is n v i losses g → length (whole_text n v i losses g) < 65536
whole-short {g = g} l s = rw (report-is s) at (report-short l g.sweeps)
