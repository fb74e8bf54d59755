-- THE POWER ACCOUNT, from what is known of a feeder and a report: Kirchhoff's equation, worked voltages and their closeness, absent phases, divisors. Assumes nothing.
use Rattle.std.specs.Prelude.{cond, false, List, ◌≡◌, ◌*◌, ◌+◌, ◌<◌, ◌≤◌, suc, ℕ, eqb, ◌-ℤ◌, nat_abs, neg_ℤ, ℤ, get_or}
use Rattle.std.proofs.Common.{◌∙◌, sym, arith}
use Rattle.std.proofs.Math.Path.{ap, ap₂, subst}
use Rattle.std.proofs.Math.IntN.{◌+ℤ◌}
use Rattle.account.specs.Account.{accounted, allowance, branch_allowance, difference, exact_loss, load_allowance, rating}
use Rattle.account.specs.Powers.{Part, part, part-add, part-sub, part-sum, power-add-right, power-cond, power-laws, power-part, power-sum-right, power_of}
use Rattle.account.specs.RowBounds.{branch-row-near, given, load-row-near}
use Rattle.account.specs.Sums.{exchange, first-node, near-sum, sum, sum-add, sum-cong, sum-eq, sum-sub, sum-swap}
use Rattle.equations.specs.Equations.{at, far_voltage, kind_at, load_current, mix, near_current, power, sign_at, voltage_on, weight, zero3}
use Rattle.equations.specs.Meets.{at-taken, taken_at}
use Rattle.equations.specs.ThreeLaws.{Close3}
use Rattle.feeder.specs.Feeder.{Feeder, abc, branch_at, has, parent, phase_signs, row_count, rows_of}
use Rattle.feeder.proofs.RowFacts.{Sized}
use Rattle.feeder.specs.declared.Load.{Load}
use Rattle.feeder.specs.declared.Phase.{Phase}
use Rattle.feeder.specs.Phased.{Three}
use Rattle.integers.specs.ListLaws.{all_map}
use Rattle.integers.specs.Lists.{count, csum, All}
use Rattle.integers.proofs.Near.{Near, near-abs, near_add}
use Rattle.integers.specs.PairLaws.{Close}
use Rattle.integers.specs.Pairs.{0c, ◌·*◌, abs, scaled}
use Rattle.integers.specs.Whole.{abs-parts, add_parts, eq-differences, neg-neg, one-part, parts-eq, pos-neg}
use Rattle.integers.specs.declared.Pair.{Pair}
use Rattle.report.specs.Report.{Reported, reported_currents, reported_source, reported_voltages}

-- what is known of a branch row and of a load row: u are the voltages worked downward, v the reported ones, i the reported currents
pub record BranchKnown (f : Feeder) (v i u : List Three) (k : ℕ) : Type 0 where
  pub from-known : parent f k < suc (row_count f)
  pub kirchhoff : get_or i k zero3 ≡ taken_at f v i k
  pub worked : get_or u k zero3 ≡ far_voltage (branch_at f k) (get_or u (parent f k) zero3) (get_or i k zero3)
  pub off : (p : Phase) → has (branch_at f k).phases p ≡ false → at (get_or i k zero3) p ≡ 0c
  pub sized : Sized (branch_at f k).device (branch_at f k).phases

pub record LoadKnown (f : Feeder) (v : List Three) (l : Load) : Type 0 where
  pub node-known : l.node < suc (row_count f)
  pub weighs : 0 < weight (kind_at l (voltage_on l v)) l.vn (voltage_on l v)

-- and of the whole
pub record Known (f : Feeder) (r : Reported) : Type 0 where
  pub worked : List Three
  pub start : get_or worked 0 zero3 ≡ get_or (reported_voltages r) 0 zero3
  pub close : (n : ℕ) → n < suc (row_count f) → Close3 f.tol (get_or worked n zero3) (get_or (reported_voltages r) n zero3)
  pub on-branches : All (BranchKnown f (reported_voltages r) (reported_currents r) worked) (rows_of f)
  pub on-loads : All (LoadKnown f (reported_voltages r)) f.loads
  pub source : reported_source r ≡ power (get_or (reported_voltages r) 0 zero3) (taken_at f (reported_voltages r) (reported_currents r) 0)

-- a voltage that is close is not much larger
close-one : (x y : ℤ) (t : ℕ) → nat_abs (x -ℤ y) ≤ t → nat_abs x ≤ nat_abs y + t
close-one x y t h = omega (arith, abs-parts x, abs-parts y, one-part x, abs-parts (x -ℤ y), add_parts x (neg_ℤ y), pos-neg y, neg-neg y)

close-abs : (tol : ℕ) (x y : Pair) → Close tol x y → abs x ≤ abs y + 2 * tol
unfolding abs
close-abs tol x y c = omega (arith, close-one x.re y.re tol c.re, close-one x.im y.im tol c.im)

module _ (f : Feeder) (r : Reported) (h : Known f r) (q : Part) where
  abbrev v : ℕ → Three
  v n = get_or (reported_voltages r) n zero3

  abbrev i : ℕ → Three
  i n = get_or (reported_currents r) n zero3

  abbrev u : ℕ → Three
  u n = get_or h.worked n zero3

  abbrev taken : ℕ → Three
  taken = taken_at f (reported_voltages r) (reported_currents r)

  -- a load's current as it stands on a phase, and J of a branch
  abbrev drawn : Load → Phase → Pair
  drawn l p = scaled (sign_at (phase_signs l.phase) p) (load_current (reported_voltages r) l)

  abbrev near : ℕ → Phase → Pair
  near b p = at (near_current (branch_at f b) (i b)) p

  -- the rows' powers at the worked voltages, on one phase
  loads-power : Phase → ℤ
  loads-power p = sum (λ l. power_of q (at (u l.node) p) (drawn l p)) f.loads

  ins-power : Phase → ℤ
  ins-power p = sum (λ b. power_of q (at (u (parent f b)) p) (near b p)) (rows_of f)

  outs-power : Phase → ℤ
  outs-power p = sum (λ b. power_of q (at (u b) p) (at (i b) p)) (rows_of f)

  -- a sum over the nodes of what the rows at each take
  taken-by : {X : Type 0} (key : X → ℕ) (x : X → Pair) (p : Phase) (l : List X) → All (λ r. key r < suc (row_count f)) l
      → sum (λ n. power_of q (at (u n) p) (csum (λ r. cond (eqb (key r) n) (x r) 0c) l)) (count 0 (suc (row_count f))) ≡ sum (λ r. power_of q (at (u (key r)) p) (x r)) l
  taken-by key x p l o = simp (power-sum-right, power-cond) (exchange key (λ n r. power_of q (at (u n) p) (x r)) (suc (row_count f)) l o)

  -- over all nodes: what the source gives and the branches bring is what the loads take and the branches lead away
  balance : (p : Phase) → power_of q (at (u 0) p) (at (taken 0) p) +ℤ outs-power p ≡ loads-power p +ℤ ins-power p
  unfolding outs-power loads-power ins-power
  balance p =
      ap (λ z. power_of q (at (u 0) p) (at (taken 0) p) +ℤ z)
      (sum-eq (λ b. power_of q (at (u b) p) (at (i b) p)) (λ b. power_of q (at (u b) p) (at (taken b) p)) (rows_of f)
      (all_map (rows_of f) (λ b o. ap (λ (x : Three). power_of q (at (u b) p) (at x p)) o.kirchhoff) h.on-branches))
      ∙ first-node (λ n. power_of q (at (u n) p) (at (taken n) p)) (row_count f)
      ∙ sum-cong (count 0 (suc (row_count f))) (λ n. ap (power_of q (at (u n) p)) (at-taken f (reported_voltages r) (reported_currents r) n p) ∙ power-add-right q (at (u n) p) _ _)
      ∙ sum-add _ _ (count 0 (suc (row_count f)))
      ∙ ap₂ ◌+ℤ◌ (taken-by (λ l. l.node) (λ l. drawn l p) p f.loads (all_map f.loads (λ l o. o.node-known) h.on-loads))
      (taken-by (parent f) (λ b. near b p) p (rows_of f) (all_map (rows_of f) (λ b o. o.from-known) h.on-branches))

  -- a load's power, and what a branch takes in less what it gives out, over its phases
  row-power : Load → ℤ
  row-power l = power_of q (voltage_on l h.worked) (load_current (reported_voltages r) l)

  branch-power : ℕ → ℤ
  branch-power b = sum (λ p. power_of q (at (u (parent f b)) p) (near b p) -ℤ power_of q (at (u b) p) (at (i b) p)) abc

  loads-are : sum loads-power abc ≡ sum row-power f.loads
  unfolding loads-power row-power voltage_on mix
  loads-are = sum-swap (λ p l. power_of q (at (u l.node) p) (drawn l p)) abc f.loads ∙ sum-cong f.loads (λ l. simp power-laws)

  branches-are : sum (λ p. ins-power p -ℤ outs-power p) abc ≡ sum branch-power (rows_of f)
  unfolding ins-power outs-power branch-power
  branches-are = simp (← sum-sub) (sum-swap (λ p b. power_of q (at (u (parent f b)) p) (near b p) -ℤ power_of q (at (u b) p) (at (i b) p)) abc (rows_of f))

  -- the source's power is that of all rows
  source_is : part q (reported_source r) ≡ sum row-power f.loads +ℤ sum branch-power (rows_of f)
  unfolding power
  source_is = ap (part q) h.source ∙ part-sum q _ abc
      ∙ sum-cong abc (λ p. ap (λ (x : Three). part q (at x p ·* at (taken 0) p)) (sym h.start) ∙ first p)
      ∙ sum-add loads-power (λ p. ins-power p -ℤ outs-power p) abc ∙ ap₂ ◌+ℤ◌ loads-are branches-are
    where
      move : (x o l i : ℤ) → x +ℤ o ≡ l +ℤ i → x ≡ l +ℤ (i -ℤ o)
      move x o l i e = parts-eq (omega (arith, eq-differences e, add_parts x o, add_parts l i, add_parts l (i -ℤ o), add_parts i (neg_ℤ o), pos-neg o, neg-neg o))

      first : (p : Phase) → part q (at (u 0) p ·* at (taken 0) p) ≡ loads-power p +ℤ (ins-power p -ℤ outs-power p)
      first p = sym (power-part q (at (u 0) p) (at (taken 0) p)) ∙ move (power_of q (at (u 0) p) (at (taken 0) p)) (outs-power p) (loads-power p) (ins-power p) (balance p)

  -- each row, within its allowance
  branch_near : (k : ℕ) → BranchKnown f (reported_voltages r) (reported_currents r) h.worked k
      → Near (branch-power k) (part q (exact_loss (branch_at f k).device (i k))) (branch_allowance f.tol (branch_at f k).device (branch_at f k).phases (v (parent f k)) (i k))
  unfolding branch-power near_current far_voltage given
  branch_near k o = subst (λ (x : Three). Near (sum (λ p. power_of q (at (u (parent f k)) p) (near k p) -ℤ power_of q (at x p) (at (i k) p)) abc) (part q (exact_loss (branch_at f k).device (i k)))
      (branch_allowance f.tol (branch_at f k).device (branch_at f k).phases (v (parent f k)) (i k))) (sym o.worked)
      (branch-row-near q (branch_at f k).phases (u (parent f k)) (i k) o.off f.tol (v (parent f k))
      (λ p. close-abs f.tol (at (u (parent f k)) p) (at (v (parent f k)) p) (h.close (parent f k) o.from-known p)) (branch_at f k).device o.sized)

  load-near-row : (l : Load) → LoadKnown f (reported_voltages r) l → Near (row-power l) (part q (rating (reported_voltages r) l)) (load_allowance f.tol (reported_voltages r) l)
  unfolding row-power
  load-near-row l o = load-row-near q f.tol (reported_voltages r) h.worked l o.weighs (h.close l.node o.node-known)

  accounted-is : part q (accounted f r) ≡ sum (λ l. part q (rating (reported_voltages r) l)) f.loads +ℤ sum (λ k. part q (exact_loss (branch_at f k).device (i k))) (rows_of f)
  unfolding accounted
  accounted-is = part-add q _ _ ∙ ap₂ ◌+ℤ◌ (part-sum q _ f.loads) (part-sum q _ (rows_of f))

  -- "Twice that difference, real and reactive each, without its sign, is at most" the allowance
  pub account-law : 2 * nat_abs (part q (difference f r)) ≤ allowance f r
  unfolding difference allowance
  account-law = rw (part-sub q (reported_source r) (accounted f r), source_is, accounted-is) (near-abs (near_add
      (near-sum row-power _ _ f.loads (all_map f.loads load-near-row h.on-loads))
      (near-sum branch-power _ _ (rows_of f) (all_map (rows_of f) branch_near h.on-branches))))
