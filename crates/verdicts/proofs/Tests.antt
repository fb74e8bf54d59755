-- What the tests of a pass say of the report's numbers, and when they are met: 52 the source, 53 the currents, 54 the voltages, 55 losses and totals. Assumes nothing.
use Rattle.std.specs.Prelude.{Bool, ◌&&◌, List, ◌∷◌, ◌≡◌, ◌+◌, ◌<◌, suc, ℕ, get_or, None}
use Rattle.std.proofs.Math.Bool.{cond, false, not, true}
use Rattle.std.proofs.Math.Path.{ap, refl}
use Rattle.std.proofs.lemmas.Bool.{not-false}
use Rattle.equations.specs.Downward.{below, none-off}
use Rattle.equations.specs.Equations.{at, currents, drawn_power, loss_of, lost_power, source_power, voltages, zero3}
use Rattle.equations.specs.ThreeLaws.{Close3, three-eq}
use Rattle.feeder.specs.Feeder.{Feeder, abc, has, parent, phases_of, row_count, rows_of}
use Rattle.feeder.proofs.RowFacts.{Formed}
use Rattle.feeder.specs.RowLaws.{each-true, held, nodes-none, none-nodes, none_or, none_rows, or-none, rows_none, true-each}
use Rattle.feeder.specs.declared.Phase.{Phase}
use Rattle.feeder.specs.Phased.{Three}
use Rattle.integers.specs.Bools.{both, joined}
use Rattle.integers.specs.ListLaws.{all_map, all_true, true-all}
use Rattle.integers.specs.Lists.{All, all}
use Rattle.integers.specs.PairLaws.{close-true, same_true, true-close, true_same}
use Rattle.integers.specs.Pairs.{0c, close, same}
use Rattle.integers.specs.declared.Pair.{Pair}
use Rattle.report.specs.Report.{Reported, reported_currents, reported_drawn, reported_losses, reported_lost, reported_source, reported_voltages}
use Rattle.compare.specs.Differences.{current_differs, same3, source_differs, total_differs}
use Rattle.verdicts.specs.Check.{below_off, off, voltage_off}
use Rattle.verdicts.proofs.Passed.{Passed}

-- equal on each phase
pub same3-true : (x y : Three) → same3 x y ≡ true → x ≡ y
same3-true x y e = three-eq (λ p. same_true (each-true (λ p. same (at x p) (at y p)) e p))

-- the report's losses and totals are those of v and i
pub record TotalsSame (f : Feeder) (r : Reported) (v i : List Three) : Type 0 where
  pub losses : All (λ k. get_or (0c ∷ reported_losses r) k 0c ≡ loss_of f i k) (rows_of f)
  pub source : reported_source r ≡ source_power f i
  pub drawn : reported_drawn r ≡ drawn_power f v
  pub lost : reported_lost r ≡ lost_power f i

module _ (f : Feeder) (r : Reported) (h : Passed f r) where
  abbrev v : List Three
  v = reported_voltages r

  abbrev i : List Three
  i = currents f (reported_voltages r)

  -- 52: "source voltages are equal"
  pub source-same : get_or v 0 zero3 ≡ f.source
  unfolding source_differs
  source-same = same3-true _ _ (held _ 2 (or-none _ _ h.t52).0)

  -- 53: "every reported I follows from load currents at the reported V"
  pub currents-same : (k : ℕ) → k < row_count f → get_or (reported_currents r) (suc k) zero3 ≡ get_or i (suc k) zero3
  unfolding current_differs
  currents-same k q = same3-true _ _ (not-false _ (rows_none (λ k. not (same3 (get_or (reported_currents r) k zero3) (get_or i k zero3))) (row_count f + 4) (row_count f) h.t53 k q))

  -- 54: the voltages worked "with those I differ from the reported ones by at most tol in re and im", at every node
  pub all-close : Formed f → (k : ℕ) → k < suc (row_count f) → Close3 f.tol (get_or (voltages f i) k zero3) (get_or v k zero3)
  unfolding voltage_off below_off below off
  all-close w k q p =
      let z : off f r (voltages f i) k ≡ false = (none-off (off f r (voltages f i)) (parent f) (row_count f) w.parents w.reached
      (nodes-none (λ k. off f r (voltages f i) k && not (below_off f r (voltages f i) k)) 1 (row_count f) h.t54) (row_count f) k q (w.reached k q)).0 in
      close-true (each-true (λ p. close f.tol (at (get_or (voltages f i) k zero3) p) (at (get_or v k zero3) p)) (not-false _ z) p)

  -- 55: "losses and totals are equal"
  pub totals-same : TotalsSame f r v i
  unfolding total_differs
  totals-same =
      let a = both (all (λ k. same (get_or (0c ∷ reported_losses r) k 0c) (loss_of f i k)) (rows_of f)) _ (not-false _ h.t55) in
      let b = both (same (reported_source r) (source_power f i)) _ a.1 in
      let c = both (same (reported_drawn r) (drawn_power f v)) _ b.1 in
      record {
        losses = all_map (rows_of f) (λ k e. same_true e) (all_true _ (rows_of f) a.0);
        source = same_true b.0;
        drawn = same_true c.0;
        lost = same_true c.1;
      }

-- ---- and back: numbers that are so meet the tests
pub true-same3 : {x y : Three} → x ≡ y → same3 x y ≡ true
true-same3 {x} {y} e = rw e (true-each (λ p. same (at y p) (at y p)) (λ p. true_same (at y p)))

equal-same : {x y : Pair} → x ≡ y → same x y ≡ true
equal-same {x} {y} e = rw e (true_same y)

module _ (f : Feeder) (r : Reported) where
  -- 52, with "absent phases 0"
  pub meets52 : get_or (reported_voltages r) 0 zero3 ≡ f.source → ((k : ℕ) → k < suc (row_count f) → (p : Phase) → has (phases_of f k) p ≡ false → at (get_or (reported_voltages r) k zero3) p ≡ 0c) → source_differs f r ≡ None
  unfolding source_differs
  meets52 s z = none_or (rw (true-same3 s)) (none-nodes (λ k. not (all (λ p. cond (has (phases_of f k) p) true (same (at (get_or (reported_voltages r) k zero3) p) 0c)) abc)) 1 (row_count f)
      (λ k q. ap not (true-each _ (λ p. zero-there k p (has (phases_of f k) p) refl (z k q p)))))
    where
      zero-there : (k : ℕ) (p : Phase) (c : Bool) → has (phases_of f k) p ≡ c → (has (phases_of f k) p ≡ false → at (get_or (reported_voltages r) k zero3) p ≡ 0c) → cond c true (same (at (get_or (reported_voltages r) k zero3) p) 0c) ≡ true
      zero-there k p true e w = refl
      zero-there k p false e w = equal-same (w e)

  pub meets53 : (i : List Three) → ((k : ℕ) → k < row_count f → get_or (reported_currents r) (suc k) zero3 ≡ get_or i (suc k) zero3) → current_differs f r i ≡ None
  unfolding current_differs
  meets53 i h = none_rows (λ k. not (same3 (get_or (reported_currents r) k zero3) (get_or i k zero3))) (row_count f + 4) (row_count f) (λ k q. ap not (true-same3 (h k q)))

  pub meets54 : (u : List Three) → ((k : ℕ) → k < suc (row_count f) → Close3 f.tol (get_or u k zero3) (get_or (reported_voltages r) k zero3)) → voltage_off f r u ≡ None
  unfolding voltage_off off
  meets54 u h = none-nodes (λ k. off f r u k && not (below_off f r u k)) 1 (row_count f)
      (λ k q. let z : off f r u k ≡ false = ap not (true-each _ (λ p. true-close (h k q p))) in ap (λ c. c && not (below_off f r u k)) z)

  pub meets55 : (v i : List Three) → TotalsSame f r v i → total_differs f r v i ≡ false
  unfolding total_differs
  meets55 v i w = ap not (joined (true-all _ (rows_of f) (all_map (rows_of f) (λ k e. equal-same e) w.losses)) (joined (equal-same w.source) (joined (equal-same w.drawn) (equal-same w.lost))))
