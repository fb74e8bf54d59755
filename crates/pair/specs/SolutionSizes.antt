-- How large the numbers of a solution are: its report can be written and read back. Assumes nothing.
use Rattle.std.specs.Prelude.{Bool, false, List, ◌≡◌, refl, eqb, get_or, length, Ok}
use Rattle.std.proofs.Math.Bool.{cond, true}
use Rattle.std.proofs.Common.{subst, sym}
use Prim.Native.Nat.{◌+◌, ◌<◌, ◌≤◌, suc, zero, ℕ}
use native.Mathlib.Omega.{arith}
use Rattle.equations.specs.Equations.{beyond, beyond3, current_beyond, drawn_power, each, load_beyond, load_current, loads_at, loss_of, lost_power, near_current, sign_at, source_power, voltage_beyond, voltage_on, zero3}
use Rattle.equations.specs.Fit.{Fit, fit, retapped-fit}
use Rattle.equations.specs.Limits.{drawn-within, loss-within, source-within}
use Rattle.equations.specs.Meets.{currents-meet, taken_at, voltages-source}
use Rattle.equations.specs.Sizes.{Within3, beyond-false, beyond3-false, spread-within, within3-plus, within3-zero}
use Rattle.equations.specs.SumSizes.{csum-within, sum3-within}
use Rattle.feeder.specs.Feeder.{Feeder, branch_at, parent, phase_signs, reading, row_count, rows_of}
use Rattle.feeder.proofs.FeederLaws.{sound}
use Rattle.feeder.proofs.ProperNames.{node-proper}
use Rattle.feeder.proofs.RowFacts.{Formed, formed}
use Rattle.feeder.proofs.TapLaws.{phases-same, retapped-formed}
use Rattle.feeder.specs.Phased.{Three}
use Rattle.integers.specs.Bools.{clash}
use Rattle.integers.specs.ListLaws.{all-count, all_map, all-map2, any_false, length-tab, tab-all}
use Rattle.integers.specs.Lists.{All, any, count}
use Rattle.integers.specs.PairLaws.{Within, within_more}
use Rattle.integers.specs.Pairs.{◌·*◌, scaled}
use Rattle.iteration.specs.Ladder.{Solution}
use Rattle.iteration.proofs.LadderLaws.{Solved, solved}
use Rattle.report.proofs.RoundTrip.{Writable}
use Rattle.text.specs.Text.{Proper}
use Rattle.rounds.specs.Rounds.{Regulated}
use Rattle.rounds.proofs.RoundsLaws.{Ended, TapsWithin}

-- what 32 and 33 say of each row
row-false : (f : ℕ → Bool) (n : ℕ) → any f (count 1 n) ≡ false → (j : ℕ) → j < n → f (suc j) ≡ false
unfolding count
row-false f n e j q = let z : 1 + j ≡ suc j = omega arith in rw z at (tab-all (λ k. f k ≡ false) (λ i. i) 1 n (any_false f (count 1 n) e) j q)

neither : (a b : Bool) → cond a true b ≡ false → (a ≡ false) × (b ≡ false)
neither true b e = clash true refl e
neither false b e = (refl, e)

-- of one node, or nothing
within3-cond : {m : ℕ} {x : Three} (c : Bool) → Within3 m x → Within3 m (cond c x zero3)
within3-cond true h = h
within3-cond false h = within3-zero

module _ (f : Feeder) (x : Solution) (limits : Fit f) (form : Formed f) (names : (j : ℕ) → j < suc (row_count f) → Proper (get_or f.nodes j 0)) (taps : TapsWithin f f) (w : Solved f x) where
  abbrev v : List Three
  v = x.voltages

  abbrev i : List Three
  i = x.currents

  few-rows : length (rows_of f) ≤ 200
  unfolding count
  few-rows = omega (arith, length-tab (λ (j : ℕ). j) 1 (row_count f), limits.few-rows)

  -- ---- voltages and currents: the source's limit, 31, 32 and 33
  voltages-in : (j : ℕ) → j < suc (row_count f) → Within3 2000000 (get_or v j zero3)
  unfolding voltage_beyond
  voltages-in zero q = rw (w.voltages-are, voltages-source f form w.before) limits.source
  voltages-in (suc j) q = beyond3-false (row-false (λ k. beyond3 (get_or v k zero3)) (row_count f) w.t33 j (omega arith))

  rows_in : (j : ℕ) → j < row_count f → Within3 2000000 (get_or i (suc j) zero3) × Within3 2000000 (near_current (branch_at f (suc j)) (get_or i (suc j) zero3))
  unfolding current_beyond
  rows_in j q =
      let h = neither _ _ (row-false (λ k. cond (beyond3 (get_or i k zero3)) true (beyond3 (near_current (branch_at f k) (get_or i k zero3)))) (row_count f) w.t32 j q) in
      (beyond3-false h.0, beyond3-false h.1)

  loads-in : All (λ l. Within 2000000 (load_current v l)) f.loads
  unfolding load_beyond
  loads-in = all_map f.loads (λ l h. beyond-false h) (any_false (λ l. beyond (load_current v l)) f.loads w.t31)

  -- ---- powers
  loss-in : (j : ℕ) → j < row_count f → Within 1440000000000000 (loss_of f i (suc j))
  unfolding loss_of
  loss-in j q = loss-within (branch_at f (suc j)).device (limits.devices j q) (rows_in j q).0

  lost-in : Within 288000000000000000 (lost_power f i)
  unfolding lost_power
  lost-in = csum-within 200 1440000000000000 (loss_of f i) (rows_of f) few-rows (all-count _ 1 (row_count f) (λ j q. let z : 1 + j ≡ suc j = omega arith in rw z (loss-in j q)))

  drawn-in : Within 4800000000000000 (drawn_power f v)
  unfolding drawn_power voltage_on
  drawn-in = csum-within 300 16000000000000 (λ l. voltage_on l v ·* load_current v l) f.loads limits.few-loads
      (all-map2 f.loads (λ l a b. drawn-within l.phase (voltages-in l.node a.1) b) limits.loads loads-in)

  -- all that is taken at the source: 300 load rows and 200 branches
  taken_in : Within3 1000000000 (get_or i 0 zero3)
  unfolding taken_at loads_at
  taken_in = rw (w.currents-are, currents-meet f form v 0 (omega arith), ← w.currents-are) (within3-plus
      (sum3-within 300 2000000 (λ l. cond (eqb l.node 0) (each (λ p. scaled (sign_at (phase_signs l.phase) p) (load_current v l))) zero3) f.loads limits.few-loads
      (all_map f.loads (λ l h. within3-cond (eqb l.node 0) (spread-within l.phase h)) loads-in))
      (sum3-within 200 2000000 (λ b. cond (eqb (parent f b) 0) (near_current (branch_at f b) (get_or i b zero3)) zero3) (rows_of f) few-rows
      (all-count _ 1 (row_count f) (λ j q. let z : 1 + j ≡ suc j = omega arith in rw z (within3-cond (eqb (parent f (suc j)) 0) (rows_in j q).1)))))

  source-in : Within 12000000000000000 (source_power f i)
  unfolding source_power
  source-in = source-within limits.source taken_in

  -- ---- all that the report asks
  pub solution-writable : Writable f v i x.sweeps
  solution-writable = record {
    names = names;
    parents = limits.parents;
    voltages = voltages-in;
    currents = λ j q. (rows_in j q).0;
    losses = λ j q. within_more (loss-in j q) tt;
    source = within_more source-in tt;
    drawn = within_more drawn-in tt;
    lost = within_more lost-in tt;
    taps = taps;
    first = w.first;
    last = w.last;
    few-sweeps = limits.few-sweeps;
    few-rows = limits.few-rows;
  }

-- of a feeder that is read: the one with the taps of the last round keeps the form and the limits
module _ (s : List ℕ) (f : Feeder) (y : Regulated) (e : reading s ≡ Ok f) (h : Ended f y) where
  pub ended-formed : Formed y.feeder
  ended-formed = retapped-formed f y.feeder h.retapped h.taps (formed s f (sound s f e))

  pub ended-fit : Fit y.feeder
  ended-fit = retapped-fit f y.feeder h.retapped h.taps ended-formed (fit s f e)

  pub ended-writable : Writable y.feeder y.solution.voltages y.solution.currents y.solution.sweeps
  ended-writable = solution-writable y.feeder y.solution ended-fit ended-formed
      (λ j q. let n : j < suc (row_count f) = rw h.retapped.rows at q in subst (λ (l : List ℕ). Proper (get_or l j 0)) (sym h.retapped.nodes) (node-proper s f (sound s f e) j n))
      (λ k q. let n : k < row_count f = rw h.retapped.rows at q in rw (phases-same h.retapped (suc k)) (h.taps k n))
      (solved y.feeder y.solution h.solved-as)
