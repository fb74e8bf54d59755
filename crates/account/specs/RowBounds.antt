-- What each row may be off by, at voltages that are known to within tol: a load's power against its rating, a branch's loss against its exact loss. Assumes nothing.
use Rattle.std.specs.Prelude.{Bool, List, ◌≡◌, ◌*◌, ◌+◌, ◌<◌, ◌≤◌, ℕ, ◌*ℤ◌, ◌+ℤ◌, ◌-ℤ◌, nat_abs, neg_ℤ, get_or}
use Rattle.std.proofs.Math.Bool.{cond, false, true}
use Rattle.std.proofs.Common.{◌∙◌, arith}
use Rattle.std.proofs.Math.Path.{refl, subst, sym}
use Rattle.std.proofs.Math.IntN.{+ℤ_idl, +ℤ_invr, pos, ℤ}
use Rattle.account.specs.Account.{branch_allowance, exact_loss, load_allowance, over, rating, rating_of}
use Rattle.account.specs.Powers.{NearPair, Part, part, part-rounded, part-sum, power-laws, power-near-left, power-near-right, power-sub-left, power-sum-left, power-zero-left, power_of, reactive, real, rounded-near}
use Rattle.account.specs.Sums.{near-sums, nsum-le, nsum-mul, sum, sum-add, sum-cong, sum-mul, sum-sub, sum-swap, sum-zero}
use Rattle.equations.specs.Equations.{at, current_at, drop_of, each, kind_at, load_current, masked, minus3, mix, rated, row_at, sign_at, sign_table, taken_of, tap_divisor, through_of, voltage_on, weight, z_of, zero3}
use Rattle.equations.specs.ThreeLaws.{Close3, at_each, at-masked, at-minus, at_zero, transposed}
use Rattle.feeder.specs.Feeder.{abc, delta, has, phase_signs}
use Rattle.feeder.proofs.RowFacts.{Sized}
use Rattle.feeder.specs.declared.Device.{Device}
use Rattle.feeder.specs.declared.Device.TheVariants.{Line, Regulator, Transformer}
use Rattle.feeder.specs.declared.LineZ.{LineZ}
use Rattle.feeder.specs.declared.Load.{Load}
use Rattle.feeder.specs.declared.LoadKind.{LoadKind}
use Rattle.feeder.specs.declared.LoadKind.TheVariants.{Current, Impedance, Power}
use Rattle.feeder.specs.declared.Phase.{Phase}
use Rattle.feeder.specs.declared.Phase.TheVariants.{A, B, C}
use Rattle.feeder.specs.Phased.{Phases, Signs, Three}
use Rattle.feeder.specs.declared.Terminals.{Terminals}
use Rattle.feeder.specs.declared.Terminals.TheVariants.{AB, BC, CA, OnA, OnB, OnC}
use Rattle.feeder.specs.declared.TapChanger.{TapChanger}
use Rattle.feeder.specs.declared.Windings.{Windings}
use Rattle.integers.specs.Bools.{clash}
use Rattle.integers.specs.Lists.{csum, nsum}
use Rattle.integers.proofs.Near.{Near, abs-near, mul-near, near_div, near-mono, near-refl, near-sym, near-trans}
use Rattle.integers.specs.Pairs.{0c, ◌+c◌, ◌-c◌, ◌·*◌, ◌·c◌, abs, rnd_pair, scaled, square}
use Rattle.integers.specs.Ring.{ring}
use Rattle.integers.specs.Whole.{add_parts, neg-neg, pos-neg}
use Rattle.integers.specs.declared.Pair.{Pair}

-- ---- a load
-- w times what the load takes is re² + im² times its S
load-weighted : (q : Part) (u s : Pair) (w : ℕ) → 0 < w → Near (pos w *ℤ power_of q u (rnd_pair (u ·* s) w)) (pos (square u) *ℤ part q s) (w * abs u)
load-weighted q u s w p = simp power-laws at (power-near-right q u (rounded-near (u ·* s) w p))

part-scaled : (q : Part) (k : ℤ) (x : Pair) → part q (scaled k x) ≡ k *ℤ part q x
unfolding scaled
part-scaled real k x = refl
part-scaled reactive k x = refl

load-rounded : (q : Part) (u s : Pair) (w : ℕ) → 0 < w → Near (power_of q u (rnd_pair (u ·* s) w)) (part q (rnd_pair (scaled (pos (square u)) s) w)) (abs u + 1)
load-rounded q u s w p = near_div w p (near-mono (near-trans (load-weighted q u s w p)
    (near-sym (rw (part-scaled q (pos (square u)) s) at (part-rounded q (scaled (pos (square u)) s) w p)))) (omega arith))

-- at the voltage where its current was worked, a load takes its rating to within half of |V| + 1
pub load-near : (q : Part) (k : LoadKind) (vn : ℤ) (u s : Pair) → 0 < weight k vn u → Near (power_of q u (rnd_pair (u ·* s) (weight k vn u))) (part q (rating_of k vn s u)) (abs u + 1)
unfolding rating_of weight
load-near q Power vn u s p = near-mono (near_div (square u) {e = abs u} p (load-weighted q u s (square u) p)) (omega arith)
load-near q Current vn u s p = load-rounded q u s _ p
load-near q Impedance vn u s p = load-rounded q u s _ p

-- how many phases a row of signs counts
unfoldable pub turns_of : Signs → ℕ
turns_of s = nsum (λ p. nat_abs (sign_at s p)) abc

-- one, or two between two phases: twice as many are the tolerances that a load row is allowed
turns-phase : (k : Terminals) → 2 * turns_of (phase_signs k) ≡ cond (delta k) 4 2
unfolding turns_of nsum
turns-phase OnA = refl
turns-phase OnB = refl
turns-phase OnC = refl
turns-phase AB = refl
turns-phase BC = refl
turns-phase CA = refl

mix-near : (tol : ℕ) (s : Signs) (u x : Three) → Close3 tol u x → NearPair (mix s u) (mix s x) (2 * turns_of s * tol)
unfolding mix turns_of csum scaled sum ◌+c◌
mix-near tol s u x c = record { near-re = sizes (λ y. y.re) (λ p. (c p).re); near-im = sizes (λ y. y.im) (λ p. (c p).im) }
  where
    sizes : (z : Pair → ℤ) → ((p : Phase) → nat_abs (z (at u p) -ℤ z (at x p)) ≤ tol)
        → Near (sum (λ p. sign_at s p *ℤ z (at u p)) abc) (sum (λ p. sign_at s p *ℤ z (at x p)) abc) (2 * nsum (λ p. nat_abs (sign_at s p)) abc * tol)
    sizes z h = near-mono (near-sums {f = λ p. sign_at s p *ℤ z (at u p)} {g = λ p. sign_at s p *ℤ z (at x p)} abc (λ p. mul-near (sign_at s p) {x = z (at u p)} {y = z (at x p)} (abs-near (h p))))
        (omega (arith, nsum-mul (2 * tol) (λ p. nat_abs (sign_at s p)) abc))

-- "load row: 2·tol·|I| + |V| + 1", or "4·tol·|I| + |V| + 1". v are the reported voltages, u others that are close at the load's node
pub load-row-near : (q : Part) (tol : ℕ) (v u : List Three) (l : Load) → 0 < weight (kind_at l (voltage_on l v)) l.vn (voltage_on l v) → Close3 tol (get_or u l.node zero3) (get_or v l.node zero3)
    → Near (power_of q (voltage_on l u) (load_current v l)) (part q (rating v l)) (load_allowance tol v l)
unfolding load_allowance load_current current_at rating voltage_on
load-row-near q tol v u l w c =
    let n = rw (turns-phase l.phase) at (mix-near tol (phase_signs l.phase) (get_or u l.node zero3) (get_or v l.node zero3) c) in
    near-mono (near-trans (power-near-left q (load_current v l) n) (load-near q (kind_at l (voltage_on l v)) l.vn (voltage_on l v) (rated l) w)) (omega arith)

-- ---- a drop and its loss: each drop rounded, against the loss rounded once
ruleset sums = (power-laws, sum-mul, nsum-mul)

drop-near : (q : Part) (k : ℕ) → 0 < k → (x i : Phase → Pair) (y : Pair) → part q y ≡ sum (λ p. power_of q (x p) (i p)) abc
    → Near (sum (λ p. power_of q (rnd_pair (x p) k) (i p)) abc) (part q (rnd_pair y k)) (nsum (λ p. abs (i p)) abc + 1)
drop-near q k pk x i y e = near_div k pk (near-mono (near-trans
    (simp sums at (near-sums abc (λ p. power-near-left q (i p) (rounded-near (x p) k pk))))
    (near-sym (rw e at (part-rounded q y k pk)))) (omega arith))

-- ---- a phase of a branch: what it takes in less what it gives out is what is lost between, and the drop's loss
near_difference : {x y : ℤ} {e : ℕ} → Near x y e → Near (x -ℤ y) (pos 0) e
near_difference {x} {y} h = omega (arith, add_parts x (neg_ℤ y), pos-neg y, neg-neg y)

module _ (q : Part) where
  split : (c : Bool) (u t w d i : Pair) → (c ≡ false → i ≡ 0c)
      → power_of q u (cond c t 0c) -ℤ power_of q (cond c (w -c d) 0c) i ≡ cond c (power_of q u t -ℤ power_of q w i) (pos 0) +ℤ power_of q d i
  split true u t w d i h = rw (power-sub-left q i w d) (regroup (power_of q u t) (power_of q w i) (power_of q d i))
    where
      regroup : (a b c : ℤ) → a -ℤ (b -ℤ c) ≡ a -ℤ b +ℤ c
      regroup a b c = simp ring
  split false u t w d i h = rw (h refl) (simp power-laws)

  -- a regulator: V is divided where I is divided by the same number
  regulator-near : (k : ℕ) → 0 < k → (u i : Pair) → Near (power_of q u (rnd_pair (scaled (pos 160) i) k)) (power_of q (rnd_pair (scaled (pos 160) u) k) i) (abs u + abs i)
  regulator-near k p u i = near_div k p (near-mono (near-trans
      (simp power-laws at (power-near-right q u (rounded-near (scaled (pos 160) i) k p)))
      (near-sym (simp power-laws at (power-near-left q i (rounded-near (scaled (pos 160) u) k p))))) (omega arith))

  -- a transformer: d is A turned over, so both sides come to one double sum
  transformer-near : (a : Phase → Phase → ℤ) (m : ℤ) (n : ℕ) (pn : 0 < n) (u i : Phase → Pair)
      → Near (sum (λ p. power_of q (u p) (rnd_pair (scaled m (csum (λ j. scaled (a j p) (i j)) abc)) n)) abc)
      (sum (λ p. power_of q (rnd_pair (scaled m (csum (λ j. scaled (a p j) (u j)) abc)) n) (i p)) abc)
      (nsum (λ p. abs (u p)) abc + nsum (λ p. abs (i p)) abc)
  transformer-near a m n pn u i = near_div n pn (near-mono (near-trans
      (rw (sum-swap (λ p j. a j p *ℤ power_of q (u p) (i j)) abc abc) at (simp sums at (near-sums abc (λ p. power-near-right q (u p) (rounded-near (scaled m (csum (λ j. scaled (a j p) (i j)) abc)) n pn)))))
      (near-sym (simp sums at (near-sums abc (λ p. power-near-left q (i p) (rounded-near (scaled m (csum (λ j. scaled (a p j) (u j)) abc)) n pn)))))) (omega arith))

-- ---- sums over the phases of a row
mask-le : (c : Bool) (e f : ℕ) → (c ≡ true → e ≤ f) → (c ≡ false → e ≡ 0) → e ≤ cond c f 0
mask-le true e f h k = h refl
mask-le false e f h k = let z = k refl in omega arith

abs-zero : (i : Pair) → i ≡ 0c → abs i ≡ 0
unfolding abs
abs-zero i e = rw e

over-le : (f : Phases) (i : Three) → ((p : Phase) → has f p ≡ false → at i p ≡ 0c) → nsum (λ p. abs (at i p)) abc ≤ over f (λ p. abs (at i p))
unfolding over
over-le f i off = nsum-le abc (λ p. mask-le (has f p) _ _ (λ t. omega arith) (λ t. abs-zero (at i p) (off p t)))

over-mono : (f : Phases) (x y : Phase → ℕ) → ((p : Phase) → x p ≤ y p) → over f x ≤ over f y
unfolding over
over-mono f x y h = nsum-le abc (λ p. go (has f p) (h p))
  where
    go : (c : Bool) {x y : ℕ} → x ≤ y → cond c x 0 ≤ cond c y 0
    go true h = h
    go false h = omega arith

over-full : (f : Phases) (x y : Phase → ℕ) → ((p : Phase) → has f p ≡ true) → ((p : Phase) → x p ≤ y p) → nsum x abc ≤ over f y
unfolding over
over-full f x y full h = nsum-le abc (λ p. mask-le (has f p) (x p) (y p) (λ t. h p) (λ t. clash (has f p) (full p) t))

sums-of-three : (x y : Phase → ℕ) → nsum x abc + (nsum y abc + nsum y abc) ≡ nsum (λ p. x p + 2 * y p) abc
unfolding nsum
sums-of-three x y = omega arith

-- what a transformer's row is off by: each voltage once, each current twice, and 1
full-le : (f : Phases) (x y z : Phase → ℕ) → ((p : Phase) → has f p ≡ true) → ((p : Phase) → x p + 2 * y p ≤ z p) → nsum x abc + nsum y abc + (nsum y abc + 1) ≤ 1 + over f z
full-le f x y z full h = omega (arith, sums-of-three x y, over-full f (λ p. x p + 2 * y p) z full h)

near-both : {c l x : ℤ} {e f : ℕ} → Near c (pos 0) e → Near l x f → Near (c +ℤ l) x (e + f)
near-both {c} {l} h k = omega (arith, add_parts c l)

near_first : {c l x : ℤ} {e : ℕ} → Near c (pos 0) e → l ≡ x → Near (c +ℤ l) x e
near_first {c} {l} h k = rw (← k) (near-mono (near-both h (near-refl l)) (omega arith))

near-second : {c l x : ℤ} {e : ℕ} → c ≡ pos 0 → Near l x e → Near (c +ℤ l) x e
near-second {l = l} h k = rw (h, +ℤ_idl l) k

-- ---- a branch
divisors : (x : TapChanger) (f : Phases) → Sized (Regulator x) f → (p : Phase) → 0 < tap_divisor x.taps p
divisors x f g A = g.0
divisors x f g B = g.1.0
divisors x f g C = g.1.1

module _ (q : Part) (f : Phases) (u i : Three) (off : (p : Phase) → has f p ≡ false → at i p ≡ 0c) where
  -- what the row takes in at its from-node less what it gives out, u being the voltage there and i the current given out
  unfoldable pub given : Device → ℤ
  given d = sum (λ p. power_of q (at u p) (at (masked f (taken_of d i)) p) -ℤ power_of q (at (masked f (minus3 (through_of d u) (drop_of d i))) p) (at i p)) abc

  -- what is lost between the ends but for the drop, and what the drop loses
  between_ends : Device → ℤ
  between_ends d = sum (λ p. cond (has f p) (power_of q (at u p) (at (taken_of d i) p) -ℤ power_of q (at (through_of d u) p) (at i p)) (pos 0)) abc

  lost : Device → ℤ
  lost d = sum (λ p. power_of q (at (drop_of d i) p) (at i p)) abc

  given_is : (d : Device) → given d ≡ between_ends d +ℤ lost d
  unfolding given between_ends lost
  given_is d =
      sum-cong abc (λ p. rw (at-masked f (taken_of d i) p, at-masked f (minus3 (through_of d u) (drop_of d i)) p, at-minus (through_of d u) (drop_of d i) p)
      (split q (has f p) (at u p) (at (taken_of d i) p) (at (through_of d u) p) (at (drop_of d i) p) (at i p) (off p)))
      ∙ sum-add (λ p. cond (has f p) (power_of q (at u p) (at (taken_of d i) p) -ℤ power_of q (at (through_of d u) p) (at i p)) (pos 0)) (λ p. power_of q (at (drop_of d i) p) (at i p)) abc

  line-between : (z : LineZ) → between_ends (Line z) ≡ pos 0
  unfolding between_ends taken_of through_of
  line-between z = sum-cong abc (λ p. same (has f p) (power_of q (at u p) (at i p))) ∙ sum-zero abc
    where
      same : (c : Bool) (x : ℤ) → cond c (x -ℤ x) (pos 0) ≡ pos 0
      same true x = +ℤ_invr x
      same false x = refl

  line-lost : (z : LineZ) → Near (lost (Line z)) (part q (exact_loss (Line z) i)) (nsum (λ p. abs (at i p)) abc + 1)
  unfolding lost drop_of exact_loss power_of each sum
  line-lost z = drop-near q 10000000 (omega arith) (λ p. csum (λ j. z_of z p j ·c at i j) abc) (at i) _
      (part-sum q _ abc ∙ sum-cong abc (λ p. part-sum q (λ j. (z_of z p j ·c at i j) ·* at i p) abc ∙ sym (power-sum-left q (at i p) (λ j. z_of z p j ·c at i j) abc)))

  transformer-lost : (x : Windings) → Near (lost (Transformer x)) (part q (exact_loss (Transformer x) i)) (nsum (λ p. abs (at i p)) abc + 1)
  unfolding lost drop_of exact_loss power_of each sum
  transformer-lost x = drop-near q 10000000 (omega arith) (λ p. at x.z p ·c at i p) (at i) _ (part-sum q _ abc)

  regulator-lost : (x : TapChanger) → lost (Regulator x) ≡ part q (exact_loss (Regulator x) i)
  unfolding lost drop_of exact_loss
  regulator-lost x = sum-cong abc (λ p. rw (at_zero p) (power-zero-left q (at i p))) ∙ sum-zero abc ∙ sym (part-zero q)
    where
      part-zero : (q : Part) → part q 0c ≡ pos 0
      part-zero real = refl
      part-zero reactive = refl

  regulator-between : (x : TapChanger) → ((p : Phase) → 0 < tap_divisor x.taps p) → Near (between_ends (Regulator x)) (pos 0) (over f (λ p. abs (at u p) + abs (at i p)))
  unfolding between_ends taken_of through_of over each sum
  regulator-between x g = rw (sum-zero {X = Phase} abc) at (near-sums abc (λ p. masked-near (has f p) (near_difference (regulator-near q (tap_divisor x.taps p) (g p) (at u p) (at i p)))))
    where
      masked-near : (c : Bool) {x : ℤ} {e : ℕ} → Near x (pos 0) e → Near (cond c x (pos 0)) (pos 0) (cond c e 0)
      masked-near true h = h
      masked-near false h = near-refl (pos 0)

  transformer-between : (x : Windings) → 0 < nat_abs x.n → ((p : Phase) → has f p ≡ true) → Near (between_ends (Transformer x)) (pos 0) (nsum (λ p. abs (at u p)) abc + nsum (λ p. abs (at i p)) abc)
  unfolding between_ends taken_of through_of mix
  transformer-between x pn full = subst (λ y. Near y (pos 0) (nsum (λ p. abs (at u p)) abc + nsum (λ p. abs (at i p)) abc))
      (sym (sum-cong abc one ∙ sum-sub ins outs abc)) (near_difference (transformer-near q signs x.m (nat_abs x.n) pn (at u) (at i)))
    where
      signs : Phase → Phase → ℤ
      signs p j = sign_at (row_at (sign_table x.connection).voltage p) j

      ins : Phase → ℤ
      ins p = power_of q (at u p) (rnd_pair (scaled x.m (csum (λ j. scaled (signs j p) (at i j)) abc)) (nat_abs x.n))

      outs : Phase → ℤ
      outs p = power_of q (rnd_pair (scaled x.m (csum (λ j. scaled (signs p j) (at u j)) abc)) (nat_abs x.n)) (at i p)

      one : (p : Phase) → cond (has f p) (power_of q (at u p) (at (taken_of (Transformer x) i) p) -ℤ power_of q (at (through_of (Transformer x) u) p) (at i p)) (pos 0) ≡ ins p -ℤ outs p
      one p = simp (full, at_each, transposed x.connection)

  -- "line: 1 + |I|", "regulator: |V| + 2·tol + |I| on each of its phases", "transformer: 1, and |V| + 2·tol + 2·|I| on each of its phases"
  pub branch-row-near : (tol : ℕ) (v : Three) → ((p : Phase) → abs (at u p) ≤ abs (at v p) + 2 * tol) → (d : Device) → Sized d f → Near (given d) (part q (exact_loss d i)) (branch_allowance tol d f v i)
  unfolding branch_allowance
  branch-row-near tol v close (Line z) g = rw (given_is (Line z)) (near-mono (near-second (line-between z) (line-lost z)) (omega (arith, over-le f i off)))
  branch-row-near tol v close (Regulator x) g = rw (given_is (Regulator x)) (near-mono (near_first (regulator-between x (divisors x f g)) (regulator-lost x))
      (over-mono f (λ p. abs (at u p) + abs (at i p)) _ (λ p. omega (arith, close p))))
  branch-row-near tol v close (Transformer x) g = rw (given_is (Transformer x)) (near-mono (near-both (transformer-between x g.0 g.1) (transformer-lost x))
      (full-le f (λ p. abs (at u p)) (λ p. abs (at i p)) _ g.1 (λ p. omega (arith, close p))))
