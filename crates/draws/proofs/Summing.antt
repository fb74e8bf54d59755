-- What the loop of `draw` holds after some rows: at the start, with one row more, and what it says of a feeder at the end. Assumes nothing.
use Rattle.std.specs.Prelude.{Bool, cond, false, true, List, [], ◌++◌, ◌∷◌, ◌≡◌, refl, ◌+◌, ◌<◌, ◌≤◌, suc, zero, ℕ, ℤ, eqb, get_or, length, replicate, set, Result, Ok, Err}
use Rattle.std.proofs.Common.{◌∙◌, ap, ap₂, sym, arith, length-set}
use Rattle.std.proofs.Math.IntN.{*ℤ-zero}
use Rattle.std.proofs.lemmas.List.{length-replicate}
use Rattle.draws.specs.Draws.{DrawsOf}
use Rattle.draws.specs.SumLaws.{any_next, at_place, csum-next, csum-same, places-next, sum3-next, sum3-same, tab-next}
use Rattle.equations.specs.Equations.{beyond, drawn_power, each, kind_at, load_beyond, load_current, loads_at, plus3, sign_at, sum3, voltage_on, zero3, zero_voltage}
use Rattle.equations.specs.Limits.{drawn-within}
use Rattle.equations.specs.Sizes.{Within3, beyond-false, spread-within, within-zero, within3-zero}
use Rattle.equations.specs.SumSizes.{csum-within, sum3-within}
use Rattle.equations.specs.ThreeLaws.{plus3-idr}
use Rattle.feeder.specs.Feeder.{Feeder, phase_signs}
use Rattle.feeder.specs.Network.{load_array, no_load}
use Rattle.feeder.specs.NetworkLaws.{get_or-blank, get_or_kept}
use Rattle.feeder.specs.declared.Load.{Load}
use Rattle.feeder.specs.Phased.{Three}
use Rattle.integers.specs.Bools.{cond_ind}
use Rattle.integers.specs.ListLaws.{all_map, all-map2, any_false, at_all, tab-is}
use Rattle.integers.specs.Lists.{any, csum, tab, All}
use Rattle.integers.specs.PairLaws.{+c-idr, Within}
use Rattle.integers.specs.Pairs.{0c, ◌+c◌, ◌·*◌, scaled}
use Rattle.integers.specs.declared.Pair.{Pair}
use Rattle.loads.specs.Loads.{drawn_by, drawn-means, lacks_voltage}
use Rattle.loads.specs.declared.LoadError.{LoadError}
use Rattle.loads.specs.declared.LoadError.TheVariants.{Beyond, ZeroVoltage}

-- what a row draws, and the current that it adds: a row that is refused adds none
abbrev pub row_drawn : List Three → Load → Result Pair LoadError
row_drawn v l = drawn_by l (voltage_on l v)

abbrev current_of : Result Pair LoadError → Pair
current_of (Ok i) = i
current_of (Err e) = 0c

abbrev pub drawn_current : List Three → Load → Pair
drawn_current v l = current_of (row_drawn v l)

-- what counts of a row's current into each phase
abbrev pub spread_of : Load → Pair → Three
spread_of l i = each (λ p. scaled (sign_at (phase_signs l.phase) p) i)

-- 30 and 31, of one row
abbrev pub lacking : List Three → Load → Bool
lacking v l = lacks_voltage (kind_at l (voltage_on l v)) (voltage_on l v)

abbrev pub large : List Three → Load → Bool
large v l = beyond (load_current v l)

-- ---- one row
pub row-taken : (v : List Three) (l : Load) (i : Pair) → row_drawn v l ≡ Ok i → (lacking v l ≡ false) × (large v l ≡ false) × (i ≡ load_current v l)
unfolding load_current
row-taken v l i e = rw e at (drawn-means l (voltage_on l v))

row-beyond : (v : List Three) (l : Load) → row_drawn v l ≡ Err Beyond → (lacking v l ≡ false) × (large v l ≡ true)
unfolding load_current
row-beyond v l e = rw e at (drawn-means l (voltage_on l v))

row-lacks : (v : List Three) (l : Load) → row_drawn v l ≡ Err ZeroVoltage → lacking v l ≡ true
row-lacks v l e = rw e at (drawn-means l (voltage_on l v))

row-current : (v : List Three) (l : Load) → lacking v l ≡ false → large v l ≡ false → drawn_current v l ≡ load_current v l
unfolding drawn_by load_current
row-current v l p q = λ i. current_of (cond (p i) (Err ZeroVoltage) (cond (q i) (Err Beyond) (Ok (load_current v l))))

pub row_within : (v : List Three) (l : Load) → Within 2000000 (drawn_current v l)
unfolding drawn_by load_current
row_within v l = go (lacking v l) (large v l) refl
  where
    go : (a b : Bool) → large v l ≡ b → Within 2000000 (current_of (cond a (Err ZeroVoltage) (cond b (Err Beyond) (Ok (load_current v l)))))
    go true b e = within-zero
    go false true e = within-zero
    go false false e = beyond-false e

pub taken-within : (v : List Three) (l : Load) (i : Pair) → row_drawn v l ≡ Ok i → Within 2000000 i
taken-within v l i e = rw e at (row_within v l)

-- ---- the rows passed
-- what a row adds at node k, with each row's current given; and to the power
abbrev pub part_at : (Load → Pair) → ℕ → Load → Three
part_at current k = at_place (λ l. l.node) (λ l. spread_of l (current l)) k

abbrev pub power_of : List Three → (Load → Pair) → Load → Pair
power_of v current l = voltage_on l v ·* current l

-- no row needs a voltage and has none, and `over` says whether a row's current is beyond its limit
pub record Summed (ls : List Load) (v : List Three) (over : Bool) (drawn : Pair) (own : List Three) : Type 0 where
  pub none-lacks : any (lacking v) ls ≡ false
  pub over-is : over ≡ any (large v) ls
  pub places : length own ≡ 201
  pub own_is : (k : ℕ) → get_or own k zero3 ≡ sum3 (part_at (drawn_current v) k) ls
  pub drawn-is : drawn ≡ csum (power_of v (drawn_current v)) ls

pub summed-none : (v : List Three) → Summed [] v false 0c (replicate 201 zero3)
unfolding any sum3 csum
summed-none v = record { none-lacks = refl; over-is = refl; places = length-replicate 201 zero3; own_is = get_or-blank zero3 201; drawn-is = refl }

or-false : (a : Bool) {b c : Bool} → b ≡ a → c ≡ false → b ≡ cond a true c
or-false true e q = e
or-false false e q = e ∙ sym q

or-true : (a : Bool) {c : Bool} → c ≡ true → true ≡ cond a true c
or-true true q = refl
or-true false q = sym q

none-next : (v : List Three) (ls : List Load) (l : Load) → any (lacking v) ls ≡ false → lacking v l ≡ false → any (lacking v) (ls ++ (l ∷ [])) ≡ false
none-next v ls l p q = any_next (lacking v) ls l ∙ sym (or-false (any (lacking v) ls) (sym p) q)

-- a row that draws i
pub summed-taken : (v : List Three) (ls : List Load) (l : Load) (i : Pair) (over : Bool) (drawn after : Pair) (own next : List Three) → l.node < 201 → row_drawn v l ≡ Ok i → Summed ls v over drawn own
    → next ≡ set own l.node (plus3 (get_or own l.node zero3) (spread_of l i))
    → after ≡ drawn +c (voltage_on l v ·* i)
    → Summed (ls ++ (l ∷ [])) v over after next
summed-taken v ls l i over drawn after own next n e h q d =
    let w = row-taken v l i e in
    let c : i ≡ drawn_current v l = sym (ap current_of e) in
    record {
      none-lacks = none-next v ls l h.none-lacks w.0;
      over-is = or-false (any (large v) ls) h.over-is w.1 ∙ sym (any_next (large v) ls l);
      places = ap length q ∙ length-set own l.node _ ∙ h.places;
      own_is = λ k.
          ap (λ (x : List Three). get_or x k zero3) q
          ∙ ap (λ (x : Pair). get_or (set own l.node (plus3 (get_or own l.node zero3) (spread_of l x))) k zero3) c
          ∙ places-next (λ y. y.node) (λ y. spread_of y (drawn_current v y)) ls l own (omega (arith, h.places)) h.own_is k;
      drawn-is =
          d
          ∙ ap₂ ◌+c◌ h.drawn-is (ap (λ (x : Pair). voltage_on l v ·* x) c)
          ∙ sym (csum-next (power_of v (drawn_current v)) ls l);
    }

-- a row with a current beyond its limit: it adds nothing
scaled-none : (s : ℤ) → scaled s 0c ≡ 0c
unfolding scaled
scaled-none s = λ i. record { re = *ℤ-zero s i; im = *ℤ-zero s i }

spread-none : (l : Load) → spread_of l 0c ≡ zero3
unfolding each
spread-none l = λ i. each (λ p. scaled-none (sign_at (phase_signs l.phase) p) i)

power-none : (x : Pair) → (x ·* 0c) ≡ 0c
unfolding ◌·*◌
power-none x = rw (*ℤ-zero x.re, *ℤ-zero x.im) refl

part-none : (l : Load) (i : Pair) (b : Bool) → i ≡ 0c → cond b (spread_of l i) zero3 ≡ zero3
part-none l i true e = ap (spread_of l) e ∙ spread-none l
part-none l i false e = refl

pub summed-beyond : (v : List Three) (ls : List Load) (l : Load) (over : Bool) (drawn : Pair) (own : List Three) → row_drawn v l ≡ Err Beyond → Summed ls v over drawn own
    → Summed (ls ++ (l ∷ [])) v true drawn own
summed-beyond v ls l over drawn own e h =
    let w = row-beyond v l e in
    let c : drawn_current v l ≡ 0c = ap current_of e in
    record {
      none-lacks = none-next v ls l h.none-lacks w.0;
      over-is = or-true (any (large v) ls) w.1 ∙ sym (any_next (large v) ls l);
      places = h.places;
      own_is = λ k.
          let p : Load → Three = part_at (drawn_current v) k in
          h.own_is k ∙ sym (plus3-idr (sum3 p ls)) ∙ ap (plus3 (sum3 p ls)) (sym (part-none l (drawn_current v l) (eqb l.node k) c)) ∙ sym (sum3-next p ls l);
      drawn-is =
          let p : Load → Pair = power_of v (drawn_current v) in
          h.drawn-is ∙ sym (+c-idr (csum p ls)) ∙ ap (λ (x : Pair). csum p ls +c x) (sym (ap (λ (x : Pair). voltage_on l v ·* x) c ∙ power-none (voltage_on l v))) ∙ sym (csum-next p ls l);
    }

-- how large the sums are
pub record SmallSums (power : Pair) (own : List Three) : Type 0 where
  pub own-small : (k : ℕ) → Within3 600000000 (get_or own k zero3)
  pub drawn : Within 4800000000000000 power

pub summed-small : (v : List Three) (ls : List Load) (over : Bool) (drawn : Pair) (own : List Three) → length ls ≤ 300 → ((k : ℕ) → Within3 2000000 (get_or v k zero3)) → Summed ls v over drawn own → SmallSums drawn own
unfolding voltage_on
summed-small v ls b r own n h s =
    record {
      own-small = λ k.
          let p : Load → Three = part_at (drawn_current v) k in
          rw (s.own_is k) (sum3-within 300 2000000 p ls n (at_all (λ l. Within3 2000000 (p l)) ls (λ i d q. part k (get_or ls i d))));
      drawn =
          let p : Load → Pair = power_of v (drawn_current v) in
          rw s.drawn-is (csum-within 300 16000000000000 p ls n (at_all (λ l. Within 16000000000000 (p l)) ls (λ i d q. power (get_or ls i d))));
    }
  where
    part : (k : ℕ) (l : Load) → Within3 2000000 (part_at (drawn_current v) k l)
    part k l =
        cond_ind (eqb l.node k) (spread_of l (drawn_current v l)) zero3 (Within3 2000000)
        (λ t. spread-within l.phase (row_within v l)) (λ t. within3-zero)

    power : (l : Load) → Within 16000000000000 (power_of v (drawn_current v) l)
    power l = drawn-within l.phase (h l.node) (row_within v l)

-- where no row is refused each adds its load current
abbrev Same : List Three → Load → Type 0
Same v l = drawn_current v l ≡ load_current v l

fine-rows : (v : List Three) (ls : List Load) → any (lacking v) ls ≡ false → any (large v) ls ≡ false → All (Same v) ls
fine-rows v ls p q =
    all-map2 {P = λ l. lacking v l ≡ false} {Q = λ l. large v l ≡ false} {R = Same v} ls (row-current v)
    (any_false (lacking v) ls p) (any_false (large v) ls q)

pub summed-draws : (f : Feeder) (v : List Three) (drawn : Pair) (own : List Three) → Summed f.loads v false drawn own → DrawsOf f v (Ok drawn) own
unfolding zero_voltage load_beyond loads_at drawn_power
summed-draws f v drawn own s =
    record {
      draw-is = rw (s.none-lacks, sym s.over-is) (ap Ok (s.drawn-is ∙ csum-same (power_of v (drawn_current v)) (power_of v (load_current v)) f.loads
          (all_map {P = Same v} {Q = λ l. power_of v (drawn_current v) l ≡ power_of v (load_current v) l} f.loads
          (λ l h. ap (λ (i : Pair). voltage_on l v ·* i) h) rows)));
      own_is = tab-is (loads_at f v) 201 own zero3 s.places (λ k q.
          let p : (Load → Pair) → Load → Three = λ c. part_at c k in
          s.own_is k ∙ sum3-same (p (drawn_current v)) (p (load_current v)) f.loads
          (all_map {P = Same v} {Q = λ l. p (drawn_current v) l ≡ p (load_current v) l} f.loads
          (λ l h. ap (λ (i : Pair). cond (eqb l.node k) (spread_of l i) zero3) h) rows));
    }
  where
    rows : All (Same v) f.loads
    rows = fine-rows v f.loads s.none-lacks (sym s.over-is)

-- 31 of a row, and 30 of none
pub summed-over : (f : Feeder) (v : List Three) (drawn : Pair) (own : List Three) → Summed f.loads v true drawn own → DrawsOf f v (Err Beyond) own
unfolding zero_voltage load_beyond
summed-over f v drawn own s = record { draw-is = rw (s.none-lacks, sym s.over-is) refl; own_is = tt }

-- 30 of a row
any-one : {X : Type 0} (f : X → Bool) (l : List X) (k : ℕ) (z : X) → k < length l → f (get_or l k z) ≡ true → any f l ≡ true
unfolding any
any-one f [] k z q e = absurd (omega arith)
any-one f (x ∷ l) zero z q e = rw e refl
any-one f (x ∷ l) (suc k) z q e = go (f x) (any-one f l k z (omega arith) e)
  where
    go : (c : Bool) → any f l ≡ true → cond c true (any f l) ≡ true
    go true r = refl
    go false r = r

pub lacking-draws : (f : Feeder) (v : List Three) (own : List Three) (ls : List Load) (k : ℕ) → ls ≡ load_array f → length f.loads ≤ 300 → k < length f.loads → row_drawn v (get_or ls k no_load) ≡ Err ZeroVoltage → DrawsOf f v (Err ZeroVoltage) own
unfolding zero_voltage
lacking-draws f v own ls k p few q e =
    let same : get_or ls k no_load ≡ get_or f.loads k no_load = ap (λ (l : List Load). get_or l k no_load) p ∙ get_or_kept no_load 300 f.loads k few in
    let w : lacking v (get_or f.loads k no_load) ≡ true = rw same at (row-lacks v (get_or ls k no_load) e) in
    record { draw-is = rw (any-one (lacking v) f.loads k no_load q w) refl; own_is = tt }

-- ---- the first n rows of an array
abbrev pub first_rows : List Load → ℕ → List Load
first_rows ls n = tab (λ k. get_or ls k no_load) 0 n

pub rows_next : (ls : List Load) (n : ℕ) → first_rows ls (n + 1) ≡ first_rows ls n ++ (get_or ls n no_load ∷ [])
rows_next ls n =
    let z : n + 1 ≡ suc n = omega arith in
    let o : 0 + n ≡ n = omega arith in
    rw z (tab-next (λ k. get_or ls k no_load) 0 n ∙ ap (λ (k : ℕ). first_rows ls n ++ (get_or ls k no_load ∷ [])) o)

-- they are the feeder's
pub all-rows : (f : Feeder) (ls : List Load) (n k : ℕ) → k ≡ n → n ≤ 300 → ls ≡ load_array f → n ≡ length f.loads → first_rows ls k ≡ f.loads
all-rows f ls n k z h p q =
    sym (tab-is (λ i. get_or ls i no_load) k f.loads no_load (sym (z ∙ q)) (λ i j.
    sym (ap (λ (l : List Load). get_or l i no_load) p ∙ get_or_kept no_load 300 f.loads i (omega arith))))
