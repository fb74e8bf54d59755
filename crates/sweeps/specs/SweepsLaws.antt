-- A feeder in memory is what the passes and the loads ask for. Assumes nothing.
use Rattle.std.specs.Prelude.{Bool, List, ◌∷◌, ◌≡◌, refl, ◌+◌, ◌<◌, suc, zero, ℕ, get_or, length, Result, Ok, Err, OnOk}
use Rattle.std.proofs.Math.Bool.{false, true}
use Rattle.std.proofs.Common.{◌∙◌, ap, subst, sym, arith, ne_eqb}
use Rattle.answers.specs.Answers.{Done}
use Rattle.std.proofs.lemmas.Result.{IfOk-at_ok, on_ok_weaker}
use Rattle.std.proofs.Math.Decide.{dec_lt}
use Rattle.arrays.specs.Arrays.{Spare}
use Rattle.draws.specs.Draws.{DrawsOf, LoadsOk, draw_of}
use Rattle.equations.specs.Equations.{current_beyond, currents, drawn_power, load_beyond, loads_at, zero3, zero_voltage}
use Rattle.equations.specs.Fit.{Fit}
use Rattle.equations.specs.Limits.{DeviceOk, LoadOk}
use Rattle.equations.specs.Sizes.{Within3}
use Rattle.equations.specs.ThreeLaws.{sum3-cong, sum3-zero}
use Rattle.feeder.specs.Feeder.{Feeder, branch_at, no_branch, row_count}
use Rattle.feeder.specs.Network.{Held, kept, no_load}
use Rattle.feeder.specs.NetworkLaws.{get_or_kept, length-kept}
use Rattle.feeder.specs.declared.Network.{Network}
use Rattle.feeder.specs.Phased.{Three}
use Rattle.integers.specs.ListLaws.{all-at, get_or-tab, length-tab}
use Rattle.integers.specs.Lists.{tab}
use Rattle.integers.specs.declared.Pair.{Pair}
use Rattle.loads.specs.declared.LoadError.{LoadError}
use Rattle.loads.specs.declared.LoadError.TheVariants.{Beyond as LoadTooLarge, ZeroVoltage as AtZero}
use Rattle.passes.specs.Arrays.{get_or-behind}
use Rattle.passes.specs.Passes.{InArrays, Ready, UpwardIs, unless_beyond, upwards}
use Rattle.passes.specs.declared.Beyond.{Beyond}
use Rattle.sweeps.specs.Sweeps.{Known, WorkedIs, work_error, work_of}
use Rattle.sweeps.specs.declared.WorkError.{WorkError}
use Rattle.sweeps.specs.declared.WorkError.TheVariants.{CurrentBeyond}

module _ {f : Feeder} {g : Network} (h : Held f g) where
  pub in-arrays : InArrays f g
  in-arrays = record { branches-are = h.branches; rows_are = h.rows }

  -- the branch of row k
  pub branch_held : (k : ℕ) → get_or g.branches k no_branch ≡ branch_at f k
  unfolding branch_at
  branch_held k = rw h.branches (get_or_kept no_branch 201 (no_branch ∷ f.branches) k (let q = h.few-rows in omega arith))

  load-held : (k : ℕ) → get_or g.loads k no_load ≡ get_or f.loads k no_load
  load-held k = rw h.loads (get_or_kept no_load 300 f.loads k h.few-loads)

module _ {g : Network} (known : Known g) where
  pub ready : Ready g
  ready = record {
    linked = known.arranged.linked;
    ordered = known.arranged.ordered;
    ranked = known.arranged.ranked;
    fine = device;
  }
    where
      device : (k : ℕ) → 0 < k → k < g.rows + 1 → DeviceOk (get_or g.branches k no_branch).device
      device zero p q = absurd (omega arith)
      device (suc k) p q = rw (branch_held known.held (suc k)) (known.fit.devices k (let e = known.held.rows in omega arith))

  load_fits : (l : ℕ) → l < g.count → LoadOk (get_or g.loads l no_load) × ((get_or g.loads l no_load).node < suc (row_count known.feeder))
  load_fits l q =
      rw (load-held known.held l)
      (all-at (λ x. LoadOk x × (x.node < suc (row_count known.feeder))) known.feeder.loads known.fit.loads l no_load (let e = known.held.count in omega arith))

  pub loads-ok : (v : List Three) → ((k : ℕ) → Within3 2000000 (get_or v k zero3)) → LoadsOk g.loads g.count v
  loads-ok v h = record {
    limits = λ l q. (load_fits l q).0;
    nodes = λ l q. let w = (load_fits l q).1 in let n = known.held.few-rows in omega arith;
    voltages = h;
  }

  pub source_fits : Within3 2000000 g.source
  source_fits = rw known.held.source known.fit.source

-- no load draws behind the nodes
pub loads-behind : (f : Feeder) (v : List Three) → Fit f → (k : ℕ) → row_count f < k → loads_at f v k ≡ zero3
unfolding loads_at
loads-behind f v h k q =
    sum3-cong (λ l. LoadOk l × (l.node < suc (row_count f))) _ (λ l. zero3) f.loads
    (λ l w. let n = w.1 in rw (ne_eqb l.node k (λ e. omega arith)))
    h.loads ∙ sum3-zero f.loads

-- what the rows of a known feeder draw
module _ {g : Network} (known : Known g) (v : List Three) (r : Result Pair LoadError) (own : List Three) (of : (f : Feeder) → Held f g → DrawsOf f v r own) (drawn : Pair) (fine : r ≡ Ok drawn) where
  own-tab : (f : Feeder) → Held f g → own ≡ tab (loads_at f v) 0 201
  own-tab f h = IfOk-at_ok (λ p. own ≡ tab (loads_at f v) 0 201) fine (of f h).own_is

  pub own-places : length own ≡ 201
  own-places = rw (own-tab known.feeder known.held) (length-tab (loads_at known.feeder v) 0 201)

  pub own_behind : (k : ℕ) → g.rows < k → get_or own k zero3 ≡ zero3
  own_behind k q =
      let f = known.feeder in
      rw (own-tab f known.held) (elim (dec_lt k 201) [
        | yes y ↦ get_or-tab (loads_at f v) 0 201 k zero3 y ∙ (let z : 0 + k ≡ k = omega arith in rw z (loads-behind f v known.fit k (let n = known.held.rows in omega arith)))
        | no y ↦ get_or-behind (tab (loads_at f v) 0 201) k zero3 (omega (arith, length-tab (loads_at f v) 0 201))
      ])

  pub own_at : (f : Feeder) → Held f g → (k : ℕ) → k < g.rows + 1 → get_or own k zero3 ≡ loads_at f v k
  own_at f h k q =
      rw (own-tab f h) (get_or-tab (loads_at f v) 0 201 k zero3 (let n = h.rows in let m = h.few-rows in omega arith) ∙ (let z : 0 + k ≡ k = omega arith in rw z))

-- the currents of a known feeder stand at its nodes alone
pub currents-spare : {g : Network} (known : Known g) (v : List Three) (r : Result Pair WorkError) (i : List Three) → ((f : Feeder) → Held f g → WorkedIs f v r i) → OnOk r (Spare g.rows i)
unfolding currents
currents-spare known v r i of =
    let f = known.feeder in
    let n : length (currents f v) ≡ suc (row_count f) = length-tab _ 0 (suc (row_count f)) in
    let m = known.held.rows in
    let few = known.held.few-rows in
    on_ok_weaker r (λ (e : i ≡ kept zero3 201 (currents f v)). rw e (record {
      long = length-kept zero3 201 (currents f v);
      behind = λ k q. get_or_kept zero3 201 (currents f v) k (omega arith) ∙ get_or-behind (currents f v) k zero3 (omega arith);
    })) (of f known.held).currents-are

-- ---- the answer by what a pass answers, and by what the rows draw
pub was-within : (b : Bool) (u : Done) → unless_beyond b ≡ Ok u → b ≡ false
was-within true u e = let z : ◌≡◌ {A = ℕ} 0 1 = cc in absurd (omega arith)
was-within false u e = refl

pub was-beyond : (b : Bool) (x : Beyond) → unless_beyond b ≡ Err x → b ≡ true
was-beyond true x e = refl
was-beyond false x e = let z : ◌≡◌ {A = ℕ} 0 1 = cc in absurd (omega arith)

draw-ok : (a b : Bool) (p drawn : Pair) → draw_of a b p ≡ Ok drawn → (a ≡ false) × (b ≡ false) × (drawn ≡ p)
draw-ok true b p drawn e = let z : ◌≡◌ {A = ℕ} 0 1 = cc in absurd (omega arith)
draw-ok false true p drawn e = let z : ◌≡◌ {A = ℕ} 0 1 = cc in absurd (omega arith)
draw-ok false false p drawn e = (refl, refl, cc)

draw-err : (a b c : Bool) (p : Pair) (x : LoadError) → draw_of a b p ≡ Err x → Err (work_error x) ≡ work_of a b c p
draw-err true b c p x e = let z : ◌≡◌ {A = LoadError} AtZero x = cc in ap (λ (y : LoadError). Err (work_error y)) (sym z)
draw-err false true c p x e = let z : ◌≡◌ {A = LoadError} LoadTooLarge x = cc in ap (λ (y : LoadError). Err (work_error y)) (sym z)
draw-err false false c p x e = let z : ◌≡◌ {A = ℕ} 0 1 = cc in absurd (omega arith)

module _ (f : Feeder) (v : List Three) (d : Result Pair LoadError) (own : List Three) (of : DrawsOf f v d own) (i : List Three) where
  -- what is refused has no currents
  pub worked-refused : (x : LoadError) → d ≡ Err x → WorkedIs f v (Err (work_error x)) i
  worked-refused x e = record { work-is = draw-err (zero_voltage f v) (load_beyond f v) _ _ x (sym of.draw-is ∙ e); currents-are = tt }

  module _ (r : Result Done Beyond) (up : UpwardIs f (loads_at f v) r i) (drawn : Pair) (fine : d ≡ Ok drawn) where
    pub worked-over : (x : Beyond) → r ≡ Err x → WorkedIs f v (Err CurrentBeyond) i
    unfolding currents
    worked-over x o =
        let w = draw-ok (zero_voltage f v) (load_beyond f v) _ drawn (sym of.draw-is ∙ fine) in
        let q : current_beyond f (currents f v) ≡ true = was-beyond _ x (sym up.answer-is ∙ o) in
        record { work-is = rw (w.0, w.1, q); currents-are = tt }

    pub worked-fine : (u : Done) → r ≡ Ok u → WorkedIs f v (Ok drawn) i
    unfolding currents
    worked-fine u o =
        let w = draw-ok (zero_voltage f v) (load_beyond f v) _ drawn (sym of.draw-is ∙ fine) in
        let q : current_beyond f (currents f v) ≡ false = was-within _ u (sym up.answer-is ∙ o) in
        record { work-is = rw (w.0, w.1, q, w.2); currents-are = subst (λ (y : Result Done Beyond). OnOk y (i ≡ kept zero3 201 (upwards f (loads_at f v)))) o up.at-is }

-- ---- what the answer says
-- currents, and the power drawn with them: none of 30 to 32 holds
pub record Workable (f : Feeder) (v : List Three) (drawn : Pair) (i : List Three) : Type 0 where
  pub t30 : zero_voltage f v ≡ false
  pub t31 : load_beyond f v ≡ false
  pub t32 : current_beyond f (currents f v) ≡ false
  pub drawn-is : drawn ≡ drawn_power f v
  pub currents-are : i ≡ kept zero3 201 (currents f v)

pub workable : (f : Feeder) (v : List Three) (drawn : Pair) (i : List Three) → WorkedIs f v (Ok drawn) i → Workable f v drawn i
workable f v drawn i h = go (zero_voltage f v) (load_beyond f v) (current_beyond f (currents f v)) refl refl refl h.work-is
  where
    go : (a b c : Bool) → zero_voltage f v ≡ a → load_beyond f v ≡ b → current_beyond f (currents f v) ≡ c → Ok drawn ≡ work_of a b c (drawn_power f v) → Workable f v drawn i
    go true b c p q r e = let z : ◌≡◌ {A = ℕ} 0 1 = cc in absurd (omega arith)
    go false true c p q r e = let z : ◌≡◌ {A = ℕ} 0 1 = cc in absurd (omega arith)
    go false false true p q r e = let z : ◌≡◌ {A = ℕ} 0 1 = cc in absurd (omega arith)
    go false false false p q r e = record { t30 = p; t31 = q; t32 = r; drawn-is = cc; currents-are = h.currents-are }
