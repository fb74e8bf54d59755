-- `draw` meets its contract. After l rows the loop holds the sums over the first l. Assumes nothing.
use Rattle.std.specs.Prelude.{Bool, List, ◌≡◌, ◌≤◌, get_or, length, set, false, true, Err}
use Rattle.std.proofs.Common.{◌∙◌, ap, arith, sym}
use Rattle.draws.proofs.Summing.{SmallSums, Summed, all-rows, first_rows, lacking-draws, row_drawn, rows_next, summed-beyond, summed-draws, summed-none, summed-over, summed-small, summed-taken, taken-within}
use Rattle.equations.specs.Equations.{plus3, voltage_on, zero3}
use Rattle.equations.specs.Limits.{drawn-within}
use Rattle.equations.specs.Sizes.{spread-within, within3-more}
use Rattle.feeder.specs.Feeder.{Feeder}
use Rattle.feeder.specs.Network.{load_array, no_load}
use Rattle.feeder.specs.declared.Load.{Load}
use Rattle.feeder.specs.Phased.{Three}
use Rattle.integers.specs.ListLaws.{length-tab}
use Rattle.integers.specs.Lists.{tab}
use Rattle.integers.specs.PairLaws.{Within, within_more}
use Rattle.integers.specs.Pairs.{◌+c◌}
use Rattle.integers.specs.declared.Pair.{Pair}
use Rattle.draws.proofs.draw.Goals as goal
use Rattle.draws.proofs.draw.Goals.{After-load_current, At-loop-l, In-Ok, Start, in-Ok, in-Err-Beyond}

-- the rows and the voltages
abbrev rows : Start → List Load
rows s = s.args.network.now.loads

abbrev volts : Start → List Three
volts s = s.args.v.now

abbrev first : At-loop-l → Start
first a = (goal.at.At-loop-l a).Start

-- how large the sums are
small : (a : At-loop-l) → SmallSums a.loop-l.drawn a.loop-l.own
small a =
    let s = first a in
    let n : length (first_rows (rows s) a.loop-l.l) ≡ a.loop-l.l = length-tab (λ k. get_or (rows s) k no_load) 0 a.loop-l.l in
    summed-small (volts s) (first_rows (rows s) a.loop-l.l) a.loop-l.beyond a.loop-l.drawn a.loop-l.own (omega (arith, s.args.network.now.few_loads)) s.requires.loads_ok.voltages a.loop-l.invariant

-- the row of this turn, and what it draws
abbrev start : After-load_current → Start
start r = first (goal.at.After-load_current r).At-loop-l

abbrev load : After-load_current → Load
load r = get_or (rows (start r)) r.loop-l.l no_load

row_is : (r : After-load_current) → r.load_current.result ≡ row_drawn (volts (start r)) (load r)
unfolding voltage_on
row_is r = r.load_current.ensures

current-small : (r : In-Ok) → Within 2000000 r.in-Ok.i
current-small r =
    let t = (goal.at.In-Ok r).After-load_current in
    taken-within (volts (start t)) (load t) r.in-Ok.i (sym (row_is t) ∙ r.in-Ok.is)

pub loop-l-init : goal.loop-l-init
unfolding tab
loop-l-init c = rw c.requires.own_value (summed-none (volts c))

pub spread-more-requires : goal.spread-more-requires
spread-more-requires c = current-small c

pub plus-requires-clause-within3 : goal.plus-requires-clause-within3
plus-requires-clause-within3 c = within3-more ((small (goal.at.plus-requires-clause-within3 c).At-loop-l).own-small _) tt

pub plus-requires-clause-within3_2 : goal.plus-requires-clause-within3_2
plus-requires-clause-within3_2 c =
    let w = goal.at.plus-requires-clause-within3_2 c in
    rw c.spread-more.ensures (within3-more (spread-within (load w.After-load_current).phase (current-small w.In-Ok)) tt)

pub load_power-power-requires-clause-within : goal.load_power-power-requires-clause-within
load_power-power-requires-clause-within c = current-small (goal.at.load_power-power-requires-clause-within c).In-Ok

pub add-drawn-requires-clause-within : goal.add-drawn-requires-clause-within
add-drawn-requires-clause-within c = within_more (small (goal.at.add-drawn-requires-clause-within c).At-loop-l).drawn tt

pub add-drawn-requires-clause-within_2 : goal.add-drawn-requires-clause-within_2
add-drawn-requires-clause-within_2 c =
    let w = goal.at.add-drawn-requires-clause-within_2 c in
    let l = load w.After-load_current in
    rw c.load_power-power.ensures (within_more (drawn-within l.phase (c.requires.loads_ok.voltages l.node) (current-small w.In-Ok)) tt)

pub returns-in-Err-ZeroVoltage-clause-value : goal.returns-in-Err-ZeroVoltage-clause-value
returns-in-Err-ZeroVoltage-clause-value c = λ f p q.
    let r = (goal.at.returns-in-Err-ZeroVoltage-clause-value c).After-load_current in
    let few = c.args.network.now.few_loads in
    lacking-draws f (volts (start r)) c.loop-l.own (rows (start r)) c.loop-l.l p (omega arith) (omega arith) (sym (row_is r) ∙ c.in-Err-ZeroVoltage.is ∙ ap Err c.in-Err-ZeroVoltage.field-0-is)

pub returns-in-Err-ZeroVoltage-clause-size : goal.returns-in-Err-ZeroVoltage-clause-size
returns-in-Err-ZeroVoltage-clause-size c = record { own-small = (small (goal.at.returns-in-Err-ZeroVoltage-clause-size c).At-loop-l).own-small; drawn = tt }

pub loop-l-preserved : goal.loop-l-preserved
unfolding voltage_on
loop-l-preserved c =
    let r = (goal.at.loop-l-preserved c).After-load_current in
    let v = volts (start r) in
    let l = load r in
    let b = c.loop-l in
    let done = first_rows (rows (start r)) b.l in
    rw (rows_next (rows (start r)) b.l) (elim c.match-load_current.branch [
      | in-Ok w ↦ rw (w.own-is, w.drawn-is, w.beyond-is)
          (summed-taken v done l w.in-Ok.i b.beyond b.drawn w.add-drawn.result b.own _ (c.requires.loads_ok.nodes b.l (omega arith)) (sym (row_is r) ∙ w.in-Ok.is) b.invariant
          (ap (set b.own l.node) (w.plus.ensures ∙ ap (plus3 (get_or b.own l.node zero3)) w.spread-more.ensures))
          (w.add-drawn.ensures ∙ ap (λ (y : Pair). b.drawn +c y) w.load_power-power.ensures))
      | in-Err-Beyond w ↦ rw (w.own-is, w.drawn-is, w.beyond-is)
          (summed-beyond v done l b.beyond b.drawn b.own (sym (row_is r) ∙ w.in-Err-Beyond.is ∙ ap Err w.in-Err-Beyond.field-0-is) b.invariant)
    ])

-- after the last row
ended : (a : At-loop-l) (over : Bool) → a.loop-l.beyond ≡ over → (first a).args.network.now.count ≤ a.loop-l.l → a.loop-l.l ≤ (first a).args.network.now.count → (f : Feeder) → rows (first a) ≡ load_array f → (first a).args.network.now.count ≡ length f.loads
    → Summed f.loads (volts (first a)) over a.loop-l.drawn a.loop-l.own
ended a over e low high f p q =
    let net = (first a).args.network.now in
    rw (e, all-rows f net.loads net.count a.loop-l.l (omega arith) net.few_loads p q) at a.loop-l.invariant

pub returns-then-beyond-clause-value : goal.returns-then-beyond-clause-value
returns-then-beyond-clause-value c = λ f p q.
    let a = (goal.at.returns-then-beyond-clause-value c).At-loop-l in
    summed-over f (volts (first a)) c.loop-l.drawn c.loop-l.own (ended a true c.if-beyond.true c.loop-l-test.false c.loop-l.auto.l-end f p q)

pub returns-then-beyond-clause-size : goal.returns-then-beyond-clause-size
returns-then-beyond-clause-size c = record { own-small = (small (goal.at.returns-then-beyond-clause-size c).At-loop-l).own-small; drawn = tt }

pub returns-else-beyond-clause-value : goal.returns-else-beyond-clause-value
returns-else-beyond-clause-value c = λ f p q.
    let a = (goal.at.returns-else-beyond-clause-value c).At-loop-l in
    summed-draws f (volts (first a)) c.loop-l.drawn c.loop-l.own (ended a false c.if-beyond.false c.loop-l-test.false c.loop-l.auto.l-end f p q)

pub returns-else-beyond-clause-size : goal.returns-else-beyond-clause-size
returns-else-beyond-clause-size c = let h = small (goal.at.returns-else-beyond-clause-size c).At-loop-l in record { own-small = h.own-small; drawn = h.drawn }
