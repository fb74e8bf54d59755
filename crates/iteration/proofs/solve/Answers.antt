-- `solve` meets its contract: before sweep k the rest of the run is the run. Assumes nothing.
use Rattle.std.specs.Prelude.{replicate}
use Rattle.std.proofs.Common.{List, [], ◌≡◌, ◌≤◌, arith}
use Rattle.std.proofs.lemmas.Result.{err_from_is_err_and}
use Rattle.answers.specs.declared.Refusal.TheVariants.{VoltageBeyond}
use Rattle.arrays.specs.ArrayLaws.{spare-blank}
use Rattle.equations.specs.Equations.{zero3}
use Rattle.equations.specs.Sizes.{within3-zero}
use Rattle.feeder.specs.Feeder.{Feeder}
use Rattle.feeder.specs.Network.{Held}
use Rattle.feeder.specs.Phased.{Three}
use Rattle.iteration.proofs.RunLaws.{here-last, here-next, here-refused, here-settled, here-start, no_start, or-err, or-ok, room-made, same-zeros, solved-refused}
use Rattle.passes.specs.Same.{Same}
use Rattle.iteration.proofs.solve.Goals as goal
use Rattle.iteration.proofs.solve.Goals.{After-sweep_once}

-- no current at any node
zeros : (i : List Three) → i ≡ replicate 201 zero3 → Same i []
zeros i e = rw e (same-zeros 201)

pub work_voltages-requires-clause-by_index : goal.work_voltages-requires-clause-by_index
work_voltages-requires-clause-by_index c = λ k p q. rw ((zeros c.args.i.now c.requires.i_value).place k) within3-zero

pub returns-in_err-or-clause-value : goal.returns-in_err-or-clause-value
returns-in_err-or-clause-value c = λ f h.
    let e = or-err c.work_voltages.result (VoltageBeyond 0) c.in_err-or.field-0.0 c.in_err-or.ensures in
    let p = err_from_is_err_and c.from_residual.result c.from_residual.ensures.1 in
    rw (p.1, p.2, e.1)
    (solved-refused f (VoltageBeyond 0) c.work_voltages.new.v c.args.i.now
    (no_start f c.args.i.now c.work_voltages.result c.work_voltages.new.v (zeros c.args.i.now c.requires.i_value) (c.work_voltages.ensures.value f h) (record {}) e.0))

pub loop-k-init : goal.loop-k-init
loop-k-init c = (
  (λ f h. here-start f c.args.i.now c.work_voltages.result c.work_voltages.new.v h.few-rows (zeros c.args.i.now c.requires.i_value)
      (c.work_voltages.ensures.value f h) c.in_ok-or.field-0 (or-ok c.work_voltages.result (VoltageBeyond 0) c.in_ok-or.field-0 c.in_ok-or.ensures)),
  (record { spare = c.work_voltages.ensures.spare; each = c.work_voltages.ensures.size.each }, (room-made _, rw c.requires.i_value (spare-blank _))),
)

-- a further sweep may be made
more : (c : After-sweep_once) (f : Feeder) → Held f c.args.network.now
    → c.loop-k.k ≤ f.limit
more c f h = let e = h.limit in omega (arith, c.loop-k-test.true)

pub returns-in_err-settled-clause-value : goal.returns-in_err-settled-clause-value
returns-in_err-settled-clause-value c = λ f h.
    let p = err_from_is_err_and c.from_residual-in_err-settled.result c.from_residual-in_err-settled.ensures.1 in
    rw (p.1, p.2) (here-refused f c.loop-k.k c.loop-k.v h.few-rows (c.loop-k.invariant.0 f h) (more (goal.at.returns-in_err-settled-clause-value c).After-sweep_once f h)
    c.sweep_once.new.next c.sweep_once.new.i _ _ _ (rw c.in_err-settled.was at (c.sweep_once.ensures.value f h)))

pub returns-in-Some-clause-value : goal.returns-in-Some-clause-value
returns-in-Some-clause-value c = λ f h.
    here-settled f c.loop-k.k c.loop-k.v h.few-rows (c.loop-k.invariant.0 f h) (more (goal.at.returns-in-Some-clause-value c).After-sweep_once f h)
    c.sweep_once.new.next c.sweep_once.new.i c.in-Some.drawn (rw (c.in_ok-settled.was, c.in-Some.is) at (c.sweep_once.ensures.value f h))

pub loop-k-preserved : goal.loop-k-preserved
loop-k-preserved c =
    let small = rw (c.in_ok-settled.was, c.in_default.is) at c.sweep_once.ensures.size in
    rw c.copy_threes.ensures (
      (λ f h. here-next f c.loop-k.k c.loop-k.v h.few-rows (c.loop-k.invariant.0 f h) (more (goal.at.loop-k-preserved c).After-sweep_once f h)
          c.sweep_once.new.next c.sweep_once.new.i (rw (c.in_ok-settled.was, c.in_default.is) at (c.sweep_once.ensures.value f h))),
      (small.arrays-small.0, (small.arrays-small.0, small.arrays-small.1)),
    )

pub returns-clause-value : goal.returns-clause-value
returns-clause-value c = λ f h.
    let e : c.args.network.now.limit ≡ f.limit = h.limit in
    rw e (here-last f c.loop-k.k c.loop-k.v (c.loop-k.invariant.0 f h) (omega (arith, c.loop-k-test.false)) c.loop-k.v c.loop-k.i)
