-- `whole::root` meets its contract. The invariant: `Rooting`, with as many digits to come as steps, and no more steps than digits. Assumes nothing.
use mathlib.Core.Path.{◌≡◌}
use Prim.Native.Nat.{suc, ◌+◌, ◌-◌}
use native.Mathlib.Nat.{sub-zero}
use native.Mathlib.Omega.{arith}
use Rattle.integers.proofs.RootSteps.{Rooting, next-room, rooting-end, rooting-one, rooting-start, rooting-zero}
use Rattle.integers.proofs.whole.root.Goals as goal
use Rattle.integers.proofs.whole.root.Goals.{In-loop-steps, then-trial-left, else-trial-left}

pub loop-steps-init : goal.loop-steps-init
loop-steps-init c =
    let d = c.root_digits-digits.ensures in
    (omega arith, rw (sub-zero c.root_digits-digits.result) (rooting-start _ _ _ d.digits d.few c.first_place_squared-square.ensures))

-- in the loop at least one digit is to come
going : (c : In-loop-steps) → let l = c.loop-steps in Rooting c.args.n (suc (c.root_digits-digits.result - (l.steps + 1))) l.square l.trial l.left
going c =
    let l = c.loop-steps in
    let e : c.root_digits-digits.result - l.steps ≡ suc (c.root_digits-digits.result - (l.steps + 1)) = omega (arith, c.loop-steps-test.true) in
    rw e at l.invariant.1

pub overflow_add-trial : goal.overflow_add-trial
overflow_add-trial c = record { fits = (next-room (going (goal.at.overflow_add-trial c).In-loop-steps)).1 }

pub loop-steps-preserved : goal.loop-steps-preserved
loop-steps-preserved c =
    let g = going (goal.at.loop-steps-preserved c).In-loop-steps in (
      omega (arith, c.loop-steps-test.true),
      elim c.if-trial-left.branch [ then-trial-left w ↦ rw (w.trial-is, w.left-is) (rooting-one g (omega (arith, w.if-trial-left.true))) | else-trial-left w ↦ rw (w.trial-is, w.left-is) (rooting-zero g (omega (arith, w.if-trial-left.false))) ],
    )

pub returns : goal.returns
returns c =
    let l = c.loop-steps in
    let d = c.root_digits-digits in
    let e : d.result - l.steps ≡ 0 = omega arith in
    record { root = rooting-end (rw e at l.invariant.1); steps = omega (arith, l.invariant.0, d.ensures.digits) }
