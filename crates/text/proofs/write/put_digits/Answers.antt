-- `text::write::put_digits` meets its contract: at each turn the digits of what is left, written in front of those that stand, are the whole. Assumes nothing.
use mathlib.Core.Path.{sym, ap}
use mathlib.Core.List.{[], ◌∷◌}
use Prim.Native.Nat.{ℕ, ◌+◌, ◌<◌, ◌≤◌}
use native.Mathlib.Omega.{arith}
use Rattle.text.specs.Text.{digits}
use Rattle.text.specs.TextLaws.{digits-one, digits-last, digits-going, digits-front}
use Rattle.text.specs.Stores.{Unwritten, unwritten-last}
use Rattle.text.proofs.write.put_digits.Goals as goal
use Rattle.text.proofs.write.put_digits.Goals.{After-loop-i}

pub loop-i-preserved : goal.loop-i-preserved
loop-i-preserved c =
    let i = c.loop-i.invariant in
    let g : 10 ≤ c.loop-i.left = digits-going _ (omega (arith, i.unwritten.ends)) in
    record { below = omega arith; unwritten = unwritten-last _ _ (rw (digits-front _ g i.below) at i.unwritten) }

-- behind the loop one digit is left
last : (c : After-loop-i) → c.loop-i.left < 10
last c = digits-last _ (omega (arith, c.loop-i.invariant.unwritten.ends))

one : (c : After-loop-i) →
    let a = c.args in
    let o = c.loop-i in
    Unwritten a.out.now a.at (digits 20 a.n) o.i ((48 + o.left) ∷ []) o.out
one c = rw (digits-one 20 _ (omega arith) (last c)) at c.loop-i.invariant.unwritten

pub overflow_cast-out-2 : goal.overflow_cast-out-2
overflow_cast-out-2 c = omega (arith, last (goal.at.overflow_cast-out-2 c).After-loop-i)

pub overflow_add-out-2 : goal.overflow_add-out-2
overflow_add-out-2 c = omega (arith, last (goal.at.overflow_add-out-2 c).After-loop-i)

pub bounds-out-at : goal.bounds-out-at
bounds-out-at c = let u = one (goal.at.bounds-out-at c).After-loop-i in omega (arith, u.ends, u.room)

pub returns : goal.returns
returns c = record { next = ap (λ (k : ℕ). c.args.at + k) c.digits_width.ensures; holds = sym (one (goal.at.returns c).After-loop-i).left }
