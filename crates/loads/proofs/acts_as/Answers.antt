-- `acts_as` meets its contract: its test is that of the definition, and both sides of it fit. Assumes nothing.
use Rattle.std.proofs.Common.{◌∙◌, ◌≡◌, ⊎_elim, ap, sym}
use Prim.Native.Nat.{◌*◌, ◌≤◌}
use native.Mathlib.Nat.{mul-le-mul}
use native.Mathlib.Omega.{arith}
use lib.IntN.{nat_abs}
use Rattle.equations.specs.Equations.{acts_as}
use Rattle.equations.specs.Limits.{square-most}
use Rattle.equations.proofs.LowVoltage.{acts-high, acts-low}
use Rattle.feeder.specs.declared.LoadKind.{LoadKind}
use Rattle.integers.specs.Machine.{abs-read}
use Rattle.loads.proofs.acts_as.Goals as goal
use Rattle.loads.proofs.acts_as.Goals.{After-size-k, Start}

arm : (s : Start) {k : LoadKind} → s.args.kind ≡ k → acts_as k s.args.vn s.args.u ≡ acts_as s.args.kind s.args.vn s.args.u
arm s e = sym (ap (λ (k : LoadKind). acts_as k s.args.vn s.args.u) e)

sized : (c : After-size-k) → c.size-k.result ≡ nat_abs c.args.vn
sized c = c.size-k.ensures ∙ abs-read c.ranges.vn

most : (c : After-size-k) → c.size-k.result * c.size-k.result ≤ 16000000000000
most c =
    let h : c.size-k.result ≤ 4000000 = rw (sized c) c.requires.vn_bound in
    mul-le-mul h h

pub overflow_mul-n : goal.overflow_mul-n
overflow_mul-n c = record { fits = omega (arith, c.square-n.ensures, square-most c.requires.within) }

pub overflow_mul-k : goal.overflow_mul-k
overflow_mul-k c = record { fits = omega (arith, most c) }

pub overflow_mul-k-in-Power : goal.overflow_mul-k-in-Power
overflow_mul-k-in-Power c = record { fits = omega (arith, most c) }

pub returns-then-n-k : goal.returns-then-n-k
returns-then-n-k c =
    sym (acts-low c.args.vn c.args.u (rw (c.square-n.ensures, sized (goal.at.returns-then-n-k c).After-size-k) at c.if-n-k.true)) ∙ arm (goal.at.returns-then-n-k c).Start c.in-Power.is

pub returns-else-n-k : goal.returns-else-n-k
returns-else-n-k c =
    sym (acts-high c.args.vn c.args.u (rw (c.square-n.ensures, sized (goal.at.returns-else-n-k c).After-size-k) at c.if-n-k.false)) ∙ arm (goal.at.returns-else-n-k c).Start c.in-Power.is

pub returns-in-Current : goal.returns-in-Current
unfolding acts_as
returns-in-Current c =
    let s = (goal.at.returns-in-Current c).Start in
    ⊎_elim (λ e. e ∙ arm s e) (λ e. e ∙ arm s e) c.in-Current.is
