-- `weigh` meets its contract: each arm is the definition at the kind that was matched. Assumes nothing.
use mathlib.Core.Path.{◌∙◌, ◌≡◌, ap, sym}
use Prim.Native.Nat.{◌*◌}
use native.Mathlib.Nat.{mul-le-mul}
use native.Mathlib.Omega.{arith}
use lib.IntN.{nat_abs}
use Rattle.equations.specs.Equations.{weight}
use Rattle.equations.specs.Limits.{root-most}
use Rattle.feeder.specs.declared.LoadKind.{LoadKind}
use Rattle.integers.specs.Machine.{abs-read}
use Rattle.integers.specs.Pairs.{square}
use Rattle.integers.specs.Root.{root}
use Rattle.loads.proofs.weigh.Goals as goal
use Rattle.loads.proofs.weigh.Goals.{After-root-m, After-size-k, Start}

arm : (s : Start) {k : LoadKind} → s.args.kind ≡ k → weight k s.args.vn s.args.u ≡ weight s.args.kind s.args.vn s.args.u
arm s e = sym (ap (λ (k : LoadKind). weight k s.args.vn s.args.u) e)

rooted : (c : After-root-m) → c.root-m.result.root ≡ root (square c.args.u)
rooted c = c.root-m.ensures.root ∙ ap root c.square-n.ensures

sized : (c : After-size-k) → c.size-k.result ≡ nat_abs c.args.vn
sized c = c.size-k.ensures ∙ abs-read c.ranges.vn

pub overflow_mul-result : goal.overflow_mul-result
overflow_mul-result c =
    record { fits = rw (rooted (goal.at.overflow_mul-result c).After-root-m, sized c) (omega (arith, mul-le-mul (root-most c.requires.within) c.requires.vn_bound)) }

pub overflow_mul-result-in-Impedance : goal.overflow_mul-result-in-Impedance
overflow_mul-result-in-Impedance c =
    record { fits = rw (c.size-k-in-Impedance.ensures ∙ abs-read c.ranges.vn) (omega (arith, mul-le-mul c.requires.vn_bound c.requires.vn_bound)) }

pub returns-in-Power : goal.returns-in-Power
unfolding weight
returns-in-Power c = c.square.ensures ∙ arm (goal.at.returns-in-Power c).Start c.in-Power.is

pub returns-in-Current : goal.returns-in-Current
unfolding weight
returns-in-Current c =
    (λ i. rooted (goal.at.returns-in-Current c).After-root-m i * sized c i) ∙ arm (goal.at.returns-in-Current c).Start c.in-Current.is

pub returns-in-Impedance : goal.returns-in-Impedance
unfolding weight
returns-in-Impedance c =
    let e = c.size-k-in-Impedance.ensures ∙ abs-read c.ranges.vn in
    (λ i. e i * e i) ∙ arm (goal.at.returns-in-Impedance c).Start c.in-Impedance.is
