-- `passes::upward_pass` meets its contract: each node holds its own and what the nodes that it feeds and that are done take. Assumes nothing.
use Rattle.std.specs.Prelude.{Bool, cond, false, true, ◌≡◌, ◌+◌, ◌-◌, ℕ, get_or}
use Rattle.std.proofs.Common.{◌∙◌, ap, ap₂, arith, sym}
use Rattle.equations.specs.Equations.{beyond3, plus3, zero3}
use Rattle.equations.specs.Sizes.{beyond3-false, within3-more}
use Rattle.passes.proofs.Gather.{taken}
use Rattle.passes.proofs.Lift.{Fine, all-fine, gathered-all, gathered-beyond, gathered-first, gathered_next}
use Rattle.passes.proofs.upward_pass.Goals as goal
use Rattle.passes.proofs.upward_pass.Goals.{Else-beyond, Else-beyond-2, In-loop-next}

-- the node of a turn
abbrev node : In-loop-next → ℕ
node c = get_or c.args.network.now.order (c.loop-next.next - 1) 0

in-I : (c : Else-beyond) → beyond3 (get_or c.loop-next.at (node (goal.at.Else-beyond c).In-loop-next) zero3) ≡ false
in-I c = sym c.beyond.ensures ∙ c.if-beyond.false

fine : (c : Else-beyond-2) → Fine c.args.network.now.branches c.loop-next.at (node (goal.at.Else-beyond-2 c).In-loop-next)
fine c =
    record { current = in-I (goal.at.Else-beyond-2 c).Else-beyond; taken-there = ap beyond3 (sym c.near_current-j.ensures) ∙ sym c.beyond-in-loop-next.ensures ∙ c.if-beyond-2.false }

pub loop-next-init : goal.loop-next-init
loop-next-init c =
    let z : (c.args.network.now.rows + 1) - 1 ≡ c.args.network.now.rows = omega arith in
    rw z (gathered-first c.args.network.now c.args.at.now c.requires.at_len c.requires.by_index_2 c.requires.by_index)

pub returns-then-beyond-clause-value : goal.returns-then-beyond-clause-value
returns-then-beyond-clause-value c = λ f mine a e.
    gathered-beyond c.requires.ready _ c.loop-next.at (c.loop-next.next - 1) c.loop-next.invariant f mine a e (omega arith) (omega arith)
    (ap (λ (b : Bool). cond b true (beyond3 (taken c.args.network.now.branches c.loop-next.at (node (goal.at.returns-then-beyond-clause-value c).In-loop-next))))
    (sym c.beyond.ensures ∙ c.if-beyond.true))

pub near_current-j-requires-clause-within3 : goal.near_current-j-requires-clause-within3
near_current-j-requires-clause-within3 c = beyond3-false (in-I (goal.at.near_current-j-requires-clause-within3 c).Else-beyond)

pub returns-then-beyond-2-clause-value : goal.returns-then-beyond-2-clause-value
returns-then-beyond-2-clause-value c = λ f mine a e.
    gathered-beyond c.requires.ready _ c.loop-next.at (c.loop-next.next - 1) c.loop-next.invariant f mine a e (omega arith) (omega arith)
    (ap₂ (λ (b d : Bool). cond b true d) (in-I (goal.at.returns-then-beyond-2-clause-value c).Else-beyond)
    (ap beyond3 (sym c.near_current-j.ensures) ∙ sym c.beyond-in-loop-next.ensures ∙ c.if-beyond-2.true))

pub plus-requires-clause-within3_2 : goal.plus-requires-clause-within3_2
plus-requires-clause-within3_2 c =
    let f = fine (goal.at.plus-requires-clause-within3_2 c).Else-beyond-2 in
    rw c.near_current-j.ensures (within3-more {m = 2000000} (beyond3-false f.taken-there) tt)

pub loop-next-preserved : goal.loop-next-preserved
loop-next-preserved c =
    gathered_next c.requires.ready _ c.loop-next.at (c.loop-next.next - 1) c.loop-next.invariant (omega arith) (omega arith) (fine (goal.at.loop-next-preserved c).Else-beyond-2) _
    (c.plus.ensures ∙ ap (plus3 _) c.near_current-j.ensures)

pub returns-clause-value : goal.returns-clause-value
returns-clause-value c = λ f mine a e. gathered-all c.requires.ready _ c.loop-next.at (c.loop-next.next - 1) c.loop-next.invariant (omega arith) f mine a e

pub returns-clause-rows : goal.returns-clause-rows
returns-clause-rows c = λ j p q. beyond3-false (all-fine c.requires.ready _ c.loop-next.at (c.loop-next.next - 1) c.loop-next.invariant (omega arith) j p q).current
