-- `faults::first_branch_absent` meets its contract: what the definition gives at the first row it gives at row k. Assumes nothing.
use mathlib.Core.Path.{◌∙◌, ◌≡◌, ap, refl, sym}
use Prim.Native.Nat.{◌+◌}
use native.Mathlib.Omega.{arith}
use borrow.Author.Rules.{rules}
use lib.ListN.{get_or, length}
use Rattle.feeder.specs.Feeder.{all_of, no_branch}
use Rattle.feeder.specs.Phased.{Phases}
use Rattle.names.specs.Numbered.{branch_absent, phases_in}
use Rattle.names.specs.Rest.{first-end, first-here, first_next}
use Rattle.names.proofs.faults.first_branch_absent.Goals as goal
use Rattle.names.proofs.faults.first_branch_absent.Goals.{After-all_of, then-not-all_of-via-then-not-all_of, then-not-all_of-via-else-not-all_of+then-not-three_phase}

pub loop-k-init : goal.loop-k-init
loop-k-init c = refl

-- the phases at the from-node are those of the definition
there : (c : After-all_of) →
    let bs = c.args.network.now.branches in
    let row = get_or bs c.loop-k.k no_branch in
    all_of row.phases (phases_in bs row.from) ≡ c.all_of.result
there c =
    let row = get_or c.args.network.now.branches c.loop-k.k no_branch in
    sym (c.all_of.ensures ∙ ap (λ (f : Phases). all_of row.phases f) c.node_phases-there.ensures)

-- one of the two tests fails
pub returns-then-not-all_of : goal.returns-then-not-all_of
unfolding branch_absent
returns-then-not-all_of c =
    let a = c.args in
    let l = c.loop-k in
    let long : length a.network.now.branches ≡ 201 = search rules in
    let here = there (goal.at.returns-then-not-all_of c).After-all_of in
    sym
    (l.invariant
    ∙ first-here (branch_absent a.network.now.branches) 4 l.k no_branch a.network.now.branches (a.network.now.rows + 1) l.k (rw long (omega arith)) (omega arith)
    (elim c.then-not-all_of.branch [
      | then-not-all_of-via-then-not-all_of w ↦ rw (here ∙ w.if-not-all_of.true)
      | then-not-all_of-via-else-not-all_of+then-not-three_phase w ↦ rw (here ∙ w.if-not-all_of.false, sym w.three_phase.ensures ∙ w.if-not-three_phase.true)
    ]))

pub loop-k-preserved : goal.loop-k-preserved
unfolding branch_absent
loop-k-preserved c =
    let a = c.args in
    let l = c.loop-k in
    let long : length a.network.now.branches ≡ 201 = search rules in
    l.invariant ∙ first_next (branch_absent a.network.now.branches) 4 l.k no_branch a.network.now.branches (a.network.now.rows + 1) l.k (rw long (omega arith)) (omega arith) (rw (there (goal.at.loop-k-preserved c).After-all_of ∙ c.if-not-all_of.false, sym c.three_phase.ensures ∙ c.if-not-three_phase.false))

pub returns : goal.returns
returns c =
    let a = c.args in
    let l = c.loop-k in
    sym (l.invariant ∙ first-end (branch_absent a.network.now.branches) 4 l.k a.network.now.branches (a.network.now.rows + 1) l.k (omega arith))
