-- `faults::first_load_absent` meets its contract: what the definition gives at the first row it gives at row i + 1. Assumes nothing.
use Rattle.std.specs.Prelude.{Some}
use mathlib.Core.Bool.{not}
use mathlib.Core.Path.{◌∙◌, ◌≡◌, ap, refl, sym}
use Prim.Native.Nat.{◌+◌}
use native.Mathlib.Omega.{arith}
use borrow.Author.Rules.{rules}
use lib.ListN.{get_or, length}
use Rattle.feeder.specs.Feeder.{all_of, stands_on}
use Rattle.feeder.specs.Network.{no_load}
use Rattle.names.specs.Numbered.{load_absent}
use Rattle.names.specs.NumberedLaws.{load-unknown}
use Rattle.names.specs.Rest.{first-end, first-here, first_next}
use Rattle.names.proofs.faults.first_load_absent.Goals as goal
use Rattle.names.proofs.faults.first_load_absent.Goals.{After-has_phases}

pub loop-i-init : goal.loop-i-init
loop-i-init c = refl

pub returns-then-network-l : goal.returns-then-network-l
returns-then-network-l c = λ past.
    let a = c.args in
    let l = c.loop-i in
    let long : length a.network.now.loads ≡ 300 = search rules in
    let bs = a.network.now.branches in
    let ls = a.network.now.loads in
    let line : (a.network.now.rows + 7) + l.i ≡ (a.network.now.rows + 6) + (l.i + 1) = omega arith in
    ap Some line
    ∙ sym (l.invariant ∙ first-here (load_absent bs) (a.network.now.rows + 6) (l.i + 1) no_load ls a.network.now.count l.i (rw long (omega arith)) (omega arith) (load-unknown bs (l.i + 1) (get_or ls l.i no_load) (omega arith) (past _ (omega arith))))

-- the test at the load's node is that of the definition
tested : (c : After-has_phases) →
    let a = c.args in
    let i = c.loop-i.i in
    load_absent a.network.now.branches (i + 1) (get_or a.network.now.loads i no_load) ≡ not c.has_phases.result
unfolding load_absent
tested c =
    let l = get_or c.args.network.now.loads c.loop-i.i no_load in
    ap not (sym (c.has_phases.ensures ∙ ap (all_of (stands_on l.phase)) c.node_phases-there.ensures))

pub returns-then-not-has_phases : goal.returns-then-not-has_phases
returns-then-not-has_phases c = λ past.
    let a = c.args in
    let l = c.loop-i in
    let long : length a.network.now.loads ≡ 300 = search rules in
    let ls = a.network.now.loads in
    let line : (a.network.now.rows + 7) + l.i ≡ (a.network.now.rows + 6) + (l.i + 1) = omega arith in
    ap Some line
    ∙ sym (l.invariant ∙ first-here (load_absent a.network.now.branches) (a.network.now.rows + 6) (l.i + 1) no_load ls a.network.now.count l.i (rw long (omega arith)) (omega arith) (tested (goal.at.returns-then-not-has_phases c).After-has_phases ∙ ap not c.if-not-has_phases.true))

pub loop-i-preserved : goal.loop-i-preserved
loop-i-preserved c =
    let a = c.args in
    let l = c.loop-i in
    let long : length a.network.now.loads ≡ 300 = search rules in
    l.invariant ∙ first_next (load_absent a.network.now.branches) (a.network.now.rows + 6) (l.i + 1) no_load a.network.now.loads a.network.now.count l.i (rw long (omega arith)) (omega arith) (tested (goal.at.loop-i-preserved c).After-has_phases ∙ ap not c.if-not-has_phases.false)

pub returns : goal.returns
returns c = λ past.
    let a = c.args in
    let l = c.loop-i in
    sym (l.invariant ∙ first-end (load_absent a.network.now.branches) (a.network.now.rows + 6) (l.i + 1) a.network.now.loads a.network.now.count l.i (omega arith))
