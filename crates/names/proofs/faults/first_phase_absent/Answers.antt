-- `faults::first_phase_absent` meets its contract: the branches' line, or else the loads'. Assumes nothing.
use Rattle.std.specs.Prelude.{Option, ℕ}
use mathlib.Core.Path.{◌∙◌, ap, sym}
use Prim.Native.Nat.{◌+◌}
use native.Mathlib.Omega.{arith}
use lib.ListN.{take}
use Rattle.feeder.specs.Feeder.{first_row, or_else}
use Rattle.names.specs.Numbered.{load_absent}
use Rattle.names.specs.NumberedLaws.{none-past, phase-absent}
use Rattle.names.proofs.faults.first_phase_absent.Goals as goal

pub returns-in-Some : goal.returns-in-Some
unfolding or_else
returns-in-Some c = λ r e n f m.
    let a = c.args in
    let bs = a.network.now.branches in
    let ls = a.network.now.loads in
    sym (ap (λ (x : Option ℕ). or_else x (first_row (load_absent bs) (a.network.now.rows + 6) 1 (take a.network.now.count ls))) (sym c.first_branch_absent.ensures ∙ c.in-Some.is))
    ∙ phase-absent r a.network.now.rows n (omega arith) a.network.now.count m (omega arith) bs ls e f

pub returns-in-None : goal.returns-in-None
unfolding or_else
returns-in-None c = λ r e n f m.
    let a = c.args in
    let bs = a.network.now.branches in
    let ls = a.network.now.loads in
    c.first_load_absent.ensures (λ k h. rw e (none-past r a.network.now.rows n (omega arith) k h))
    ∙ sym (ap (λ (x : Option ℕ). or_else x (first_row (load_absent bs) (a.network.now.rows + 6) 1 (take a.network.now.count ls))) (sym c.first_branch_absent.ensures ∙ c.in-None.is))
    ∙ phase-absent r a.network.now.rows n (omega arith) a.network.now.count m (omega arith) bs ls e f
