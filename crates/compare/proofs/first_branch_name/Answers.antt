-- `compare::first_branch_name` meets its contract: no row passed has other names. Assumes nothing.
use Rattle.std.specs.Prelude.{Some}
use mathlib.Core.Bool.{Bool, ◌&&◌, not, true}
use mathlib.Core.Path.{◌≡◌, ap, ap₂, sym}
use Prim.Native.Nat.{◌+◌, suc}
use native.Mathlib.Omega.{arith}
use lib.Dec.{eqb}
use lib.ListN.{get_or}
use borrow.Author.Tests.{eq-eqb, ne_eqb}
use Rattle.feeder.specs.RowLaws.{none_rows}
use Rattle.compare.specs.Compare.{names_differ, row_scan}
use Rattle.compare.specs.Scans.{first-row}
use Rattle.compare.proofs.first_branch_name.Goals as goal
use Rattle.compare.proofs.first_branch_name.Goals.{In-loop-k, then-froms-k-via-then-froms-k, then-froms-k-via-else-froms-k+then-tos-k}

-- the rows passed are fine, and row k is not
found : (c : In-loop-k) → let a = c.args in let l = c.loop-k in
    names_differ a.network.now.nodes a.network.now.branches a.froms.now a.tos.now l.k ≡ true →
    Some (a.network.now.rows + 4 + l.k) ≡ row_scan (names_differ a.network.now.nodes a.network.now.branches a.froms.now a.tos.now) a.network.now.rows
found c e =
    let l = c.loop-k in
    let a = c.args in
    sym (first-row (names_differ a.network.now.nodes a.network.now.branches a.froms.now a.tos.now) (a.network.now.rows + 4) a.network.now.rows l.k (omega arith) (omega arith) (λ j z q. l.invariant j q z) e)

pub returns-then-froms-k : goal.returns-then-froms-k
returns-then-froms-k c =
    let l = c.loop-k in
    let a = c.args in
    let at = goal.at.returns-then-froms-k c in
    elim c.then-froms-k.branch [ then-froms-k-via-then-froms-k w ↦ found at.In-loop-k (ap (λ (b : Bool). not (b && eqb (get_or a.tos.now l.k 0) (get_or a.network.now.nodes l.k 0))) (ne_eqb _ _ w.if-froms-k.true)) | then-froms-k-via-else-froms-k+then-tos-k w ↦ found at.In-loop-k (ap₂ (λ (b d : Bool). not (b && d)) (eq-eqb _ _ w.if-froms-k.false) (ne_eqb _ _ w.if-tos-k.true)) ]

pub returns : goal.returns
returns c =
    let a = c.args in
    sym (none_rows (names_differ a.network.now.nodes a.network.now.branches a.froms.now a.tos.now) (a.network.now.rows + 4) a.network.now.rows (λ j q. c.loop-k.invariant (suc j) (omega arith) (omega arith)))
