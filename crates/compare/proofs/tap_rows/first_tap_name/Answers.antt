-- `compare::tap_rows::first_tap_name` meets its contract: at each turn the search from here on is the whole search. Assumes nothing.
use Rattle.std.specs.Prelude.{Some}
use borrow.Author.Tests.{eq-eqb, ne_eqb}
use mathlib.Core.Bool.{Bool, not}
use mathlib.Core.List.{List}
use mathlib.Core.Path.{◌∙◌, ◌≡◌, ap, sym}
use Prim.Native.Nat.{◌+◌, ◌-◌, ◌≤◌, ℕ}
use native.Mathlib.Omega.{arith}
use Rattle.feeder.specs.declared.Branch.{Branch}
use Rattle.compare.specs.Compare.{tap_name_differs}
use Rattle.compare.specs.TapRows.{tap-found, tap-other, tap-passed, tap-none}
use Rattle.compare.proofs.tap_rows.first_tap_name.Goals as goal
use Rattle.compare.proofs.tap_rows.first_tap_name.Goals.{Start, then-regulates+else-tap_names-j, else-regulates}

abbrev array : Start → List Branch
array s = s.args.network.now.branches

abbrev bad : Start → ℕ → ℕ → Bool
bad s = tap_name_differs s.args.network.now.nodes s.args.tap_names.now

pub returns-then-tap_names-j : goal.returns-then-tap_names-j
returns-then-tap_names-j c =
    let s = (goal.at.returns-then-tap_names-j c).Start in
    let l = c.loop-k in
    let z : l.j + 1 - 1 ≡ l.j = omega arith in
    let h : l.k ≤ c.args.network.now.rows = omega arith in
    ap Some c.tap_line.ensures ∙ sym (l.invariant.rest ∙ tap-found (bad s) (array s) c.args.network.now.rows l.k l.j h (sym c.regulates.ensures ∙ c.if-regulates.true) (rw z (ap not (ne_eqb _ _ c.if-tap_names-j.true))))

pub loop-k-preserved : goal.loop-k-preserved
loop-k-preserved c =
    let s = (goal.at.loop-k-preserved c).Start in
    let l = c.loop-k in
    let z : l.j + 1 - 1 ≡ l.j = omega arith in
    let h : l.k ≤ c.args.network.now.rows = omega arith in
    elim c.if-regulates.branch [ then-regulates+else-tap_names-j w ↦ rw w.j-is (record { before = omega arith; rest = l.invariant.rest ∙ tap-passed (bad s) (array s) c.args.network.now.rows l.k l.j h (sym c.regulates.ensures ∙ w.if-regulates.true) (rw z (ap not (eq-eqb _ _ w.if-tap_names-j.false))) }) | else-regulates w ↦ rw w.j-is (record { before = omega arith; rest = l.invariant.rest ∙ tap-other (bad s) (array s) c.args.network.now.rows l.k l.j h (sym c.regulates.ensures ∙ w.if-regulates.false) }) ]

pub returns : goal.returns
returns c =
    let s = (goal.at.returns c).Start in
    sym (c.loop-k.invariant.rest ∙ tap-none (bad s) (array s) c.args.network.now.rows c.loop-k.k c.loop-k.j (omega arith))
