-- `compare::tap_rows::first_tap_differs` meets its contract: at each turn the search from here on is the whole search. Assumes nothing.
use Rattle.std.specs.Prelude.{Some}
use mathlib.Core.Bool.{Bool, not}
use mathlib.Core.List.{List}
use mathlib.Core.Path.{◌∙◌, ap, sym}
use Prim.Native.Nat.{◌≤◌, ℕ}
use native.Mathlib.Omega.{arith}
use Rattle.feeder.specs.declared.Branch.{Branch}
use Rattle.compare.specs.Compare.{tap_moves, tap_scan}
use Rattle.compare.specs.TapRows.{tap-found, tap-other, tap-passed, tap-none}
use Rattle.compare.specs.Tied.{taps-tied}
use Rattle.compare.proofs.tap_rows.first_tap_differs.Goals as goal
use Rattle.compare.proofs.tap_rows.first_tap_differs.Goals.{Start, then-regulates+else-not-stays, else-regulates}

abbrev array : Start → List Branch
array s = s.args.network.now.branches

abbrev bad : Start → ℕ → ℕ → Bool
bad s = tap_moves (array s) s.args.own.now.branches s.args.read.now.voltages s.args.read.now.currents

pub returns-then-not-stays : goal.returns-then-not-stays
returns-then-not-stays c = λ f x t e d q w v i.
    let s = (goal.at.returns-then-not-stays c).Start in
    let a = c.args in
    let l = c.loop-k in
    let h : l.k ≤ a.network.now.rows = omega arith in
    ap Some c.tap_line.ensures ∙ sym (l.invariant.rest ∙ tap-found (bad s) (array s) a.network.now.rows l.k l.j h (sym c.regulates.ensures ∙ c.if-regulates.true) (ap not (sym c.stays.ensures ∙ c.if-not-stays.true))) ∙ (λ j. tap_scan (tap_moves (array s) a.own.now.branches (v j) (i j)) (array s) a.network.now.rows 1 0) ∙ taps-tied f x t a.network.now.rows (array s) a.own.now.branches e d (omega (arith, a.network.now.few_rows)) q w

pub loop-k-preserved : goal.loop-k-preserved
loop-k-preserved c =
    let s = (goal.at.loop-k-preserved c).Start in
    let l = c.loop-k in
    let h : l.k ≤ c.args.network.now.rows = omega arith in
    elim c.if-regulates.branch [ then-regulates+else-not-stays w ↦ rw w.j-is (record { before = omega arith; rest = l.invariant.rest ∙ tap-passed (bad s) (array s) c.args.network.now.rows l.k l.j h (sym c.regulates.ensures ∙ w.if-regulates.true) (ap not (sym w.stays.ensures ∙ w.if-not-stays.false)) }) | else-regulates w ↦ rw w.j-is (record { before = omega arith; rest = l.invariant.rest ∙ tap-other (bad s) (array s) c.args.network.now.rows l.k l.j h (sym c.regulates.ensures ∙ w.if-regulates.false) }) ]

pub returns : goal.returns
returns c = λ f x t e d q w v i.
    let s = (goal.at.returns c).Start in
    let a = c.args in
    sym (c.loop-k.invariant.rest ∙ tap-none (bad s) (array s) a.network.now.rows c.loop-k.k c.loop-k.j (omega arith)) ∙ (λ j. tap_scan (tap_moves (array s) a.own.now.branches (v j) (i j)) (array s) a.network.now.rows 1 0) ∙ taps-tied f x t a.network.now.rows (array s) a.own.now.branches e d (omega (arith, a.network.now.few_rows)) q w
