-- `limits::all_between` meets its contract: the columns are tested one after the other. Assumes nothing.
use mathlib.Core.Path.{◌≡◌, ap, sym, ◌∙◌}
use native.Mathlib.Omega.{arith}
use mir.Facts.{to_z-of_z}
use borrow.Author.Rules.{rules}
use Rattle.feeder.specs.Feeder.{between}
use Rattle.integers.specs.Machine.{read}
use Rattle.text.specs.Lines.{nth}
use Rattle.limits.specs.Columns.{all_between, hold-ends, hold-fails, hold-next, hold-none}
use Rattle.limits.proofs.all_between.Goals as goal
use Rattle.limits.proofs.all_between.Goals.{After-between, At-loop-j, Start}

abbrev head : After-between → At-loop-j
head c = (goal.at.After-between c).At-loop-j

tested : (c : After-between)
    → let s = (head c).before.args in c.between.result ≡ between (read s.lo) (read s.hi) (nth s.p.now (head c).loop-j.j)
tested c =
    let s = (head c).before.args in
    let z : read (nth s.p.now (head c).loop-j.j) ≡ nth s.p.now (head c).loop-j.j = search rules in
    c.between.ensures ∙ ap (between (read s.lo) (read s.hi)) z

-- lo and hi are read as they are given
given : (c : Start) → let s = c.args in
    all_between (read s.lo) (read s.hi) s.p.now s.first s.last ≡ all_between s.lo s.hi s.p.now s.first s.last
given c = λ i. all_between (to_z-of_z c.ranges.lo i) (to_z-of_z c.ranges.hi i) c.args.p.now c.args.first c.args.last

pub loop-j-init : goal.loop-j-init
loop-j-init c = hold-none _ _ _

pub returns-then-not-between : goal.returns-then-not-between
unfolding all_between
returns-then-not-between c = hold-fails (head (goal.at.returns-then-not-between c).After-between).loop-j.invariant (omega arith) (sym (tested (goal.at.returns-then-not-between c).After-between) ∙ c.if-not-between.true) ∙ given (head (goal.at.returns-then-not-between c).After-between).before

pub loop-j-preserved : goal.loop-j-preserved
loop-j-preserved c = hold-next (head (goal.at.loop-j-preserved c).After-between).loop-j.invariant (omega arith) (sym (tested (goal.at.loop-j-preserved c).After-between) ∙ c.if-not-between.false)

pub returns : goal.returns
unfolding all_between
returns c = hold-ends c.loop-j.invariant (omega arith) ∙ given (goal.at.returns c).Start
