-- `limits::voltages_in` meets its contract: the six numbers are tested one after the other. Assumes nothing.
use mathlib.Core.Path.{◌≡◌, ap, sym, ◌∙◌}
use native.Mathlib.Omega.{arith}
use borrow.Author.Rules.{rules}
use lib.IntN.{pos}
use lib.ListN.{length, take}
use Rattle.integers.specs.Machine.{read}
use Rattle.integers.specs.Lists.{all, count}
use Rattle.integers.specs.Pairs.{inside}
use Rattle.text.specs.Lines.{nth}
use Rattle.limits.specs.Columns.{hold-ends, hold-fails, hold-next, hold-none, all_take, voltage_at}
use Rattle.limits.proofs.voltages_in.Goals as goal
use Rattle.limits.proofs.voltages_in.Goals.{After-inside, At-loop-j, Start}

abbrev head : After-inside → At-loop-j
head c = (goal.at.After-inside c).At-loop-j

tested : (c : After-inside) → c.inside.result ≡ voltage_at (head c).before.args.given.now (head c).loop-j.j
tested c =
    let z : read (nth c.args.given.now c.loop-j.j) ≡ nth c.args.given.now c.loop-j.j = search rules in
    c.inside.ensures ∙ ap (inside 2000000) z

six : (c : Start) → all (inside 2000000) (take 6 c.args.given.now) ≡ all (voltage_at c.args.given.now) (count 1 6)
six c = let e : length c.args.given.now ≡ 8 = search rules in all_take (inside 2000000) (pos 0) c.args.given.now 6 (omega arith)

pub loop-j-init : goal.loop-j-init
loop-j-init c = hold-none _ 1 6

pub returns-then-not-inside : goal.returns-then-not-inside
returns-then-not-inside c = hold-fails (head (goal.at.returns-then-not-inside c).After-inside).loop-j.invariant (omega arith) (sym (tested (goal.at.returns-then-not-inside c).After-inside) ∙ c.if-not-inside.true) ∙ sym (six (goal.at.returns-then-not-inside c).Start)

pub loop-j-preserved : goal.loop-j-preserved
loop-j-preserved c = hold-next (head (goal.at.loop-j-preserved c).After-inside).loop-j.invariant (omega arith) (sym (tested (goal.at.loop-j-preserved c).After-inside) ∙ c.if-not-inside.false)

pub returns : goal.returns
returns c = hold-ends c.loop-j.invariant (omega arith) ∙ sym (six (goal.at.returns c).Start)
