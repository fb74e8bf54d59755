-- `compare::totals_differ` meets its contract: the losses, then the totals. Assumes nothing.
use mathlib.Core.Bool.{Bool, ◌&&◌, not}
use mathlib.Core.Path.{◌∙◌, ◌≡◌, ap, sym}
use native.Mathlib.Omega.{arith}
use Rattle.integers.specs.Lists.{all, count}
use Rattle.compare.specs.Compare.{losses_same, same_powers, told_powers}
use Rattle.compare.specs.Scans.{equal-powers}
use Rattle.compare.specs.Tied.{totals-tied}
use Rattle.compare.proofs.totals_differ.Goals as goal
use Rattle.compare.proofs.totals_differ.Goals.{After-losses_same}

-- what has to hold, by the answer on the losses
by_losses : (c : After-losses_same) {b : Bool} → let a = c.args in let told = same_powers (told_powers a.read.now.totals) a.powers in
    c.losses_same.result ≡ b → not (b && told) ≡ not (all (losses_same a.read.now.losses a.worked.now) (count 1 a.rows) && told)
by_losses c e = ap (λ (y : Bool). not (y && same_powers (told_powers c.args.read.now.totals) c.args.powers)) (sym e ∙ c.losses_same.ensures)

pub returns-then-not-losses_same : goal.returns-then-not-losses_same
returns-then-not-losses_same c = λ f x t v i w r e d m p q o.
    let a = c.args in
    by_losses (goal.at.returns-then-not-losses_same c).After-losses_same c.if-not-losses_same.true ∙ (λ j. not (all (losses_same (e j) a.worked.now) (count 1 a.rows) && same_powers (told_powers (m j)) a.powers)) ∙ totals-tied f x t w a.rows (omega (arith, c.requires)) r v i a.worked.now a.powers d p q o

pub returns : goal.returns
returns c = λ f x t v i w r e d m p q o.
    let a = c.args in
    c.ne.ensures ∙ ap not (equal-powers _ _ ∙ (λ j. same_powers (record { source = c.pair_at.ensures j; drawn = c.pair_at-2.ensures j; lost = c.pair_at-3.ensures j }) a.powers)) ∙ by_losses (goal.at.returns c).After-losses_same c.if-not-losses_same.false ∙ (λ j. not (all (losses_same (e j) a.worked.now) (count 1 a.rows) && same_powers (told_powers (m j)) a.powers)) ∙ totals-tied f x t w a.rows (omega (arith, c.requires)) r v i a.worked.now a.powers d p q o
