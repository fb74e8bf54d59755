-- `deviations::compare_pass` meets its contract: a node that is marked below one that is not is off below none. Assumes nothing.
use mathlib.Core.Path.{◌∙◌}
use Rattle.deviations.specs.Marked.{marked-off}
use Rattle.deviations.proofs.compare_pass.Goals as goal

pub returns : goal.returns
returns c =
    let m = c.mark_off-off in
    let e = c.args in
    λ f a s. c.first_marked.ensures ∙ marked-off f e.network.now.branches e.network.now.rows e.i.now e.reported.now e.network.now.tol m.result a.rows_are m.ensures.source (m.ensures.value f a s)
