-- `compare::first_current_differs` meets its contract: the arrays hold the reported and the worked currents. Assumes nothing.
use mathlib.Core.Path.{◌∙◌}
use native.Mathlib.Omega.{arith}
use Rattle.compare.specs.Tied.{current-tied}
use Rattle.compare.proofs.first_current_differs.Goals as goal

pub returns : goal.returns
returns c = λ f x t i w r e d.
    let a = c.args in
    c.first_three_differs.ensures ∙ current-tied f x t w a.rows (omega (arith, c.requires)) r i a.reported.now a.worked.now e d
