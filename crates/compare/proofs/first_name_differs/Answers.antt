-- `compare::first_name_differs` meets its contract: the line of the node rows, or else that of the branch rows, or else that of the regulators' rows. Assumes nothing.
use Rattle.std.specs.Prelude.{◌≡◌, refl, Option, Some, None, ℕ}
use Rattle.std.specs.Option.{option_or}
use mathlib.Core.Path.{◌∙◌}
use Rattle.feeder.specs.Feeder.{or_else}
use Rattle.compare.specs.Compare.{FromNodes, names_differ, node_name_differs, node_scan, row_scan, tap_name_differs, tap_scan}
use Rattle.compare.specs.Tied.{names-tied}
use Rattle.compare.proofs.first_name_differs.Goals as goal
use Rattle.compare.proofs.first_name_differs.Goals.{After-or-2}

-- three searches, the next where one finds nothing
three : (x y z : Option ℕ) → option_or (option_or x y) z ≡ or_else x (or_else y z)
unfolding or_else
three (Some n) y z = refl
three None (Some n) z = refl
three None None z = refl

searched : (c : After-or-2) → c.or-2.result ≡ or_else c.first_node_name.result (or_else c.first_branch_name.result c.first_tap_name.result)
searched c = c.or-2.ensures ∙ (λ i. option_or (c.or.ensures i) c.first_tap_name.result) ∙ three _ _ _

pub returns : goal.returns
returns c = λ f g x t h w r n b p q o u.
    let a = c.args in
    let from : FromNodes g.branches g.rows = rw (r, b) at c.requires in
    searched (goal.at.returns c).After-or-2
    ∙ (λ i. or_else (c.first_node_name.ensures i) (or_else (c.first_branch_name.ensures i) (c.first_tap_name.ensures i)))
    ∙ (λ i. or_else (node_scan (node_name_differs (n i) (p i)) (r i)) (or_else (row_scan (names_differ (n i) (b i) (q i) (o i)) (r i)) (tap_scan (tap_name_differs (n i) (u i)) (b i) (r i) 1 0)))
    ∙ names-tied f g x t h w from
