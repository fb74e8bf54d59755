-- `reading::read_reached` meets its contract: 22, and what follows where every node has a place. Assumes nothing.
use mathlib.Core.List.{List}
use mathlib.Core.Path.{◌∙◌, ◌≡◌, ap, refl, sym}
use lib.ListN.{get_or}
use Rattle.answers.specs.declared.Refusal.TheVariants.{NotReached}
use Rattle.feeder.specs.Feeder.{no_branch, not_reached}
use Rattle.feeder.specs.Layout.{Rows}
use Rattle.feeder.specs.declared.Branch.{Branch}
use Rattle.names.specs.NumberedLaws.{parent-at}
use Rattle.radial.specs.First.{all_placed, lost-is-not-reached}
use Rattle.reading.specs.Laid.{arranged}
use Rattle.reading.specs.Reading.{Numbered, into-refused, into-same}
use Rattle.feeder.specs.Stages.{from22, from23}
use Rattle.reading.specs.Stages.{goes_on, stopped}
use Rattle.reading.proofs.read_reached.Goals as goal
use Rattle.reading.proofs.read_reached.Goals.{After-first_not_reached}

-- 22
lost-is : (c : After-first_not_reached) (r : Rows) → Numbered r c.args.network.now → c.first_not_reached.result ≡ not_reached r
lost-is c r n =
    let g = c.args.network.now in
    c.first_not_reached.ensures ∙ lost-is-not-reached r g.branches g.rows
    (λ k. ap (λ (l : List Branch). (get_or l k no_branch).from) n.branches ∙ sym (parent-at r g.rows n.rows g.few_rows k)) n.rows

pub returns-in-Some : goal.returns-in-Some
unfolding from22
returns-in-Some c = λ r t n. into-refused (stopped NotReached (from23 r) (sym (lost-is (goal.at.returns-in-Some c).After-first_not_reached r n) ∙ c.in-Some.is)) refl

pub read_phases-requires-clause-arranged : goal.read_phases-requires-clause-arranged
read_phases-requires-clause-arranged c = arranged c.order_of-order.ensures (all_placed _ _ _ c.order_of-order.ensures (sym c.in_default.ensures))

pub returns : goal.returns
unfolding from22
returns c = λ r t n.
    into-same (goes_on NotReached (from23 r) (sym (lost-is (goal.at.returns c).After-first_not_reached r n) ∙ c.in_default.is))
    (c.read_phases.ensures r t (record { source = n.source; tol = n.tol; limit = n.limit; rows = n.rows; nodes = n.nodes; branches = n.branches; count = n.count; loads = n.loads }))
