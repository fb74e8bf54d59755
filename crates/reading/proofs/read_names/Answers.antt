-- `reading::read_names` meets its contract: the numbers of the nodes, 20 and 21 in this order, and what follows. Assumes nothing.
use mathlib.Core.List.{List}
use mathlib.Core.Path.{◌∙◌, ◌≡◌, ap, refl, sym}
use lib.IntN.{nat_abs, ℤ}
use borrow.Author.Rules.{rules}
use Rattle.answers.specs.declared.Refusal.TheVariants.{SecondTo, UnknownFrom}
use Rattle.feeder.specs.Feeder.{second_to, three_at, unknown_from}
use Rattle.feeder.specs.Layout.{Rows}
use Rattle.feeder.specs.Network.{Tabled}
use Rattle.integers.specs.Machine.{read}
use Rattle.names.specs.Numbered.{branches_in}
use Rattle.names.specs.NumberedLaws.{from-known}
use Rattle.text.specs.Lines.{nth}
use Rattle.reading.specs.Laid.{branches-are, loads-are}
use Rattle.reading.specs.Reading.{into-refused, into-same}
use Rattle.feeder.specs.Stages.{from20, from21, from22}
use Rattle.reading.specs.Stages.{goes_on, stopped}
use Rattle.reading.proofs.read_names.Goals as goal
use Rattle.reading.proofs.read_names.Goals.{After-first_second_to, After-first_unknown_from}

-- the branches by the numbers of their nodes
numbered : (c : After-first_unknown_from) (r : Rows) → Tabled r c.args.tables.now → c.number_branches.new.branches ≡ branches_in r
numbered c r t = branches-are t c.requires.stored.few-rows (c.name_nodes.ensures r t) (c.number_branches.ensures r t.branches t.rows c.requires.branches_value)

-- 20 and 21
unknown-is : (c : After-first_unknown_from) (r : Rows) → Tabled r c.args.tables.now → c.first_unknown_from.result ≡ unknown_from r
unknown-is c r t = c.first_unknown_from.ensures r (numbered c r t) t.rows

second_is : (c : After-first_second_to) (r : Rows) → Tabled r c.args.tables.now → c.first_second_to.result ≡ second_to r
second_is c r t = c.first_second_to.ensures r (c.name_nodes.ensures r t) t.rows

pub returns-in-Some : goal.returns-in-Some
unfolding from20 from21
returns-in-Some c = λ r t. into-refused (stopped UnknownFrom (from21 r) (sym (unknown-is (goal.at.returns-in-Some c).After-first_unknown_from r t) ∙ c.in-Some.is)) refl

pub returns-in-Some-first_second_to : goal.returns-in-Some-first_second_to
unfolding from20 from21
returns-in-Some-first_second_to c = λ r t.
    into-same (goes_on UnknownFrom (from21 r) (sym (unknown-is (goal.at.returns-in-Some-first_second_to c).After-first_unknown_from r t) ∙ c.in_default.is))
    (into-refused (stopped SecondTo (from22 r) (sym (second_is (goal.at.returns-in-Some-first_second_to c).After-first_second_to r t) ∙ c.in-Some-first_second_to.is)) refl)

pub read_reached-requires-clause-by_index : goal.read_reached-requires-clause-by_index
read_reached-requires-clause-by_index c = λ k.
    let p = (goal.at.read_reached-requires-clause-by_index c).After-first_unknown_from in
    let h = c.requires.stored in
    rw (numbered p h.read h.tabled) (from-known h.read c.args.tables.now.rows h.tabled.rows h.few-rows (sym (unknown-is p h.read h.tabled) ∙ c.in_default.is) k)

pub returns : goal.returns
unfolding from20 from21
returns c = λ r t.
    let p = (goal.at.returns c).After-first_unknown_from in
    let names = c.name_nodes.ensures r t in
    let given = c.args.tables.now.given in
    let seventh : read (nth given 7) ≡ nth given 7 = search rules in
    let eighth : read (nth given 8) ≡ nth given 8 = search rules in
    into-same (goes_on UnknownFrom (from21 r) (sym (unknown-is p r t) ∙ c.in_default.is))
    (into-same (goes_on SecondTo (from22 r) (sym (second_is (goal.at.returns c).After-first_second_to r t) ∙ c.in_default-first_second_to.is))
    (c.read_reached.ensures r t
    (record {
      source = c.three_at-network.ensures ∙ ap (λ (l : List ℤ). three_at l 1) t.given;
      tol = c.size-network.ensures ∙ ap nat_abs (seventh ∙ ap (λ (l : List ℤ). nth l 7) t.given);
      limit = c.size.ensures ∙ ap nat_abs (eighth ∙ ap (λ (l : List ℤ). nth l 8) t.given);
      rows = t.rows;
      nodes = names;
      branches = numbered p r t;
      count = t.count;
      loads = loads-are t c.requires.stored.few-rows names (c.number_loads_among.ensures r t.loads t.count c.requires.loads_value);
    })))
