-- `find` meets its contract: the slot holds no place behind the first that has the name. Assumes nothing.
use mathlib.Core.Path.{sym}
use native.Mathlib.Omega.{arith}
use borrow.Author.Rules.{rules}
use Rattle.names.specs.Slots.{place_found}
use Rattle.names.proofs.find.Goals as goal

pub returns-then-name-there : goal.returns-then-name-there
returns-then-name-there c =
    let a = c.args in
    place_found a.name a.nodes.now a.n (omega arith) a.slots.now c.wide-guess.result (search rules) (rw (sym c.slot_of.ensures) c.wide-guess.ensures) (omega arith) (search rules)
