-- `current_through` meets its contract, with the signs of its connection. Assumes nothing.
use mathlib.Core.Path.{◌∙◌}
use lib.IntN.{nat_abs}
use borrow.Author.Rules.{rules}
use Rattle.equations.specs.Equations.{each, mix, row_at, taken_of}
use Rattle.equations.specs.Sizes.{MatrixOk, table-ok, within3-more}
use Rattle.integers.specs.Pairs.{rnd_pair, scaled}
use Rattle.devices.proofs.current_through.Goals as goal

pub turned-requires : goal.turned-requires
turned-requires c =
    let o : MatrixOk c.signs_of-s.result.voltage × MatrixOk c.signs_of-s.result.current = rw c.signs_of-s.ensures (table-ok c.args.t.connection) in
    record { matrix_ok = search rules; windings_ok = c.requires.windings_ok; within3 = within3-more c.requires.within3 tt }

pub returns : goal.returns
unfolding taken_of
returns c =
    c.turned.ensures ∙ (λ i. each (λ p. rnd_pair (scaled c.args.t.m (mix (row_at (c.signs_of-s.ensures i).current p) c.args.i)) (nat_abs c.args.t.n)))
