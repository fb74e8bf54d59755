-- `move_taps` meets its contract: the rows before k have moved. Assumes nothing.
use Rattle.std.specs.Prelude.{cond, set, true, ◌≡◌, ◌+◌}
use Rattle.std.proofs.Common.{ap, arith, refl}
use Rattle.rounds.specs.Moving.{Moving, moved-any, moved-array, moving-next}
use Rattle.rounds.proofs.move_taps.Goals as goal
use Rattle.rounds.proofs.move_taps.Goals.{then-now, else-now}

pub loop-k-preserved : goal.loop-k-preserved
loop-k-preserved c =
    let either : c.if-now.changed ≡ cond c.move_row-now.result true c.loop-k.changed = elim c.if-now.branch [
      | then-now w ↦ rw (w.changed-is, w.if-now.true) refl
      | else-now w ↦ rw (w.changed-is, w.if-now.false) refl
    ] in
    moving-next c.loop-k.k c.args.branches.now c.loop-k.branches (set c.loop-k.branches c.loop-k.k c.move_row-now.new.b) c.args.v.now c.args.i.now c.loop-k.changed c.move_row-now.result c.if-now.changed
    (omega arith) (omega (arith, c.told-branches, c.requires.rows_bound, c.loop-k-test.true)) c.move_row-now.ensures.any (ap (set c.loop-k.branches c.loop-k.k) c.move_row-now.ensures.row) either c.loop-k.invariant

pub returns : goal.returns
returns c = λ g e r.
    let w : Moving (c.args.rows + 1) c.args.branches.now c.loop-k.branches c.args.v.now c.args.i.now c.loop-k.changed =
    (let z : c.loop-k.k ≡ c.args.rows + 1 = omega arith in rw z at c.loop-k.invariant) in
    (moved-any g c.args.rows _ _ _ _ _ e r c.requires.rows_bound w, moved-array g c.args.rows _ _ _ _ _ e r c.requires.rows_bound w)
