-- `still` meets its contract: every row before k has been seen not to move. Assumes nothing.
use Rattle.std.specs.Prelude.{◌+◌}
use Rattle.std.proofs.Common.{sym, ◌∙◌, arith}
use Rattle.integers.specs.ListLaws.{true-count}
use Rattle.iteration.specs.Runs.{still_at}
use Rattle.iteration.proofs.RunLaws.{one-moved}
use Rattle.iteration.proofs.still.Goals as goal

pub returns-then-not-close : goal.returns-then-not-close
returns-then-not-close c =
    sym (one-moved (still_at c.args.tol c.args.v.now c.args.w.now) c.args.rows c.loop-k.k (omega arith) (omega arith) (sym c.close.ensures ∙ c.if-not-close.true))

pub returns : goal.returns
returns c =
    sym (true-count (still_at c.args.tol c.args.v.now c.args.w.now) 1 c.args.rows (λ i q. c.loop-k.invariant (1 + i) (omega arith) (omega arith)))
