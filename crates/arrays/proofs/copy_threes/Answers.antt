-- `arrays::copy_threes` meets its contract: the used places hold what the other array holds, and behind them stands zero. Assumes nothing.
use Rattle.std.specs.Prelude.{List, ◌++◌, ◌+◌, drop}
use Rattle.std.proofs.Common.{◌∙◌, ap}
use Rattle.arrays.proofs.Agreeing.{stored}
use Rattle.arrays.proofs.copy_threes.Goals as goal
use Rattle.feeder.specs.Phased.{Three}

pub returns : goal.returns
returns c =
    let a = c.args in
    ap (λ (front : List Three). front ++ drop (a.rows + 1) a.to.now) c.copy_from_slice.ensures.after
    ∙ stored a.rows a.to.now a.from.now c.requires.spare_2 c.requires.spare
