-- `arrays::clear_threes` meets its contract: the used places are filled with zero, and behind them stands zero. Assumes nothing.
use Rattle.std.specs.Prelude.{◌≡◌, List, ◌++◌, ◌+◌, drop, length, replicate, take}
use Rattle.std.proofs.Common.{◌∙◌, ap, arith, length-take-le, rules, sym}
use Rattle.std.proofs.lemmas.List.{take-replicate}
use Rattle.arrays.specs.ArrayLaws.{spare-blank}
use Rattle.arrays.proofs.Agreeing.{stored}
use Rattle.arrays.proofs.clear_threes.Goals as goal
use Rattle.feeder.specs.Network.{no_three}
use Rattle.feeder.specs.Phased.{Three}

pub returns : goal.returns
returns c =
    let l = c.args.threes.now in
    let k = c.args.rows + 1 in
    let filled : c.fill.new.self ≡ replicate (length (take k l)) no_three = c.fill.ensures.after (λ y h. search rules) in
    let long : length (take k l) ≡ k = length-take-le k l (omega arith) in
    ap (λ (front : List Three). front ++ drop k l) (filled ∙ rw long (sym (take-replicate k 201 no_three (omega arith))))
    ∙ stored c.args.rows l (replicate 201 no_three) c.requires.spare (spare-blank c.args.rows)
