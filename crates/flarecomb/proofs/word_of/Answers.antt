-- `word_of` meets its contract: neither product and neither sum wraps. Assumes nothing.
use Rattle.std.proofs.Common.{arith}
use Rattle.flarecomb.specs.Words.{word}
use Rattle.flarecomb.proofs.word_of.Goals as goal

pub returns : goal.returns
unfolding word
returns c = omega arith
