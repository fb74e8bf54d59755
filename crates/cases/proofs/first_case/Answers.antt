-- The line is what stands before the two texts. Assumes nothing.
use Rattle.std.proofs.Common.{rules}
use Rattle.std.proofs.lemmas.List.{append_assoc}
use Rattle.cases.proofs.first_case.Goals as goal

pub returns : goal.returns
returns c = (c.split_at.result.0.now, search (rules, append_assoc), search rules)
