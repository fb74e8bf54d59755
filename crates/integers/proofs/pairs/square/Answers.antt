-- `pairs::square` meets its contract: part by part. Assumes nothing.
use mathlib.Core.Path.{◌≡◌, ap, ◌∙◌}
use Prim.Native.Nat.{◌+◌, ◌*◌}
use lib.IntN.{nat_abs}
use mir.Facts.{to_z-of_z}
use borrow.Author.Rules.{sfits_of}
use Rattle.integers.specs.Pairs.{square}
use Rattle.integers.specs.PairLaws.{Fits}
use Rattle.integers.proofs.pairs.square.Goals as goal
use Rattle.integers.proofs.pairs.square.Goals.{After-size-p, After-size-q, Start}

fits : (s : Start) → Fits s.args.x
fits s = search sfits_of

first : (c : After-size-p) → c.size-p.result ≡ nat_abs c.args.x.re
first c = c.size-p.ensures ∙ ap nat_abs (to_z-of_z (fits (goal.at.After-size-p c).Start).re)

second : (c : After-size-q) → c.size-q.result ≡ nat_abs c.args.x.im
second c = c.size-q.ensures ∙ ap nat_abs (to_z-of_z (fits (goal.at.After-size-q c).Start).im)

pub returns : goal.returns
unfolding square
returns c = λ i. first (goal.at.returns c).After-size-p i * first (goal.at.returns c).After-size-p i + second c i * second c i
