-- `threes::spread` meets its contract: signs of size at most 1 leave room for each product. Assumes nothing.
use mir.Syntax.{w64}
use mir.Val.{SFits}
use borrow.Author.Rules.{rules, sfits_of}
use Rattle.equations.specs.Equations.{sign_at}
use Rattle.integers.specs.Pairs.{scaled}
use Rattle.devices.proofs.Phased.{each-of}
use Rattle.devices.proofs.SignRead.{leaves}
use Rattle.devices.proofs.threes.spread.Goals as goal
use Rattle.devices.proofs.threes.spread.Goals.{Start}

fits : (s : Start) → SFits w64 s.args.s.a × SFits w64 s.args.s.b × SFits w64 s.args.s.c
fits s = search sfits_of

pub map-requires-clause-a : goal.map-requires-clause-a
map-requires-clause-a c = λ κs p e r u v. leaves c.args.s.a (fits (goal.at.map-requires-clause-a c).Start).0 c.requires.signs_ok.a c.requires.within

pub map-requires-clause-b : goal.map-requires-clause-b
map-requires-clause-b c = λ κs p e r u v. leaves c.args.s.b (fits (goal.at.map-requires-clause-b c).Start).1 c.requires.signs_ok.b c.requires.within

pub map-requires-clause-c : goal.map-requires-clause-c
map-requires-clause-c c = λ κs p e r u v. leaves c.args.s.c (fits (goal.at.map-requires-clause-c c).Start).2 c.requires.signs_ok.c c.requires.within

pub returns : goal.returns
returns c = each-of (λ p. scaled (sign_at c.args.s p) c.args.x) (search rules) (search rules) (search rules)
