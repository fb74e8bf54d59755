-- `current_at` meets its contract: the quotient is that of the definition, and its divisor is above 0. Assumes nothing.
use mathlib.Core.Path.{◌∙◌, ◌≡◌, ap, ap₂}
use native.Mathlib.Omega.{arith}
use lib.IntN.{ℤ}
use mir.Facts.{to_z-of_z}
use mir.Syntax.{w64}
use mir.Val.{SFits}
use borrow.Author.Rules.{sfits_of}
use Rattle.equations.specs.Equations.{rated, weight}
use Rattle.equations.specs.Limits.{counted-most, counted-some, rated-within, weight-most}
use Rattle.equations.specs.Weight.{weight-pos}
use Rattle.integers.specs.Machine.{zsize}
use Rattle.integers.specs.PairLaws.{Within, room, within_more}
use Rattle.integers.specs.Pairs.{◌·*◌, rnd_pair}
use Rattle.integers.specs.declared.Pair.{Pair}
use Rattle.loads.proofs.current_at.Goals as goal
use Rattle.loads.proofs.current_at.Goals.{After-scale-s, After-weigh-w, Start}

fits : (s : Start) → SFits w64 s.args.l.vn
fits s = search sfits_of

weighed : (c : After-weigh-w) → c.weigh-w.result ≡ weight c.args.kind c.args.l.vn c.args.u
weighed c =
    c.weigh-w.ensures ∙ ap (λ (v : ℤ). weight c.args.kind v c.args.u) (to_z-of_z (fits (goal.at.After-weigh-w c).Start))

rating : (c : After-scale-s) → c.scale-s.result ≡ rated c.args.l
unfolding rated
rating c = c.scale-s.ensures

pub weigh-w-requires : goal.weigh-w-requires
weigh-w-requires c =
    let f = fits (goal.at.weigh-w-requires c).Start in
    record { vn_bound = omega (zsize, counted-most c.requires.load_ok.vn); within = c.requires.within }

pub scale-s-requires : goal.scale-s-requires
unfolding rated
scale-s-requires c = within_more (rated-within c.requires.load_ok) tt

pub mul_conj-n-requires : goal.mul_conj-n-requires
mul_conj-n-requires c =
    let h = c.requires.within in
    let k : Within 300000000000 c.scale-s.result = rw (rating c) (rated-within c.requires.load_ok) in
    search room

pub round-requires : goal.round-requires
round-requires c =
    let e = weighed (goal.at.round-requires c).After-weigh-w in record { d_nonzero = rw e (weight-pos c.args.kind c.args.l.vn c.args.u (counted-some c.requires.load_ok.vn) c.requires.u_value); d_bound = omega (arith, e, weight-most c.args.kind c.args.l.vn (counted-most c.requires.load_ok.vn) c.requires.within) }

pub returns : goal.returns
returns c =
    c.round.ensures ∙ ap₂ rnd_pair (c.mul_conj-n.ensures ∙ ap (λ (x : Pair). c.args.u ·* x) (rating (goal.at.returns c).After-scale-s)) (weighed (goal.at.returns c).After-weigh-w)
