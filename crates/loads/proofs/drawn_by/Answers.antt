-- `drawn_by` meets its contract: 30 is tested before 31, and the weight is that of the kind as which the row acts. Assumes nothing.
use mathlib.Core.Path.{◌∙◌, ◌≡◌, ap, sym}
use lib.IntN.{ℤ}
use mir.Facts.{to_z-of_z}
use mir.Syntax.{w64}
use mir.Val.{SFits}
use borrow.Author.Rules.{sfits_of}
use Rattle.equations.specs.Equations.{acts_as, beyond, current_at, kind_at, rated, weight}
use Rattle.equations.specs.Limits.{counted-most}
use Rattle.feeder.specs.declared.LoadKind.{LoadKind}
use Rattle.integers.specs.Machine.{zsize}
use Rattle.integers.specs.Pairs.{◌·*◌, rnd_pair}
use Rattle.loads.specs.Loads.{drawn_by, lacks_voltage}
use Rattle.loads.proofs.drawn_by.Goals as goal
use Rattle.loads.proofs.drawn_by.Goals.{After-acts_as-kind, After-current_at-i, After-lacks_voltage, Start}

fits : (s : Start) → SFits w64 s.args.l.vn
fits s = search sfits_of

acts : (c : After-acts_as-kind) → c.acts_as-kind.result ≡ kind_at c.args.l c.args.u
acts c =
    c.acts_as-kind.ensures ∙ ap (λ (v : ℤ). acts_as c.args.l.kind v c.args.u) (to_z-of_z (fits (goal.at.After-acts_as-kind c).Start))

lacks : (c : After-lacks_voltage) → lacks_voltage (kind_at c.args.l c.args.u) c.args.u ≡ c.lacks_voltage.result
lacks c = sym (c.lacks_voltage.ensures ∙ ap (λ (k : LoadKind). lacks_voltage k c.args.u) (acts (goal.at.After-lacks_voltage c).After-acts_as-kind))

taken : (c : After-current_at-i) → c.current_at-i.result ≡ current_at c.args.l c.args.u
unfolding current_at
taken c =
    c.current_at-i.ensures ∙ ap (λ (k : LoadKind). rnd_pair (c.args.u ·* rated c.args.l) (weight k c.args.l.vn c.args.u)) (acts (goal.at.After-current_at-i c).After-acts_as-kind)

pub acts_as-kind-requires : goal.acts_as-kind-requires
acts_as-kind-requires c =
    let f = fits (goal.at.acts_as-kind-requires c).Start in
    record { vn_bound = omega (zsize, counted-most c.requires.load_ok.vn); within = c.requires.within }

pub returns-then-lacks_voltage : goal.returns-then-lacks_voltage
unfolding drawn_by
returns-then-lacks_voltage c = rw (lacks (goal.at.returns-then-lacks_voltage c).After-lacks_voltage ∙ c.if-lacks_voltage.true)

pub current_at-i-requires : goal.current_at-i-requires
current_at-i-requires c =
    record { load_ok = c.requires.load_ok; within = c.requires.within; u_value = sym c.lacks_voltage.ensures ∙ c.if-lacks_voltage.false }

pub returns-then-within : goal.returns-then-within
unfolding drawn_by beyond
returns-then-within c =
    rw (lacks (goal.at.returns-then-within c).After-lacks_voltage ∙ c.if-lacks_voltage.false, ← taken (goal.at.returns-then-within c).After-current_at-i, sym c.within.ensures ∙ c.if-within.true)

pub returns-else-within : goal.returns-else-within
unfolding drawn_by beyond
returns-else-within c =
    rw (lacks (goal.at.returns-else-within c).After-lacks_voltage ∙ c.if-lacks_voltage.false, ← taken (goal.at.returns-else-within c).After-current_at-i, sym c.within.ensures ∙ c.if-within.false)
