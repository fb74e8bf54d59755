-- `reading::read_phases` meets its contract: 23 and 24 in this order, and then the feeder. Assumes nothing.
use Rattle.std.specs.Prelude.{Ok}
use mathlib.Core.Path.{refl, sym}
use Rattle.answers.specs.declared.Refusal.TheVariants.{NotZero, PhaseAbsent}
use Rattle.feeder.specs.Feeder.{feeder_of}
use Rattle.reading.specs.Laid.{held_in}
use Rattle.reading.specs.Reading.{into-refused, into-same}
use Rattle.feeder.specs.Stages.{from23, from24}
use Rattle.reading.specs.Stages.{goes_on, stopped}
use Rattle.reading.proofs.read_phases.Goals as goal

pub returns-in-Some : goal.returns-in-Some
unfolding from23 from24
returns-in-Some c = λ r t n. into-refused (stopped PhaseAbsent (from24 r) (sym (c.in-Some.ensures r n.branches n.rows n.loads n.count))) refl

pub returns-in-Some-first_not_zero : goal.returns-in-Some-first_not_zero
unfolding from23 from24
returns-in-Some-first_not_zero c = λ r t n.
    into-same (goes_on PhaseAbsent (from24 r) (sym (c.in_default.ensures r n.branches n.rows n.loads n.count)))
    (into-refused (stopped NotZero (Ok (feeder_of r)) (sym (c.in-Some-first_not_zero.ensures r t.branches t.rows))) refl)

pub returns : goal.returns
unfolding from23 from24
returns c = λ r t n.
    into-same (goes_on PhaseAbsent (from24 r) (sym (c.in_default.ensures r n.branches n.rows n.loads n.count)))
    (into-same (goes_on NotZero (Ok (feeder_of r)) (sym (c.in_default-first_not_zero.ensures r t.branches t.rows)))
    (record { answered = (held_in n, c.requires.arranged) }))
