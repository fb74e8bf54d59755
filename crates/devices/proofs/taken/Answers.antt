-- `taken` meets its contract: each arm is the definition at the device that was matched. Assumes nothing.
use mathlib.Core.Path.{◌∙◌, ◌≡◌, ap, sym}
use Rattle.equations.specs.Equations.{taken_of, through_of}
use Rattle.equations.specs.Sizes.{within3-more}
use Rattle.feeder.specs.declared.Device.{Device}
use Rattle.devices.proofs.taken.Goals as goal
use Rattle.devices.proofs.taken.Goals.{Start}

-- an arm's answer, at the device that was matched
arm : (s : Start) {e : Device} → s.args.d ≡ e → taken_of e s.args.i ≡ taken_of s.args.d s.args.i
arm s q = sym (ap (λ (e : Device). taken_of e s.args.i) q)

pub regulated-requires : goal.regulated-requires
regulated-requires c = record { changer_ok = rw c.in-Regulator.is at c.requires.device_ok; within3 = within3-more c.requires.within3 tt }

pub current_through-requires : goal.current_through-requires
current_through-requires c = record { windings_ok = rw c.in-Transformer.is at c.requires.device_ok; within3 = c.requires.within3 }

pub returns-in-Line : goal.returns-in-Line
unfolding taken_of
returns-in-Line c = arm (goal.at.returns-in-Line c).Start c.in-Line.is

pub returns-in-Regulator : goal.returns-in-Regulator
unfolding through_of taken_of
returns-in-Regulator c = c.regulated.ensures ∙ arm (goal.at.returns-in-Regulator c).Start c.in-Regulator.is

pub returns-in-Transformer : goal.returns-in-Transformer
returns-in-Transformer c = c.current_through.ensures ∙ arm (goal.at.returns-in-Transformer c).Start c.in-Transformer.is
