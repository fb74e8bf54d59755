-- `through` meets its contract: each arm is the definition at the device that was matched. Assumes nothing.
use mathlib.Core.Path.{◌∙◌, ◌≡◌, ap, sym}
use Rattle.equations.specs.Equations.{through_of}
use Rattle.feeder.specs.declared.Device.{Device}
use Rattle.devices.proofs.through.Goals as goal
use Rattle.devices.proofs.through.Goals.{Start}

-- an arm's answer, at the device that was matched
arm : (s : Start) {e : Device} → s.args.d ≡ e → through_of e s.args.u ≡ through_of s.args.d s.args.u
arm s q = sym (ap (λ (e : Device). through_of e s.args.u) q)

pub regulated-requires : goal.regulated-requires
regulated-requires c = record { changer_ok = rw c.in-Regulator.is at c.requires.device_ok; within3 = c.requires.within3 }

pub voltage_through-requires : goal.voltage_through-requires
voltage_through-requires c = record { windings_ok = rw c.in-Transformer.is at c.requires.device_ok; within3 = c.requires.within3 }

pub returns-in-Line : goal.returns-in-Line
unfolding through_of
returns-in-Line c = arm (goal.at.returns-in-Line c).Start c.in-Line.is

pub returns-in-Regulator : goal.returns-in-Regulator
returns-in-Regulator c = c.regulated.ensures ∙ arm (goal.at.returns-in-Regulator c).Start c.in-Regulator.is

pub returns-in-Transformer : goal.returns-in-Transformer
returns-in-Transformer c = c.voltage_through.ensures ∙ arm (goal.at.returns-in-Transformer c).Start c.in-Transformer.is
