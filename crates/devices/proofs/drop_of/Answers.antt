-- `drop_of` meets its contract: each arm is the definition at the device that was matched. Assumes nothing.
use mathlib.Core.Path.{◌∙◌, ◌≡◌, ap, sym}
use Rattle.equations.specs.Equations.{drop_of}
use Rattle.feeder.specs.declared.Device.{Device}
use Rattle.devices.proofs.drop_of.Goals as goal
use Rattle.devices.proofs.drop_of.Goals.{Start}

-- an arm's answer, at the device that was matched
arm : (s : Start) {e : Device} → s.args.d ≡ e → drop_of e s.args.i ≡ drop_of s.args.d s.args.i
arm s q = sym (ap (λ (e : Device). drop_of e s.args.i) q)

pub line_drop-requires : goal.line_drop-requires
line_drop-requires c = record { line_ok = rw c.in-Line.is at c.requires.device_ok; within3 = c.requires.within3 }

pub winding_drop-requires : goal.winding_drop-requires
winding_drop-requires c = record { windings_ok = rw c.in-Transformer.is at c.requires.device_ok; within3 = c.requires.within3 }

pub returns-in-Line : goal.returns-in-Line
returns-in-Line c = c.line_drop.ensures ∙ arm (goal.at.returns-in-Line c).Start c.in-Line.is

pub returns-in-Regulator : goal.returns-in-Regulator
unfolding drop_of
returns-in-Regulator c = arm (goal.at.returns-in-Regulator c).Start c.in-Regulator.is

pub returns-in-Transformer : goal.returns-in-Transformer
returns-in-Transformer c = c.winding_drop.ensures ∙ arm (goal.at.returns-in-Transformer c).Start c.in-Transformer.is
