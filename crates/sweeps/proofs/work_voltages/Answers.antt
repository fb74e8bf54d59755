-- `work_voltages` meets its contract: the pass downward over the arrays of the feeder. Assumes nothing.
use Rattle.sweeps.specs.SweepsLaws.{ready}
use Rattle.sweeps.proofs.work_voltages.Goals as goal

pub downward_pass-requires-clause-ready : goal.downward_pass-requires-clause-ready
downward_pass-requires-clause-ready c = ready c.requires.known
