-- `programs::read_whole` meets its contract: no read moves more than the room has left. Assumes nothing.
use Rattle.std.proofs.Common.{◌-◌, ◌≡◌, ◌≤◌, length}
use Rattle.programs.proofs.read_whole.Given as goal

abbrev pub invariant-loop-size : goal.invariant-loop-size
invariant-loop-size g l = (l.size ≤ length l.room) × (length l.room ≡ length l.initial.room)

abbrev pub decreases-loop-size : goal.decreases-loop-size
decreases-loop-size g l = length l.room - l.size
