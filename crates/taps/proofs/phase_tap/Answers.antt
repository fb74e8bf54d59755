-- `phase_tap` meets its contract. Assumes nothing.
use Rattle.equations.specs.Limits.{relay-within}
use Rattle.taps.proofs.phase_tap.Goals as goal

pub moved_tap-requires-clause-seen : goal.moved_tap-requires-clause-seen
moved_tap-requires-clause-seen c =
    record { level = c.requires.level_bound; band = c.requires.relay_ok.band; within = rw c.relay_voltage-r.ensures (relay-within c.requires.relay_ok c.requires.within c.requires.within_2) }
