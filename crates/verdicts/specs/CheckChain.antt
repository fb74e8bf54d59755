-- The check from each of its tests on, behind the report's layout. Assumes nothing.
use Rattle.std.specs.Prelude.{Bool, false, true, ◌≡◌, refl, ℕ, Option, Some, None, Ok}
use Rattle.answers.specs.Answers.{Done, Outcome, ◌>>◌, done, refuse_at, refuse_if}
use Rattle.answers.specs.declared.Refusal.{Refusal}
use Rattle.answers.specs.declared.Refusal.TheVariants.{CurrentBeyond, CurrentDiffers, LoadBeyond, NameDiffers, SourceDiffers, TapDiffers, TotalDiffers, VoltageOff, ZeroVoltage}
use Rattle.compare.specs.Differences.{current_differs, name_differs, source_differs, tap_differs, total_differs}
use Rattle.equations.specs.Equations.{current_beyond, load_beyond, voltages, zero_voltage}
use Rattle.feeder.specs.Feeder.{Feeder}
use Rattle.report.specs.Report.{Reported, reported_voltages, with_reported}
use Rattle.verdicts.specs.Check.{compared, voltage_off}
use Rattle.verdicts.specs.ReportFaults.{worked_currents}

-- `last` comes behind 55
unfoldable pub from55 : Outcome Done → Feeder → Reported → Outcome Done
from55 last f x = refuse_if (total_differs f x (reported_voltages x) (worked_currents f x)) TotalDiffers >> last

unfoldable pub from54 : Outcome Done → Feeder → Reported → Outcome Done
from54 last f x = refuse_at VoltageOff (voltage_off f x (voltages f (worked_currents f x))) >> from55 last f x

unfoldable pub from53 : Outcome Done → Feeder → Reported → Outcome Done
from53 last f x = refuse_at CurrentDiffers (current_differs f x (worked_currents f x)) >> from54 last f x

unfoldable pub from30 : Outcome Done → Feeder → Reported → Outcome Done
from30 last f x =
    refuse_if (zero_voltage f (reported_voltages x)) (ZeroVoltage 0) >> (refuse_if (load_beyond f (reported_voltages x)) (LoadBeyond 0) >> (refuse_if (current_beyond f (worked_currents f x)) (CurrentBeyond 0) >> from53 last f x))

unfoldable pub from52 : Outcome Done → Feeder → Reported → Outcome Done
from52 last f x = refuse_at SourceDiffers (source_differs f x) >> from30 last f x

unfoldable pub from51 : Outcome Done → Feeder → Reported → Outcome Done
from51 last f x = refuse_at NameDiffers (name_differs f x) >> from52 last f x

-- 56, of the feeder as it was filed
unfoldable pub from56 : Feeder → Reported → Outcome Done
from56 f x = refuse_at TapDiffers (tap_differs f x) >> Ok done

-- what comes behind a test of several comes behind the last of them
after-at : (r : ℕ → Refusal) (l : Option ℕ) (o last : Outcome Done) → ((refuse_at r l >> o) >> last) ≡ (refuse_at r l >> (o >> last))
after-at r (Some n) o last = refl
after-at r None o last = refl

after-if : (c : Bool) (r : Refusal) (o last : Outcome Done) → ((refuse_if c r >> o) >> last) ≡ (refuse_if c r >> (o >> last))
after-if true r o last = refl
after-if false r o last = refl

pub compared-then : (last : Outcome Done) (f : Feeder) (x : Reported) → (compared f x >> last) ≡ from51 last f x
unfolding compared from51 from52 from30 from53 from54 from55
compared-then last f x = simp (after-at, after-if)

pub compared_is : (f : Feeder) (x : Reported) → compared f x ≡ from51 (Ok done) f x
unfolding compared from51 from52 from30 from53 from54 from55
compared_is f x = refl

-- all that comes behind the report's layout
pub checked-then : (f : Feeder) (x : Reported) → (compared (with_reported f x) x >> (refuse_at TapDiffers (tap_differs f x) >> Ok done)) ≡ from51 (from56 f x) (with_reported f x) x
unfolding from56
checked-then f x = compared-then (from56 f x) (with_reported f x) x
