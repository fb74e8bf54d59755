-- The check (01, 02): in its order, 9 to 24, 50 to 52, 30 to 32, 53 to 56. Assumes nothing.
use Rattle.std.specs.Prelude.{Bool, ◌&&◌, cond, false, not, true, List, ℕ, get_or, Option, Ok, Err}
use Rattle.answers.specs.Answers.{Done, Outcome, Told, ◌>>=◌, ◌>>◌, done, number_of, refuse_at, refuse_if, value_of}
use Rattle.answers.specs.declared.Refusal.TheVariants.{CurrentBeyond, CurrentDiffers, LoadBeyond, NameDiffers, SourceDiffers, TapDiffers, TooLong, TotalDiffers, VoltageOff, ZeroVoltage}
use Rattle.compare.specs.Differences.{current_differs, first_node, name_differs, source_differs, tap_differs, total_differs}
use Rattle.equations.specs.Equations.{at, current_beyond, currents, downward, load_beyond, voltages, zero3, zero_voltage}
use Rattle.feeder.specs.Feeder.{Feeder, abc, parent, reading, row_count, too_long}
use Rattle.feeder.specs.Phased.{Three}
use Rattle.integers.specs.Lists.{all}
use Rattle.integers.specs.Pairs.{close}
use Rattle.report.specs.Report.{Reported, report_of, reported_voltages, with_reported}

-- 54: "the voltages worked downward from the source with those I, each step from the worked voltage above it, differ from the reported
-- ones by at most tol in re and im". Of the nodes that are off, the first that is fed through none that is
unfoldable pub off : Feeder → Reported → List Three → ℕ → Bool
off f r u k = not (all (λ p. close f.tol (at (get_or u k zero3) p) (at (get_or (reported_voltages r) k zero3) p)) abc)

unfoldable pub below_off : Feeder → Reported → List Three → ℕ → Bool
below_off f r u k = downward (λ m b. cond (off f r u (parent f m)) true b) false (parent f) (row_count f) k

unfoldable pub voltage_off : Feeder → Reported → List Three → Option ℕ
voltage_off f r u = first_node f (λ k. off f r u k && not (below_off f r u k))

-- a report against its feeder: "The check goes 9 to 24, 50 to 52, 30 to 32 (returning 0; I and J worked from the load currents at the reported V), then 53 to 55;
-- 53 compares with those worked I"
unfoldable pub compared : Feeder → Reported → Outcome Done
compared f r =
    let v : List Three = reported_voltages r in
    let i : List Three = currents f v in
    do
      refuse_at NameDiffers (name_differs f r)
      refuse_at SourceDiffers (source_differs f r)
      refuse_if (zero_voltage f v) (ZeroVoltage 0)
      refuse_if (load_beyond f v) (LoadBeyond 0)
      refuse_if (current_beyond f i) (CurrentBeyond 0)
      refuse_at CurrentDiffers (current_differs f r i)
      refuse_at VoltageOff (voltage_off f r (voltages f i))
      refuse_if (total_differs f r v i) TotalDiffers
      Ok done

-- "It passes exactly when" nothing is refused. 02: "The check reads taps from there, compares everything else for those taps, and tests that no phase can and
-- wants to move": 56 comes after 55
unfoldable pub checked : List ℕ → List ℕ → Outcome Done
checked s t = do
  refuse_if (too_long t) TooLong
  f ← reading s
  r ← report_of f t
  compared (with_reported f r) r
  refuse_at TapDiffers (tap_differs f r)
  Ok done

-- ---- the number and the value of each case: a pass has 0 and 0
abbrev pub check_number : Outcome Done → ℕ
check_number (Ok d) = 0
check_number (Err x) = number_of x

abbrev pub check_value : Outcome Done → ℕ
check_value (Ok d) = 0
check_value (Err x) = value_of x

-- an answer that tells the number and the value of the outcome o
abbrev pub CheckTold : Outcome Done → Outcome Done → Type 0
CheckTold o v = Told (λ d. 0) o (check_number v) (check_value v)
