-- The reading from each of its tests on, and which refusals it can have. Assumes nothing.
use Rattle.std.specs.Prelude.{List, ◌≡◌, refl, ℕ, Some, Ok}
use Rattle.answers.specs.Answers.{Outcome, ◌>>=◌, ◌>>◌, refuse_at, refuse_if}
use Rattle.answers.specs.Only.{Only, after-only, at_only, good-only}
use Rattle.answers.specs.declared.Refusal.{Refusal}
use Rattle.answers.specs.declared.Refusal.TheVariants.{NotReached, NotZero, OutOfLimit, PhaseAbsent, SecondTo, TooLong, UnknownFrom}
use Rattle.feeder.specs.Feeder.{Feeder, feeder_of, not_reached, not_zero, out_of_limit, phase_absent, reading, second_to, too_long, unknown_from}
use Rattle.feeder.specs.Layout.{Rows, layout}

unfoldable pub from24 : Rows → Outcome Feeder
from24 r = refuse_at NotZero (not_zero r) >> Ok (feeder_of r)

unfoldable pub from23 : Rows → Outcome Feeder
from23 r = refuse_at PhaseAbsent (phase_absent r) >> from24 r

unfoldable pub from22 : Rows → Outcome Feeder
from22 r = refuse_at NotReached (not_reached r) >> from23 r

unfoldable pub from21 : Rows → Outcome Feeder
from21 r = refuse_at SecondTo (second_to r) >> from22 r

unfoldable pub from20 : Rows → Outcome Feeder
from20 r = refuse_at UnknownFrom (unknown_from r) >> from21 r

unfoldable pub from11 : Rows → Outcome Feeder
from11 r = refuse_at OutOfLimit (out_of_limit r) >> from20 r

pub reading-is : (s : List ℕ) → reading s ≡ (refuse_if (too_long s) TooLong >> (layout s >>= from11))
unfolding reading from11 from20 from21 from22 from23 from24
reading-is s = refl

-- the refusals behind the layout
pub tests-only : {P : Refusal → Type 0} (r : Rows) → ((n : ℕ) → out_of_limit r ≡ Some n → P (OutOfLimit n)) → ((n : ℕ) → unknown_from r ≡ Some n → P (UnknownFrom n)) → ((n : ℕ) → second_to r ≡ Some n → P (SecondTo n))
    → ((n : ℕ) → not_reached r ≡ Some n → P (NotReached n)) → ((n : ℕ) → phase_absent r ≡ Some n → P (PhaseAbsent n)) → ((n : ℕ) → not_zero r ≡ Some n → P (NotZero n)) → Only P (from11 r)
unfolding from11 from20 from21 from22 from23 from24
tests-only r h11 h20 h21 h22 h23 h24 =
    after-only _ (from20 r) (at_only (out_of_limit r) OutOfLimit h11)
    (after-only _ (from21 r) (at_only (unknown_from r) UnknownFrom h20)
    (after-only _ (from22 r) (at_only (second_to r) SecondTo h21)
    (after-only _ (from23 r) (at_only (not_reached r) NotReached h22)
    (after-only _ (from24 r) (at_only (phase_absent r) PhaseAbsent h23)
    (after-only _ (Ok (feeder_of r)) (at_only (not_zero r) NotZero h24) (good-only (feeder_of r)))))))
