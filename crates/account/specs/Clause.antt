-- What an account gives for the very feeder and report that two texts are read as, both bounds with twice the difference; the rating of a P row on both sides of
-- 70 per cent; and the allowance of one line, one regulator, one transformer, one P load and one load between two phases worked by hand. An account that gives
-- less, another rating of a P row, and an allowance with another value at one of these five, are refused here. The allowance elsewhere, its sum over the rows and
-- the difference are not: crate trials has their values for whole texts. Assumes nothing.
use Rattle.std.specs.Prelude.{false, true, List, [], ◌∷◌, ◌≡◌, refl, ◌*◌, ◌<◌, ◌≤◌, ℕ, nat_abs, negsuc, pos, ℤ, Ok}
use Rattle.std.proofs.Common.{◌∙◌, ap, subst, sym}
use Rattle.account.specs.Account.{PowerAccount, allowance, branch_allowance, difference, load_allowance, over, rating, rating_of}
use Rattle.answers.specs.AnswerLaws.{same_good}
use Rattle.equations.specs.Equations.{acts_as, current_at, load_current, mix, rated, voltage_on, weight, zero3}
use Rattle.equations.proofs.LowVoltage.{acts-high, acts-low, as_impedance, motor}
use Rattle.feeder.specs.Feeder.{Feeder, no_taps, reading}
use Rattle.feeder.specs.declared.Connection.TheVariants.{Wye}
use Rattle.feeder.specs.declared.Device.TheVariants.{Line, Regulator, Transformer}
use Rattle.feeder.specs.declared.Load.{Load}
use Rattle.feeder.specs.declared.LoadKind.TheVariants.{Power}
use Rattle.feeder.specs.Phased.{Phases, Three}
use Rattle.feeder.specs.declared.Terminals.TheVariants.{AB, OnA}
use Rattle.integers.specs.Lists.{csum, nsum}
use Rattle.integers.specs.Pairs.{0c, ◌+c◌, ◌·*◌, abs, rnd_pair, scaled, square}
use Rattle.integers.specs.Rounding.{near, rnd}
use Rattle.integers.specs.declared.Pair.{Pair}
use Rattle.report.specs.Report.{Reported, report_of, with_reported}

-- ---- the account is one of the very feeder and report that the texts are read as: real and reactive, twice the difference is at most the allowance
pub of-read : (s t : List ℕ) (f : Feeder) (r : Reported) → reading s ≡ Ok f → report_of f t ≡ Ok r → PowerAccount s t
    → (2 * nat_abs (difference (with_reported f r) r).re ≤ allowance (with_reported f r) r) × (2 * nat_abs (difference (with_reported f r) r).im ≤ allowance (with_reported f r) r)
of-read s t f r h k a =
    let same-feeder : a.feeder ≡ f = same_good _ _ (sym a.feeder-read ∙ h) in
    let same-report : a.report ≡ r = same_good _ _ (sym a.report-read ∙ (ap (λ g. report_of g t) same-feeder ∙ k)) in (
      subst (λ g. 2 * nat_abs (difference (with_reported g r) r).re ≤ allowance (with_reported g r) r) same-feeder (subst (λ x. 2 * nat_abs (difference (with_reported a.feeder x) x).re ≤ allowance (with_reported a.feeder x) x) same-report a.real),
      subst (λ g. 2 * nat_abs (difference (with_reported g r) r).im ≤ allowance (with_reported g r) r) same-feeder (subst (λ x. 2 * nat_abs (difference (with_reported a.feeder x) x).im ≤ allowance (with_reported a.feeder x) x) same-report a.reactive),
    )

-- ---- the table of demand 3 by hand: a row on phases A and B, at V = 3 + 4j and 5j, with I = 1 - j and 2
abbrev pair : ℤ → ℤ → Pair
pair x y = record { re = x; im = y }

abbrev on-a-and-b : Phases
on-a-and-b = record { a = true; b = true; c = false }

abbrev voltage : Three
voltage = record { a = pair (pos 3) (pos 4); b = pair (pos 0) (pos 5); c = pair (pos 9) (pos 9) }

abbrev current : Three
current = record { a = pair (pos 1) (negsuc 0); b = pair (pos 2) (pos 0); c = pair (pos 9) (pos 9) }

-- 1, and |I| on each phase: 1 + 2 + 2
by-hand-line : branch_allowance 10 (Line (record { aa = 0c; ab = 0c; ac = 0c; bb = 0c; bc = 0c; cc = 0c })) on-a-and-b voltage current ≡ 5
unfolding branch_allowance over nsum abs
by-hand-line = refl

-- |V| + 2·tol + |I| on each phase: 7 + 20 + 2 and 5 + 20 + 2
by-hand-regulator : branch_allowance 10 (Regulator (record { taps = no_taps; level = pos 0; band = pos 0; potential = pos 0; current = pos 0; z = 0c })) on-a-and-b voltage current ≡ 56
unfolding branch_allowance over nsum abs
by-hand-regulator = refl

-- 1, and |V| + 2·tol + 2·|I| on each phase: 1, 7 + 20 + 4 and 5 + 20 + 4
by-hand-transformer : branch_allowance 10 (Transformer (record { connection = Wye; n = pos 1; m = pos 1; z = zero3 })) on-a-and-b voltage current ≡ 61
unfolding branch_allowance over nsum abs
by-hand-transformer = refl

-- 2·tol·|I| + |V| + 1: 01's load takes 10014 mA at 7190.00 V, with tol 1
by-hand-load : load_allowance 1 (zero3 ∷ record { a = pair (pos 719000) (pos 0); b = 0c; c = 0c } ∷ [])
    (record { node = 1; phase = OnA; kind = Power; vn = pos 720000; s = pair (pos 72000) (pos 0) }) ≡ 739029
unfolding load_allowance abs load_current current_at acts_as voltage_on mix rated weight rnd_pair rnd near scaled square ◌·*◌ ◌+c◌ csum
by-hand-load = refl

-- 4·tol·|I| + |V| + 1 with V the difference: the same load between 3595.00 V and −3595.00 V
by-hand-delta : load_allowance 1 (zero3 ∷ record { a = pair (pos 359500) (pos 0); b = pair (negsuc 359499) (pos 0); c = 0c } ∷ [])
    (record { node = 1; phase = AB; kind = Power; vn = pos 720000; s = pair (pos 72000) (pos 0) }) ≡ 759057
unfolding load_allowance abs load_current current_at acts_as voltage_on mix rated weight rnd_pair rnd near scaled square ◌·*◌ ◌+c◌ csum
by-hand-delta = refl

-- ---- 02: "A P row with 100·(re² + im²) < 49·vn² takes the Z row's current and rating"
pub rating-low : (v : List Three) (l : Load) → l.kind ≡ Power → 100 * square (voltage_on l v) < 49 * (nat_abs l.vn * nat_abs l.vn) → rating v l ≡ rating v (as_impedance l)
unfolding rating rated voltage_on acts_as
rating-low v l e h = rw (e, acts-low l.vn (voltage_on l v) h) refl

-- "At exactly 70 per cent it is still constant power", as above that: the rating is S
pub rating-high : (v : List Three) (l : Load) → l.kind ≡ Power → 49 * (nat_abs l.vn * nat_abs l.vn) ≤ 100 * square (voltage_on l v) → rating v l ≡ rated l
unfolding rating rating_of
rating-high v l e h =
    let u = voltage_on l v in
    ap (λ k. rating_of k l.vn (rated l) u) (ap (λ k. acts_as k l.vn u) e ∙ acts-high l.vn u h)

-- by hand: 720 W at 7200.00 V are 720·100,000 grains at 5040.00 V, 70 per cent, and 720·100,000·503,999² / 720,000² at 0.01 V less
by-hand-power : rating (record { a = pair (pos 504000) (pos 0); b = 0c; c = 0c } ∷ []) motor ≡ pair (pos 72000000) (pos 0)
unfolding rating rating_of acts_as voltage_on mix rated weight rnd_pair rnd near scaled square ◌+c◌ csum
by-hand-power = refl

by-hand-low : rating (record { a = pair (pos 503999) (pos 0); b = 0c; c = 0c } ∷ []) motor ≡ pair (pos 35279860) (pos 0)
unfolding rating rating_of acts_as voltage_on mix rated weight rnd_pair rnd near scaled square ◌+c◌ csum
by-hand-low = refl
