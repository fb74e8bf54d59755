-- Regulators that set their taps (02, S-5): the relay voltage, what a phase wants, and the taps after a move. Assumes nothing.
use Rattle.std.specs.Prelude.{Bool, ◌&&◌, cond, List, ◌*◌, suc, ℕ, ltb, ◌*ℤ◌, ◌+ℤ◌, ◌-ℤ◌, nat_abs, negsuc, pos, ℤ, get_or}
use Rattle.std.specs.Int.Signed.{le_z}
use Rattle.equations.specs.Equations.{at, zero3}
use Rattle.feeder.specs.Feeder.{Feeder, abc, branch_at, has, no_taps, row_count, rows_of, tap_at, taps_on}
use Rattle.feeder.specs.declared.Branch.{Branch}
use Rattle.feeder.specs.declared.Device.TheVariants.{Line, Regulator, Transformer}
use Rattle.feeder.specs.declared.Phase.{Phase}
use Rattle.feeder.specs.declared.Phase.TheVariants.{A, B, C}
use Rattle.feeder.specs.Phased.{Phases, Taps, Three}
use Rattle.feeder.specs.declared.TapChanger.{TapChanger}
use Rattle.integers.specs.Lists.{all, tab}
use Rattle.integers.specs.Pairs.{◌-c◌, ◌·c◌, inside, rnd_pair, square}
use Rattle.integers.specs.declared.Pair.{Pair}

-- "With V_m and I as reported, the relay voltage on each phase is rnd(V_m/p6) − rnd((R + jX)·I/(p7 · 10,000,000))"
unfoldable pub relay_voltage : TapChanger → Pair → Pair → Pair
relay_voltage x u i = rnd_pair u (nat_abs x.potential) -c rnd_pair (x.z ·c i) (nat_abs x.current * 10000000)

-- "wants up when 4·(re² + im²) is below (2·level − band)², with the bracket not negative, and down when it is above (2·level + band)²"
unfoldable pub wants_up : TapChanger → Pair → Bool
wants_up x r = let bracket : ℤ = pos 2 *ℤ x.level -ℤ x.band in le_z (pos 0) bracket && ltb (4 * square r) (nat_abs bracket * nat_abs bracket)

unfoldable pub wants_down : TapChanger → Pair → Bool
wants_down x r = let bracket : ℤ = pos 2 *ℤ x.level +ℤ x.band in ltb (nat_abs bracket * nat_abs bracket) (4 * square r)

-- "each phase that wants moves one step within −16 to 16": a tap after a step, or as it was where it cannot move
unfoldable pub stepped : ℤ → ℤ → ℤ
stepped step tap = cond (inside 16 (tap +ℤ step)) (tap +ℤ step) tap

unfoldable pub moved_tap : TapChanger → Pair → ℤ → ℤ
moved_tap x r tap = cond (wants_up x r) (stepped (pos 1) tap) (cond (wants_down x r) (stepped (negsuc 0) tap) tap)

-- the taps of a regulator after a move: "A present phase wants", and "Level 0 keeps the taps fixed"
unfoldable pub moved_taps : TapChanger → Phases → Three → Three → Taps
moved_taps x f u i =
    let move : Phase → ℤ = λ p. cond (has f p) (moved_tap x (relay_voltage x (at u p) (at i p)) (tap_at x.taps p)) (tap_at x.taps p) in
    cond (inside 0 x.level) x.taps (record { a = move A; b = move B; c = move C })

unfoldable pub moved_on : Branch → Three → Three → Taps
moved_on b u i = elim b.device [
  | Line z ↦ no_taps
  | Regulator x ↦ moved_taps x b.phases u i
  | Transformer x ↦ no_taps
]

-- all taps after a move, by node number
unfoldable pub moved : Feeder → List Three → List Three → List Taps
moved f v i = tab (λ k. moved_on (branch_at f k) (get_or v k zero3) (get_or i k zero3)) 0 (suc (row_count f))

abbrev pub same_taps : Taps → Taps → Bool
same_taps t u = all (λ p. inside 0 (tap_at t p -ℤ tap_at u p)) abc

-- "no phase that wants can move", of the branch that feeds node k and of all
unfoldable pub rests_at : Feeder → List Three → List Three → ℕ → Bool
rests_at f v i k = same_taps (get_or (moved f v i) k no_taps) (taps_on (branch_at f k).device)

unfoldable pub at_rest : Feeder → List Three → List Three → Bool
at_rest f v i = all (rests_at f v i) (rows_of f)
