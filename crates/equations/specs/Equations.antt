-- Equations (01, 02). V and I are lists by node number: V of node k, I of the branch that feeds it; at 0 stand the source's voltage and all current
-- taken there. Assumes nothing.
use Rattle.std.specs.Prelude.{Bool, ◌&&◌, cond, false, not, true, List, [], ◌∷◌, ◌*◌, suc, zero, ℕ, eqb, ltb, ◌-ℤ◌, nat_abs, negsuc, pos, ℤ, get_or}
use Rattle.integers.specs.declared.Pair.{Pair}
use Rattle.integers.specs.Root.{root}
use Rattle.integers.specs.Pairs.{0c, ◌+c◌, ◌-c◌, ◌·*◌, ◌·c◌, rnd_pair, scaled, square, within}
use Rattle.integers.specs.Lists.{any, csum, tab}
use Rattle.feeder.specs.Phased.{Phases, Signs, Taps, Three}
use Rattle.feeder.specs.declared.Phase.{Phase}
use Rattle.feeder.specs.declared.Phase.TheVariants.{A, B, C}
use Rattle.feeder.specs.declared.LineZ.{LineZ}
use Rattle.feeder.specs.declared.Connection.{Connection}
use Rattle.feeder.specs.declared.Connection.TheVariants.{Delta, Wye}
use Rattle.feeder.specs.declared.Device.{Device}
use Rattle.feeder.specs.declared.Device.TheVariants.{Line, Regulator, Transformer}
use Rattle.feeder.specs.declared.Branch.{Branch}
use Rattle.feeder.specs.declared.LoadKind.{LoadKind}
use Rattle.feeder.specs.declared.LoadKind.TheVariants.{Current, Impedance, Power}
use Rattle.feeder.specs.declared.Load.{Load}
use Rattle.feeder.specs.Feeder.{Feeder, abc, branch_at, has, parent, phase_signs, row_count, rows_of, signs}
use Rattle.equations.specs.Matrices.{Matrix}
use Rattle.equations.specs.declared.SignTable.{SignTable}

-- ---- a pair for each phase
abbrev pub at : Three → Phase → Pair
at x A = x.a
at x B = x.b
at x C = x.c

unfoldable pub each : (Phase → Pair) → Three
each f = record { a = f A; b = f B; c = f C }

abbrev pub zero3 : Three
zero3 = record { a = 0c; b = 0c; c = 0c }

unfoldable pub plus3 : Three → Three → Three
plus3 x y = each (λ p. at x p +c at y p)

unfoldable pub minus3 : Three → Three → Three
minus3 x y = each (λ p. at x p -c at y p)

unfoldable pub sum3 : {X : Type 0} → (X → Three) → List X → Three
sum3 f [] = zero3
sum3 f (x ∷ l) = plus3 (f x) (sum3 f l)

-- "An absent phase has V = 0", and takes no current
unfoldable pub masked : Phases → Three → Three
masked f x = each (λ p. cond (has f p) (at x p) 0c)

-- ---- rows of signs
abbrev pub sign_at : Signs → Phase → ℤ
sign_at s A = s.a
sign_at s B = s.b
sign_at s C = s.c

-- what a row of signs makes of three voltages or currents. A load's signs give the value of its phase, or the difference of its two (`mix-phase`, Sizes)
unfoldable pub mix : Signs → Three → Pair
mix s x = csum (λ p. scaled (sign_at s p) (at x p)) abc

-- "The signs of both connections stand in one table: Y has A and d the unit matrix; D has A rows V_a−V_c, V_b−V_a, V_c−V_b and d rows I_a−I_b, I_b−I_c, I_c−I_a"
abbrev pub sign_table : Connection → SignTable
sign_table Wye =
    let unit : Matrix = record { a = signs (pos 1) (pos 0) (pos 0); b = signs (pos 0) (pos 1) (pos 0); c = signs (pos 0) (pos 0) (pos 1) } in
    record { voltage = unit; current = unit }
sign_table Delta = record {
  voltage = record { a = signs (pos 1) (pos 0) (negsuc 0); b = signs (negsuc 0) (pos 1) (pos 0); c = signs (pos 0) (negsuc 0) (pos 1) };
  current = record { a = signs (pos 1) (negsuc 0) (pos 0); b = signs (pos 0) (pos 1) (negsuc 0); c = signs (negsuc 0) (pos 0) (pos 1) };
}

abbrev pub row_at : Matrix → Phase → Signs
row_at m A = m.a
row_at m B = m.b
row_at m C = m.c

-- ---- loads
unfoldable pub voltage_on : Load → List Three → Pair
voltage_on l v = mix (phase_signs l.phase) (get_or v l.node zero3)

-- "S = P + jQ = (p + jq) times 100,000 grains". The grain is 01's unit of power: 1 cV times 1 mA
unfoldable pub rated : Load → Pair
rated l = scaled (pos 100000) l.s

-- "w = re² + im² for P, root(re² + im²)·vn for I, vn² for Z"
unfoldable pub weight : LoadKind → ℤ → Pair → ℕ
weight Power vn u = square u
weight Current vn u = root (square u) * nat_abs vn
weight Impedance vn u = nat_abs vn * nat_abs vn

-- 02: "A P row with 100·(re² + im²) < 49·vn² takes the Z row's current and rating. At exactly 70 per cent it is still constant power": the kind as which a row
-- acts at the voltage u
unfoldable pub acts_as : LoadKind → ℤ → Pair → LoadKind
acts_as Power vn u = cond (ltb (100 * square u) (49 * (nat_abs vn * nat_abs vn))) Impedance Power
acts_as Current vn u = Current
acts_as Impedance vn u = Impedance

-- the same of row l. Current, rating and 30 go by it, each at the voltage that it is worked from
abbrev pub kind_at : Load → Pair → LoadKind
kind_at l u = acts_as l.kind l.vn u

-- "Load current at voltage V: rnd(conj(S)·V / w)"
unfoldable pub current_at : Load → Pair → Pair
current_at l u = rnd_pair (u ·* rated l) (weight (kind_at l u) l.vn u)

unfoldable pub load_current : List Three → Load → Pair
load_current v l = current_at l (voltage_on l v)

-- ---- devices: V_m = through − D; J is what is taken at n
-- a line's z_ij, symmetric
unfoldable pub z_of : LineZ → Phase → Phase → Pair
z_of z A A = z.aa
z_of z A B = z.ab
z_of z A C = z.ac
z_of z B A = z.ab
z_of z B B = z.bb
z_of z B C = z.bc
z_of z C A = z.ac
z_of z C B = z.bc
z_of z C C = z.cc

-- 160 − tap
abbrev pub tap_divisor : Taps → Phase → ℕ
tap_divisor t A = nat_abs (pos 160 -ℤ t.a)
tap_divisor t B = nat_abs (pos 160 -ℤ t.b)
tap_divisor t C = nat_abs (pos 160 -ℤ t.c)

-- "L: D_i = rnd(sum over j of z_ij·I_j / 10,000,000)", "R: D = 0", "Y, D: D_i = rnd(z_i·I_i / 10,000,000)"
unfoldable pub drop_of : Device → Three → Three
drop_of (Line z) i = each (λ p. rnd_pair (csum (λ j. z_of z p j ·c at i j) abc) 10000000)
drop_of (Regulator x) i = zero3
drop_of (Transformer x) i = each (λ p. rnd_pair (at x.z p ·c at i p) 10000000)

-- "L: V_m = V_n − D", "R: V_m = rnd(160·V_n/(160 − tap))", "Y, D: V_m = rnd(M·(A·V_n)/N) − D"
unfoldable pub through_of : Device → Three → Three
through_of (Line z) u = u
through_of (Regulator x) u = each (λ p. rnd_pair (scaled (pos 160) (at u p)) (tap_divisor x.taps p))
through_of (Transformer x) u = each (λ p. rnd_pair (scaled x.m (mix (row_at (sign_table x.connection).voltage p) u)) (nat_abs x.n))

-- "L: J = I", "R: J = rnd(160·I/(160 − tap))", "Y, D: J = rnd(M·(d·I)/N)"
unfoldable pub taken_of : Device → Three → Three
taken_of (Line z) i = i
taken_of (Regulator x) i = each (λ p. rnd_pair (scaled (pos 160) (at i p)) (tap_divisor x.taps p))
taken_of (Transformer x) i = each (λ p. rnd_pair (scaled x.m (mix (row_at (sign_table x.connection).current p) i)) (nat_abs x.n))

-- V_m from V_n and I, and J from I
unfoldable pub far_voltage : Branch → Three → Three → Three
far_voltage b u i = masked b.phases (minus3 (through_of b.device u) (drop_of b.device i))

unfoldable pub near_current : Branch → Three → Three
near_current b i = masked b.phases (taken_of b.device i)

-- ---- the feeder's nodes
-- what holds at node i, worked downward: `first` at the source, and `step` of what holds at its parent. k bounds the steps: with as
-- many as there are rows none is left out (`voltages-meet`, Meets)
unfoldable pub downward : {X : Type 0} → (ℕ → X → X) → X → (ℕ → ℕ) → ℕ → ℕ → X
downward step first par zero i = first
downward step first par (suc k) zero = first
downward step first par (suc k) (suc i) = step (suc i) (downward step first par k (par (suc i)))

-- the voltages "worked downward from the source" with given I
unfoldable pub voltages : Feeder → List Three → List Three
voltages f i = tab (downward (λ m u. far_voltage (branch_at f m) u (get_or i m zero3)) f.source (parent f) (row_count f)) 0 (suc (row_count f))

-- the load currents at node m, per phase
unfoldable pub loads_at : Feeder → List Three → ℕ → Three
loads_at f v m = sum3 (λ l. let i = each (λ p. scaled (sign_at (phase_signs l.phase) p) (load_current v l)) in cond (eqb l.node m) i zero3) f.loads

-- "I = load currents at m plus J of the branches leaving m, per phase". k bounds the steps: with as many as there are rows none is left out
-- (`currents-meet`, Meets)
unfoldable pub upward : Feeder → (ℕ → Three) → ℕ → ℕ → Three
upward f own zero m = own m
upward f own (suc k) m =
    plus3 (own m) (sum3 (λ b. let j = near_current (branch_at f b) (upward f own k b) in cond (eqb (parent f b) m) j zero3) (rows_of f))

unfoldable pub currents : Feeder → List Three → List Three
currents f v = tab (upward f (loads_at f v) (row_count f)) 0 (suc (row_count f))

-- ---- powers
-- the sum over the phases of x·conj(y)
unfoldable pub power : Three → Three → Pair
power x y = csum (λ p. at x p ·* at y p) abc

-- "loss: sum of D·conj(I)"
unfoldable pub loss_of : Feeder → List Three → ℕ → Pair
loss_of f i k = power (drop_of (branch_at f k).device (get_or i k zero3)) (get_or i k zero3)

-- "source: source voltage times conj of all current taken there, loads on it included"
unfoldable pub source_power : Feeder → List Three → Pair
source_power f i = power f.source (get_or i 0 zero3)

-- "drawn: sum of V·conj(I) over load rows"
unfoldable pub drawn_power : Feeder → List Three → Pair
drawn_power f v = csum (λ l. voltage_on l v ·* load_current v l) f.loads

-- "lost: sum of losses"
unfoldable pub lost_power : Feeder → List Three → Pair
lost_power f i = csum (loss_of f i) (rows_of f)

-- ---- 30 to 33
-- "beyond ±2,000,000"
unfoldable pub beyond : Pair → Bool
beyond x = not (within 2000000 x)

unfoldable pub beyond3 : Three → Bool
beyond3 x = any (λ p. beyond (at x p)) abc

-- 30: "load of kind P or I at zero voltage"
abbrev pub needs_voltage : LoadKind → Bool
needs_voltage Power = true
needs_voltage Current = true
needs_voltage Impedance = false

-- by the kind as which a row acts there. 02: "A P row at zero voltage no longer meets 30; an I row still does" (`zero-voltage-is`, LowVoltage)
unfoldable pub zero_voltage : Feeder → List Three → Bool
zero_voltage f v = any (λ l. needs_voltage (kind_at l (voltage_on l v)) && within 0 (voltage_on l v)) f.loads

-- 31: "load current re or im beyond ±2,000,000"
unfoldable pub load_beyond : Feeder → List Three → Bool
load_beyond f v = any (λ l. beyond (load_current v l)) f.loads

-- 32: "I or J beyond ±2,000,000", of any branch
unfoldable pub current_beyond : Feeder → List Three → Bool
current_beyond f i = any (λ k. cond (beyond3 (get_or i k zero3)) true (beyond3 (near_current (branch_at f k) (get_or i k zero3)))) (rows_of f)

-- 33: "voltage beyond ±2,000,000"
unfoldable pub voltage_beyond : Feeder → List Three → Bool
voltage_beyond f v = any (λ k. beyond3 (get_or v k zero3)) (rows_of f)
