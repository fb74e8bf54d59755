-- What the limits of documents 01 and 02 (11) give of a row, as the code needs it, and how large the equations' values are then. Assumes nothing.
use Rattle.std.specs.Prelude.{false, true, ◌≡◌, refl, ◌*◌, ◌<◌, ◌≤◌, ℕ, T, leb, ◌-ℤ◌, nat_abs, negsuc, pos, ℤ, ◌≤ℤ◌}
use Rattle.std.proofs.Common.{mul-le-mul, arith, leb→le, lit<, lit≤}
use Rattle.std.specs.Int.Signed.{le_z, le_z_yes}
use Rattle.equations.specs.Equations.{at, drop_of, far_voltage, mix, near_current, power, rated, taken_of, tap_divisor, through_of, weight, z_of}
use Rattle.equations.specs.Sizes.{SignsOk, Within3, mix-phase-within, mix-within, power-within, row_ok, table-ok, within-csum, within3-at, within3-each, within3-masked, within3-minus, within3-more, within3-zero}
use Rattle.feeder.specs.Feeder.{between, phase_signs}
use Rattle.equations.specs.Taps.{relay_voltage}
use Rattle.feeder.specs.declared.Branch.{Branch}
use Rattle.feeder.specs.declared.Device.{Device}
use Rattle.feeder.specs.declared.Device.TheVariants.{Line, Regulator, Transformer}
use Rattle.feeder.specs.declared.LineZ.{LineZ}
use Rattle.feeder.specs.declared.Load.{Load}
use Rattle.feeder.specs.declared.LoadKind.{LoadKind}
use Rattle.feeder.specs.declared.LoadKind.TheVariants.{Current, Impedance, Power}
use Rattle.feeder.specs.declared.Phase.{Phase}
use Rattle.feeder.specs.declared.Phase.TheVariants.{A, B, C}
use Rattle.feeder.specs.Phased.{Signs, Taps, Three}
use Rattle.feeder.specs.declared.TapChanger.{TapChanger}
use Rattle.feeder.specs.declared.Terminals.{Terminals}
use Rattle.feeder.specs.declared.Windings.{Windings}
use Rattle.integers.specs.Bools.{both, true-T}
use Rattle.integers.specs.PairLaws.{Within, square-bound, within-le, within_more, within-mul, within-mul-conj, within-scaled, within-sub}
use Rattle.integers.proofs.PairLaws.{within-div, within-rnd}
use Rattle.integers.specs.Pairs.{◌·*◌, ◌·c◌, inside, rnd_pair, scaled, square}
use Rattle.integers.specs.Root.{root}
use Rattle.integers.specs.RootLaws.{root-bound}
use Rattle.integers.specs.Whole.{abs-parts, le_parts, one-part, parts, parts-le}
use Rattle.integers.specs.declared.Pair.{Pair}

-- a whole number from 1 to n
pub record Counted (n : ℕ) (z : ℤ) : Type 0 where
  pub least : pos 1 ≤ℤ z
  pub most : z ≤ℤ pos n

pub between-counted : (n : ℕ) (z : ℤ) → between (pos 1) (pos n) z ≡ true → Counted n z
between-counted n z e =
    let h = both (le_z (pos 1) z) (le_z z (pos n)) e in
    record { least = le_z_yes (true-T _ h.0); most = le_z_yes (true-T _ h.1) }

pub counted-more : {m n : ℕ} {z : ℤ} → Counted m z → T (leb m n) → Counted n z
counted-more {m} {n} {z} h t = record { least = h.least; most = parts-le (omega (arith, le_parts h.most, leb→le m n t)) }

pub counted-some : {n : ℕ} {z : ℤ} → Counted n z → 0 < nat_abs z
counted-some {n} {z} h = omega (arith, le_parts h.least, abs-parts z)

pub counted-most : {n : ℕ} {z : ℤ} → Counted n z → nat_abs z ≤ n
counted-most {n} {z} h = omega (arith, le_parts h.least, le_parts h.most, abs-parts z, one-part z)

pub counted_is : {n : ℕ} {z : ℤ} → Counted n z → pos (nat_abs z) ≡ z
counted_is {z = pos z} h = refl
counted_is {z = negsuc z} h = absurd h.least.le

-- ---- the rows
pub record LineOk (z : LineZ) : Type 0 where
  pub aa : Within 100000000 z.aa
  pub ab : Within 100000000 z.ab
  pub ac : Within 100000000 z.ac
  pub bb : Within 100000000 z.bb
  pub bc : Within 100000000 z.bc
  pub cc : Within 100000000 z.cc

pub record TapsOk (t : Taps) : Type 0 where
  pub a : nat_abs t.a ≤ 16
  pub b : nat_abs t.b ≤ 16
  pub c : nat_abs t.c ≤ 16

-- a relay that sets its taps
pub record RelayOk (x : TapChanger) : Type 0 where
  pub band : nat_abs x.band ≤ 20000
  pub potential : Counted 10000 x.potential
  pub current : Counted 10000 x.current
  pub z : Within 100000000 x.z

pub record ChangerOk (x : TapChanger) : Type 0 where
  pub taps : TapsOk x.taps
  pub level : nat_abs x.level ≤ 20000
  pub relay : inside 0 x.level ≡ false → RelayOk x

pub record WindingsOk (x : Windings) : Type 0 where
  pub n : Counted 1000000 x.n
  pub m : Counted 1000000 x.m
  pub z : Within3 100000000 x.z

-- Contracts ask it, and no device or load has it in its type: the definitions make a feeder of every file that is well laid out, whatever its numbers are
abbrev pub DeviceOk : Device → Type 0
DeviceOk (Line z) = LineOk z
DeviceOk (Regulator x) = ChangerOk x
DeviceOk (Transformer x) = WindingsOk x

-- vn is within the limit of a load between two phases
pub record LoadOk (l : Load) : Type 0 where
  pub vn : Counted 4000000 l.vn
  pub s : Within 3000000 l.s

-- ---- loads
pub square-most : {u : Pair} → Within 4000000 u → square u ≤ 32000000000000
square-most h = square-bound h

pub root-most : {u : Pair} → Within 4000000 u → root (square u) ≤ 6000000
root-most {u} h = root-bound (omega (arith, square-most h))

pub weight-most : (k : LoadKind) (vn : ℤ) {u : Pair} → nat_abs vn ≤ 4000000 → Within 4000000 u → weight k vn u ≤ 40000000000000
unfolding weight
weight-most Power vn l h = omega (arith, square-most h)
weight-most Current vn l h = omega (arith, mul-le-mul (root-most h) l)
weight-most Impedance vn l h = omega (arith, mul-le-mul l l)

pub rated-within : {l : Load} → LoadOk l → Within 300000000000 (rated l)
unfolding rated
rated-within h = within-scaled {m = 100000} (pos 100000) (lit≤ tt) h.s

-- one load row's power: 300 of them are below 5·10^15
pub drawn-within : (p : Terminals) {v : Three} {i : Pair} → Within3 2000000 v → Within 2000000 i → Within 16000000000000 (mix (phase_signs p) v ·* i)
drawn-within p h k = within-mul-conj (mix-phase-within p h) k

-- ---- devices
pub divisor-in : (t : ℤ) → nat_abs t ≤ 16 → (144 ≤ nat_abs (pos 160 -ℤ t)) × (nat_abs (pos 160 -ℤ t) ≤ 176)
divisor-in t h = let k = simp parts at h in simp parts (omega arith, omega arith)

z-within : {z : LineZ} → LineOk z → (p j : Phase) → Within 100000000 (z_of z p j)
unfolding z_of
z-within h A A = h.aa
z-within h A B = h.ab
z-within h A C = h.ac
z-within h B A = h.ab
z-within h B B = h.bb
z-within h B C = h.bc
z-within h C A = h.ac
z-within h C B = h.bc
z-within h C C = h.cc

pub drop-within : (d : Device) {i : Three} → DeviceOk d → Within3 2000000 i → Within3 120000000 (drop_of d i)
unfolding drop_of
drop-within (Line z) {i} h k =
    within3-each (λ p. within-div (lit< tt) (within-csum (λ j. z_of z p j ·c at i j) (λ j. within-mul (z-within h p j) (within3-at k j))))
drop-within (Regulator x) h k = within3-zero
drop-within (Transformer x) h k =
    within3-each (λ p. within-div (lit< tt) (within_more (within-mul (within3-at h.z p) (within3-at k p)) tt))

-- through a regulator, and through a transformer, of voltages and of currents
regulated-within : {m : ℕ} {t : Taps} {x : Three} → TapsOk t → Within3 m x → (p : Phase) → Within (160 * m) (rnd_pair (scaled (pos 160) (at x p)) (tap_divisor t p))
regulated-within {m} {t} h k A = within-rnd (omega (arith, divisor-in t.a h.a)) (within-scaled (pos 160) (lit≤ tt) k.a)
regulated-within {m} {t} h k B = within-rnd (omega (arith, divisor-in t.b h.b)) (within-scaled (pos 160) (lit≤ tt) k.b)
regulated-within {m} {t} h k C = within-rnd (omega (arith, divisor-in t.c h.c)) (within-scaled (pos 160) (lit≤ tt) k.c)

turned-within : {m : ℕ} {x : Windings} {s : Signs} {u : Three} → WindingsOk x → SignsOk s → Within3 m u
    → Within (1000000 * (3 * m)) (rnd_pair (scaled x.m (mix s u)) (nat_abs x.n))
turned-within {x = x} h o k = within-rnd (counted-some h.n) (within-scaled x.m (counted-most h.m) (mix-within o k))

pub through-within : (d : Device) {u : Three} → DeviceOk d → Within3 2100000 u → Within3 6300000000000 (through_of d u)
unfolding through_of
through-within (Line z) h k = within3-more k tt
through-within (Regulator x) h k = within3-each (λ p. within_more (regulated-within h.taps k p) tt)
through-within (Transformer x) h k = within3-each (λ p. turned-within h (row_ok (table-ok x.connection).0 p) k)

pub taken-within : (d : Device) {i : Three} → DeviceOk d → Within3 2000000 i → Within3 6000000000000 (taken_of d i)
unfolding taken_of
taken-within (Line z) h k = within3-more k tt
taken-within (Regulator x) h k = within3-each (λ p. within_more (regulated-within h.taps k p) tt)
taken-within (Transformer x) h k = within3-each (λ p. turned-within h (row_ok (table-ok x.connection).1 p) k)

-- V_m and J before they are tested
pub far_within : (b : Branch) {u i : Three} → DeviceOk b.device → Within3 2100000 u → Within3 2000000 i → Within3 7000000000000 (far_voltage b u i)
unfolding far_voltage
far_within b h k l =
    within3-masked b.phases (within3-more (within3-minus (through-within b.device h k) (drop-within b.device h l)) tt)

pub near_within : (b : Branch) {i : Three} → DeviceOk b.device → Within3 2000000 i → Within3 6000000000000 (near_current b i)
unfolding near_current
near_within b h k = within3-masked b.phases (taken-within b.device h k)

-- ---- the relay: p6 and p7 divide by at least 1
pub relay-within : {x : TapChanger} {u i : Pair} → RelayOk x → Within 2000000 u → Within 2000000 i → Within 42000000 (relay_voltage x u i)
unfolding relay_voltage
relay-within {x} {u} {i} h k l =
    let some : 0 < nat_abs x.current = counted-some h.current in
    within_more (within-sub (within-rnd (counted-some h.potential) k)
    (within-div {m = 40000000} {d = nat_abs x.current * 10000000} (omega arith) (within-le (omega arith) (within-mul h.z l)))) tt

pub relay-square : {x : TapChanger} {u i : Pair} → RelayOk x → Within 2000000 u → Within 2000000 i → 4 * square (relay_voltage x u i) ≤ 14112000000000000
relay-square h k l = omega (arith, square-bound (relay-within h k l))

-- ---- powers
-- one branch's loss: 200 of them are below 3·10^17
pub loss-within : (d : Device) {i : Three} → DeviceOk d → Within3 2000000 i → Within 1440000000000000 (power (drop_of d i) i)
loss-within d h k = power-within (drop-within d h k) k

-- the source's: 300 load rows and 200 branches take at most 10^9 there
pub source-within : {u i : Three} → Within3 2000000 u → Within3 1000000000 i → Within 12000000000000000 (power u i)
source-within h k = power-within h k
