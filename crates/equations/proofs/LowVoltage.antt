-- The low-voltage rule of 02 in other words: which current a P row takes, that I and Z rows are what they were, and that 30 is left to I rows. Assumes nothing.
use Rattle.std.specs.Prelude.{Bool, ◌&&◌, cond, false, true, List, [], ◌∷◌, ◌≡◌, refl, ◌*◌, ◌<◌, ◌≤◌, ℕ, nat_abs, pos, ℤ, Ok}
use Rattle.std.proofs.Common.{ap, arith, le-ltb, leb-true, lt-ltb}
use Rattle.equations.specs.Equations.{acts_as, current_at, kind_at, needs_voltage, rated, voltage_on, weight, zero_voltage}
use Rattle.equations.specs.Weight.{mul-pos}
use Rattle.feeder.specs.Feeder.{Feeder, reading}
use Rattle.feeder.proofs.FeederLaws.{sound}
use Rattle.feeder.proofs.RowFacts.{OfLoad, load-facts}
use Rattle.feeder.specs.declared.Load.{Load}
use Rattle.feeder.specs.declared.LoadKind.{LoadKind}
use Rattle.feeder.specs.declared.LoadKind.TheVariants.{Current, Impedance, Power}
use Rattle.feeder.specs.declared.Terminals.TheVariants.{OnA}
use Rattle.feeder.specs.Phased.{Three}
use Rattle.integers.specs.Bools.{and-false, both}
use Rattle.integers.specs.Lists.{All, any}
use Rattle.integers.specs.Pairs.{◌·*◌, inside, rnd_pair, scaled, square, within}
use Rattle.integers.specs.Rounding.{near, rnd}
use Rattle.integers.specs.declared.Pair.{Pair}

-- ---- by hand: a P row of 720 W and 7200.00 V takes 720·100,000 / 504,000 at 5040.00 V, 70 per cent, and 720·100,000·503,999 / 720,000² at 0.01 V less
abbrev pub motor : Load
motor = record { node = 0; phase = OnA; kind = Power; vn = pos 720000; s = record { re = pos 720; im = pos 0 } }

by-hand-high : current_at motor (record { re = pos 504000; im = pos 0 }) ≡ record { re = pos 143; im = pos 0 }
unfolding current_at acts_as rated weight rnd_pair rnd near scaled square ◌·*◌
by-hand-high = refl

by-hand-low : current_at motor (record { re = pos 503999; im = pos 0 }) ≡ record { re = pos 70; im = pos 0 }
unfolding current_at acts_as rated weight rnd_pair rnd near scaled square ◌·*◌
by-hand-low = refl

-- ---- as what a row acts
pub acts-current : (vn : ℤ) (u : Pair) → acts_as Current vn u ≡ Current
unfolding acts_as
acts-current vn u = refl

pub acts-impedance : (vn : ℤ) (u : Pair) → acts_as Impedance vn u ≡ Impedance
unfolding acts_as
acts-impedance vn u = refl

pub acts-low : (vn : ℤ) (u : Pair) → 100 * square u < 49 * (nat_abs vn * nat_abs vn) → acts_as Power vn u ≡ Impedance
unfolding acts_as
acts-low vn u h = ap (λ (c : Bool). cond c Impedance Power) (lt-ltb _ _ h)

pub acts-high : (vn : ℤ) (u : Pair) → 49 * (nat_abs vn * nat_abs vn) ≤ 100 * square u → acts_as Power vn u ≡ Power
unfolding acts_as
acts-high vn u h = ap (λ (c : Bool). cond c Impedance Power) (le-ltb _ _ h)

-- the Z row in a row's place
abbrev pub as_impedance : Load → Load
as_impedance l = record { node = l.node; phase = l.phase; kind = Impedance; vn = l.vn; s = l.s }

-- "A P row with 100·(re² + im²) < 49·vn² takes the Z row's current"
pub current-low : (l : Load) (u : Pair) → l.kind ≡ Power → 100 * square u < 49 * (nat_abs l.vn * nat_abs l.vn) → current_at l u ≡ current_at (as_impedance l) u
unfolding current_at rated acts_as
current-low l u e h = rw (e, acts-low l.vn u h) refl

-- "At exactly 70 per cent it is still constant power", as above that: the divisor is re² + im²
pub current-high : (l : Load) (u : Pair) → l.kind ≡ Power → 49 * (nat_abs l.vn * nat_abs l.vn) ≤ 100 * square u → current_at l u ≡ rnd_pair (u ·* rated l) (square u)
unfolding current_at weight
current-high l u e h = rw (e, acts-high l.vn u h) refl

-- ---- 30
abbrev pub is_current : LoadKind → Bool
is_current Power = false
is_current Current = true
is_current Impedance = false

-- at zero voltage the square is 0
square-zero : (u : Pair) → within 0 u ≡ true → square u ≡ 0
unfolding within inside square
square-zero u e =
    let h = both (inside 0 u.re) (inside 0 u.im) e in
    let a : nat_abs u.re ≡ 0 = omega (arith, leb-true (nat_abs u.re) 0 h.0) in
    let b : nat_abs u.im ≡ 0 = omega (arith, leb-true (nat_abs u.im) 0 h.1) in
    rw (a, b) refl

-- "A P row at zero voltage no longer meets 30; an I row still does": of one row with vn above 0, as 11 keeps it
pub needs-voltage : (k : LoadKind) (vn : ℤ) (u : Pair) → 0 < nat_abs vn → (needs_voltage (acts_as k vn u) && within 0 u) ≡ (is_current k && within 0 u)
unfolding acts_as
needs-voltage Power vn u q = go (within 0 u) refl
  where
    -- at zero voltage it acts as an impedance
    go : (c : Bool) → within 0 u ≡ c → (needs_voltage (acts_as Power vn u) && c) ≡ false
    go true e = rw (acts-low vn u (omega (arith, square-zero u e, mul-pos (nat_abs vn) (nat_abs vn) q q))) refl
    go false e = and-false (needs_voltage (acts_as Power vn u))
needs-voltage Current vn u q = refl
needs-voltage Impedance vn u q = refl

-- and of a feeder that is read
pub zero-voltage-is : (s : List ℕ) (f : Feeder) → reading s ≡ Ok f → (v : List Three) → zero_voltage f v ≡ any (λ l. is_current l.kind && within 0 (voltage_on l v)) f.loads
unfolding zero_voltage any
zero-voltage-is s f e v = go f.loads (load-facts s f (sound s f e))
  where
    go : (l : List Load) → All (OfLoad f) l → any (λ x. needs_voltage (kind_at x (voltage_on x v)) && within 0 (voltage_on x v)) l ≡ any (λ x. is_current x.kind && within 0 (voltage_on x v)) l
    go [] h = refl
    go (x ∷ l) h = λ i. cond (needs-voltage x.kind x.vn (voltage_on x v) h.0.rated i) true (go l h.1 i)
