-- "Proved in one table" (01): what is computed beside what 01 says, one row for each, and one test of them all. Assumes nothing.
use Rattle.std.specs.Prelude.{Bool, false, ◌&&◌, List, [], ◌∷◌, eqb, ℤ, pos, negsuc, neg_ℤ}
use Prim.Native.String.{String}
use Rattle.integers.specs.Pairs.{0c}
use Rattle.integers.specs.Root.{root}
use Rattle.integers.specs.Rounding.{rnd}
use Rattle.integers.specs.declared.Pair.{Pair}
use Rattle.feeder.specs.declared.Connection.TheVariants.{Delta}
use Rattle.feeder.specs.declared.Device.{Device}
use Rattle.feeder.specs.declared.Device.TheVariants.{Regulator, Transformer}
use Rattle.feeder.specs.declared.Load.{Load}
use Rattle.feeder.specs.declared.LoadKind.{LoadKind}
use Rattle.feeder.specs.declared.LoadKind.TheVariants.{Power, Current, Impedance}
use Rattle.feeder.specs.declared.Phase.TheVariants.{A}
use Rattle.feeder.specs.declared.Terminals.TheVariants.{OnA}
use Rattle.feeder.specs.Phased.{Three}
use Rattle.equations.specs.Equations.{at, current_at, taken_of, through_of, zero3}

-- ---- what the rows speak of
abbrev pub pair : ℤ → ℤ → Pair
pair x y = record { re = x; im = y }

-- a single number as a pair
abbrev pub real : ℤ → Pair
real x = pair x (pos 0)

abbrev pub load : LoadKind → ℤ → ℤ → ℤ → Load
load k vn p q = record { node = 0; phase = OnA; kind = k; vn = vn; s = pair p q }

-- at a fixed tap: its level is 0, and so are its band, ratios and compensator
abbrev pub regulator : ℤ → Device
regulator tap = Regulator (record { taps = record { a = tap; b = pos 0; c = pos 0 }; level = pos 0; band = pos 0; potential = pos 0; current = pos 0; z = 0c })

abbrev pub delta : Device
delta = Transformer (record { connection = Delta; n = pos 12470; m = pos 2400; z = zero3 })

abbrev pub source : Three
source = record { a = real (pos 720000); b = pair (neg_ℤ (pos 360000)) (neg_ℤ (pos 623538)); c = pair (neg_ℤ (pos 360000)) (pos 623538) }

-- ---- the table
pub record Entry : Type 0 where
  pub words : String
  pub computed : Pair
  pub expected : Pair

abbrev pub says : String → Pair → Pair → Entry
says words computed expected = record { words = words; computed = computed; expected = expected }

abbrev pub table : List Entry
table =
    says "rnd(5/2)=3" (real (rnd (pos 5) 2)) (real (pos 3))
    ∷ says "rnd(−5/2)=−3" (real (rnd (neg_ℤ (pos 5)) 2)) (real (neg_ℤ (pos 3)))
    ∷ says "rnd(4/3)=1" (real (rnd (pos 4) 3)) (real (pos 1))
    ∷ says "root(15)=3" (real (pos (root 15))) (real (pos 3))
    ∷ says "root(16)=4" (real (pos (root 16))) (real (pos 4))
    ∷ says "720000 at tap 16 is 800000" (at (through_of (regulator (pos 16)) source) A) (real (pos 800000))
    ∷ says "at tap −16 654545" (at (through_of (regulator (neg_ℤ (pos 16))) source) A) (real (pos 654545))
    ∷ says "the P load at (719000,0) takes 10014" (current_at (load Power (pos 720000) (pos 72000) (pos 0)) (real (pos 719000))) (real (pos 10014))
    ∷ says "I load p=100, vn=500000 at (300000,400000) takes (12,16)" (current_at (load Current (pos 500000) (pos 100) (pos 0)) (pair (pos 300000) (pos 400000))) (pair (pos 12) (pos 16))
    ∷ says "Z load p=0, q=−720, vn=720000 at (720000,0) takes (0,100)" (current_at (load Impedance (pos 720000) (pos 0) (neg_ℤ (pos 720))) (real (pos 720000))) (pair (pos 0) (pos 100))
    ∷ says "D, 12470/2400, phase a of the source above: (207859,−120007)" (at (through_of delta source) A) (pair (pos 207859) (neg_ℤ (pos 120007)))
    ∷ says "I=(1000,0) on a only gives J_a=192" (at (taken_of delta (record { a = real (pos 1000); b = 0c; c = 0c })) A) (real (pos 192))
    ∷ []

-- ---- the test
abbrev pub equal : ℤ → ℤ → Bool
equal (pos m) (pos n) = eqb m n
equal (negsuc m) (negsuc n) = eqb m n
equal (pos m) (negsuc n) = false
equal (negsuc m) (pos n) = false

abbrev pub right : Entry → Bool
right e = equal e.computed.re e.expected.re && equal e.computed.im e.expected.im
