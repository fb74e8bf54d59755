-- A pair for each phase: what stands at a phase of a sum, a difference or a masked value; and the sign table, whose d is A turned over. Assumes nothing.
use Rattle.std.specs.Prelude.{Bool, cond, false, true, List, [], ◌∷◌, ◌≡◌, refl, ℕ}
use Rattle.std.proofs.Common.{◌∙◌, ap, ap₂}
use Rattle.equations.specs.Equations.{at, each, masked, minus3, plus3, row_at, sign_at, sign_table, sum3, zero3}
use Rattle.feeder.specs.Feeder.{has}
use Rattle.feeder.specs.declared.Connection.{Connection}
use Rattle.feeder.specs.declared.Connection.TheVariants.{Delta, Wye}
use Rattle.feeder.specs.declared.Phase.{Phase}
use Rattle.feeder.specs.declared.Phase.TheVariants.{A, B, C}
use Rattle.feeder.specs.Phased.{Phases, Three}
use Rattle.integers.specs.Lists.{csum, All}
use Rattle.integers.specs.PairLaws.{+c-assoc, +c-comm, +c-idl, +c-idr, Close}
use Rattle.integers.specs.Pairs.{0c, ◌+c◌, ◌-c◌}
use Rattle.integers.specs.declared.Pair.{Pair}

-- equal on each phase
pub three-eq : {x y : Three} → ((p : Phase) → at x p ≡ at y p) → x ≡ y
three-eq h = λ i. record { a = h A i; b = h B i; c = h C i }

-- voltages that differ by at most tol, on each phase
abbrev pub Close3 : ℕ → Three → Three → Type 0
Close3 tol x y = (p : Phase) → Close tol (at x p) (at y p)

-- what stands at a phase
pub at_each : (f : Phase → Pair) (p : Phase) → at (each f) p ≡ f p
unfolding each
at_each f A = refl
at_each f B = refl
at_each f C = refl

pub each-eq : {f g : Phase → Pair} → ((p : Phase) → f p ≡ g p) → each f ≡ each g
unfolding each
each-eq h = λ i. record { a = h A i; b = h B i; c = h C i }

pub at_zero : (p : Phase) → at zero3 p ≡ 0c
at_zero A = refl
at_zero B = refl
at_zero C = refl

pub at-plus : (x y : Three) (p : Phase) → at (plus3 x y) p ≡ at x p +c at y p
unfolding plus3
at-plus x y p = at_each _ p

pub at-minus : (x y : Three) (p : Phase) → at (minus3 x y) p ≡ at x p -c at y p
unfolding minus3
at-minus x y p = at_each _ p

pub at-masked : (f : Phases) (x : Three) (p : Phase) → at (masked f x) p ≡ cond (has f p) (at x p) 0c
unfolding masked
at-masked f x p = at_each _ p

pub at-cond : (c : Bool) (x : Three) (p : Phase) → at (cond c x zero3) p ≡ cond c (at x p) 0c
at-cond true x p = refl
at-cond false x p = at_zero p

-- sums of equal pairs, and of none
pub csum-cong : {X : Type 0} {f g : X → Pair} (l : List X) → ((x : X) → f x ≡ g x) → csum f l ≡ csum g l
unfolding csum
csum-cong [] h = refl
csum-cong (x ∷ l) h = ap₂ ◌+c◌ (h x) (csum-cong l h)

pub csum-none : {X : Type 0} (f : X → Pair) (l : List X) → All (λ x. f x ≡ 0c) l → csum f l ≡ 0c
unfolding csum
csum-none f [] a = refl
csum-none f (x ∷ l) a = ap₂ ◌+c◌ a.0 (csum-none f l a.1) ∙ +c-idr 0c

pub at_sum : {X : Type 0} (f : X → Three) (l : List X) (p : Phase) → at (sum3 f l) p ≡ csum (λ x. at (f x) p) l
unfolding sum3 csum
at_sum f [] p = at_zero p
at_sum f (x ∷ l) p = at-plus (f x) (sum3 f l) p ∙ ap (λ y. at (f x) p +c y) (at_sum f l p)

-- sums of three pairs
pub plus3-assoc : (x y z : Three) → plus3 (plus3 x y) z ≡ plus3 x (plus3 y z)
unfolding plus3 each
plus3-assoc x y z = λ i. record { a = +c-assoc x.a y.a z.a i; b = +c-assoc x.b y.b z.b i; c = +c-assoc x.c y.c z.c i }

pub plus3-comm : (x y : Three) → plus3 x y ≡ plus3 y x
unfolding plus3 each
plus3-comm x y = λ i. record { a = +c-comm x.a y.a i; b = +c-comm x.b y.b i; c = +c-comm x.c y.c i }

pub plus3-idl : (x : Three) → plus3 zero3 x ≡ x
unfolding plus3 each
plus3-idl x = λ i. record { a = +c-idl x.a i; b = +c-idl x.b i; c = +c-idl x.c i }

pub plus3-idr : (x : Three) → plus3 x zero3 ≡ x
unfolding plus3 each
plus3-idr x = λ i. record { a = +c-idr x.a i; b = +c-idr x.b i; c = +c-idr x.c i }

pub sum3-cong : {X : Type 0} (P : X → Type 0) (f g : X → Three) (l : List X) → ((x : X) → P x → f x ≡ g x) → All P l → sum3 f l ≡ sum3 g l
unfolding sum3
sum3-cong P f g [] h a = refl
sum3-cong P f g (x ∷ l) h a = ap₂ plus3 (h x a.0) (sum3-cong P f g l h a.1)

pub sum3-zero : {X : Type 0} (l : List X) → sum3 (λ (x : X). zero3) l ≡ zero3
unfolding sum3
sum3-zero [] = refl
sum3-zero (x ∷ l) = ap (plus3 zero3) (sum3-zero l) ∙ plus3-idr zero3

-- d is A turned over, of each connection of the table
pub transposed : (c : Connection) (i j : Phase) → sign_at (row_at (sign_table c).current i) j ≡ sign_at (row_at (sign_table c).voltage j) i
transposed Wye A A = refl
transposed Wye A B = refl
transposed Wye A C = refl
transposed Wye B A = refl
transposed Wye B B = refl
transposed Wye B C = refl
transposed Wye C A = refl
transposed Wye C B = refl
transposed Wye C C = refl
transposed Delta A A = refl
transposed Delta A B = refl
transposed Delta A C = refl
transposed Delta B A = refl
transposed Delta B B = refl
transposed Delta B C = refl
transposed Delta C A = refl
transposed Delta C B = refl
transposed Delta C C = refl
