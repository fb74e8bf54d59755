-- `text::read::read_number` meets its contract: each answer is the one defined, and so lies further on. Assumes nothing.
use Rattle.std.specs.Prelude.{Some}
use borrow.Author.Rules.{rules}
use borrow.Author.Tests.{eq-eqb, ne_eqb}
use mathlib.Core.Path.{◌≡◌, sym, ap, ◌∙◌}
use native.Mathlib.Omega.{arith}
use Prim.Native.Nat.{◌+◌, ◌<◌}
use lib.IntN.{ℤ, pos, neg_ℤ, nat_abs, ◌-ℤ◌, +ℤ_idl}
use lib.ListN.{drop}
use mir.Facts.{to_z-of_z}
use mir.Syntax.{w64}
use mir.Val.{to_z, of_z}
use Rattle.integers.specs.Machine.{read}
use Rattle.text.specs.Text.{natural, negated, number_at}
use Rattle.text.specs.TextLaws.{number-at, number-end}
use Rattle.text.specs.NumberText.{natural-small, number-answer}
use Rattle.text.proofs.read.read_number.Goals as goal
use Rattle.text.proofs.read.read_number.Goals.{After-sub, In_ok-b, In_ok-z}

-- the number behind the minus, as it is read, and as the machine has it
found : (c : In_ok-z) →
    let a = c.args in
    natural a.sep (drop (a.at + 1) a.s.now) (a.at + 1) ≡ Some (c.in_ok-z.z, c.in_ok-z.next)
found c = sym c.read_natural-2.ensures ∙ c.in_ok-z.was

back : (c : In_ok-z) → read c.in_ok-z.z ≡ c.in_ok-z.z
back c = search rules

small : (c : In_ok-z) → let z = c.in_ok-z.z in (z ≡ pos (nat_abs z)) × (nat_abs z < 1000000000000000000)
small c = natural-small _ _ _ _ _ (found c)

pub returns-in_err-b-clause-value : goal.returns-in_err-b-clause-value
returns-in_err-b-clause-value c = rw c.from_residual.ensures (sym (number-end _ _ _ c.in_err-b.ensures.lookup.3))

-- what is defined, by the byte at the place: it is no minus, or one
other : (c : In_ok-b) → (c.in_ok-b.field-0.now ≡ 45 → ⊥) → number_at c.args.sep c.args.s.now c.args.at ≡ natural c.args.sep (drop c.args.at c.args.s.now) c.args.at
other c q = let b = c.in_ok-b.ensures.lookup.3 in number-at _ _ _ b.0 ∙ simp (← b.1 0, ne_eqb _ _ q)

minus : (c : In_ok-b) → c.in_ok-b.field-0.now ≡ 45 → number_at c.args.sep c.args.s.now c.args.at ≡ negated (natural c.args.sep (drop (c.args.at + 1) c.args.s.now) (c.args.at + 1))
minus c q = let b = c.in_ok-b.ensures.lookup.3 in number-at _ _ _ b.0 ∙ simp (← b.1 0, eq-eqb _ _ q)

pub returns-then-b-ne45 : goal.returns-then-b-ne45
returns-then-b-ne45 c =
    let t = number-answer c.args.sep c.args.s.now c.args.at c.read_natural.result (c.read_natural.ensures ∙ sym (other (goal.at.returns-then-b-ne45 c).In_ok-b c.if-b-ne45.true)) in
    record { value = t.0; past = t.1 }

pub returns-in_err-z-clause-value : goal.returns-in_err-z-clause-value
returns-in_err-z-clause-value c = rw c.from_residual-in_err-z.ensures (sym (minus (goal.at.returns-in_err-z-clause-value c).In_ok-b c.if-b-ne45.false ∙ simp (sym c.read_natural-2.ensures ∙ c.in_err-z.was)))

pub returns-then-z-eq0-clause-value : goal.returns-then-z-eq0-clause-value
returns-then-z-eq0-clause-value c =
    let k = (goal.at.returns-then-z-eq0-clause-value c).In_ok-z in
    sym (minus (goal.at.returns-then-z-eq0-clause-value c).In_ok-b c.if-b-ne45.false ∙ simp (found k, ap nat_abs (sym (back k) ∙ ap (to_z w64) c.if-z-eq0.true)))

pub sub-requires : goal.sub-requires
sub-requires c = omega (arith, ap nat_abs (back (goal.at.sub-requires c).In_ok-z), (small (goal.at.sub-requires c).In_ok-z).1)

lessened : (c : After-sub) → read c.sub.result ≡ neg_ℤ c.in_ok-z.z
lessened c =
    let e = c.sub.ensures in
    to_z-of_z e.fits ∙ e.value ∙ ap (λ (y : ℤ). pos 0 -ℤ y) (back (goal.at.After-sub c).In_ok-z) ∙ +ℤ_idl (neg_ℤ c.in_ok-z.z)

pub returns : goal.returns
returns c =
    let k = (goal.at.returns c).In_ok-z in
    let t = number-answer c.args.sep c.args.s.now c.args.at (Some (read c.sub.result, c.in_ok-z.next))
    (sym (minus (goal.at.returns c).In_ok-b c.if-b-ne45.false ∙ simp (found k, ne_eqb _ _ (λ q. c.if-z-eq0.false (ap (of_z w64) ((small k).0 ∙ ap pos q))), lessened (goal.at.returns c).After-sub))) in
    record { value = t.0; past = t.1 }
