-- `text::lines::read_numbers` meets its contract: at each turn the values read so far, in front of the numbers that are left, are the whole. Assumes nothing.
use borrow.Author.Rules.{rules}
use mathlib.Core.Path.{◌≡◌, sym, ap, ◌∙◌}
use mathlib.Core.List.{List, ◌∷◌, [], ◌++◌}
use Prim.Native.Nat.{◌≤◌, ◌<◌, ◌-◌, ◌+◌}
use native.Mathlib.Omega.{arith}
use lib.IntN.{ℤ}
use lib.ListN.{length, take, set, length-set}
use lib.Seq.{take_all}
use Rattle.answers.specs.declared.Refusal.{Refusal}
use Rattle.integers.specs.Machine.{read}
use Rattle.text.specs.Lines.{numbers}
use Rattle.text.specs.TextLaws.{take_next}
use Rattle.text.specs.LineLaws.{in_front, on_number, numbers-none, numbers_more}
use Rattle.text.proofs.lines.read_numbers.Goals as goal
use Rattle.text.proofs.lines.read_numbers.Goals.{After-read_number, In_ok-z}

-- the invariant, with the number at the place taken
turn : (c : After-read_number) →
    let a = c.args in
    let n = length a.values.now in
    let o = c.loop-k in
    (r : Refusal) → numbers r n a.s.now a.at ≡ on_number r (take o.k o.values) c.read_number.result (numbers r (n - (o.k + 1)) a.s.now)
turn c r =
    let n = length c.args.values.now in
    let o = c.loop-k in
    let e : n - o.k - 1 ≡ n - (o.k + 1) = omega arith in
    let f : length o.values ≡ n = o.invariant.kept in
    o.invariant.rest r ∙ numbers_more _ _ _ _ _ (omega arith) ∙ simp (e, c.read_number.ensures.value, c.sep_of.ensures, f)

back : (c : In_ok-z) → read c.in_ok-z.z ≡ c.in_ok-z.z
back c = search rules

grown : (c : In_ok-z) →
    let o = c.loop-k in
    let z = c.in_ok-z.z in
    take o.k o.values ++ (z ∷ []) ≡ take (o.k + 1) (set o.values o.k (read z))
grown c =
    let o = c.loop-k in
    let f : o.k < length o.values = omega arith in
    sym (take_next o.values o.k (read c.in_ok-z.z) f ∙ ap (λ (y : ℤ). take o.k o.values ++ (y ∷ [])) (back c))

pub returns-in_err-z-clause-value : goal.returns-in_err-z-clause-value
returns-in_err-z-clause-value c = rw c.from_residual.ensures (λ r. turn (goal.at.returns-in_err-z-clause-value c).After-read_number r ∙ simp c.in_err-z.was)

pub loop-k-preserved : goal.loop-k-preserved
loop-k-preserved c =
    let a = c.args in
    let o = c.loop-k in
    let i = o.invariant in
    let p = c.read_number.ensures.past _ _ c.in_ok-z.was in
    record {
      kept = simp length-set i.kept;
      rest = λ r. turn (goal.at.loop-k-preserved c).After-read_number r ∙ simp c.in_ok-z.was (ap (λ (l : List ℤ). in_front l (numbers r (length a.values.now - (o.k + 1)) a.s.now c.in_ok-z.next)) (grown (goal.at.loop-k-preserved c).In_ok-z));
      past = λ h. omega (arith, p, i.further);
      further = omega (arith, p, i.further);
    }

pub returns-clause-value : goal.returns-clause-value
returns-clause-value c =
    let o = c.loop-k in
    let i = o.invariant in
    let e : length c.args.values.now - o.k ≡ 0 = omega arith in
    let l : length o.values ≤ o.k = omega (arith, i.kept) in
    λ r. i.rest r ∙ simp (e, take_all o.k o.values l) (numbers-none r _ _ _)
