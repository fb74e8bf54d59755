-- `text::read::read_name` meets its contract: at each turn the rest of the text, read behind v, gives what the whole gives. Assumes nothing.
use Rattle.std.specs.Prelude.{Some, None}
use borrow.Author.Tests.{lt-ltb, le-ltb, eq-eqb, ne_eqb}
use mathlib.Core.Path.{◌≡◌, sym, ◌∙◌}
use mathlib.Core.Bool.{cond, ◌&&◌}
use Prim.Native.Nat.{◌+◌, ◌*◌}
use native.Mathlib.Omega.{arith}
use lib.Dec.{ltb, eqb}
use lib.ListN.{drop, get_or}
use Rattle.text.specs.Text.{letter, name}
use Rattle.text.specs.TextLaws.{name-at, name-end}
use Rattle.text.proofs.read.read_name.Goals as goal
use Rattle.text.proofs.read.read_name.Goals.{In-loop-i, then-not-is_letter-via-then-not-is_letter, then-not-is_letter-via-else-not-is_letter+then-full}

-- the invariant, with the byte at i taken
turn : (c : In-loop-i) →
    let a = c.args in
    let s = a.s.now in
    let i = c.loop-i.i in
    let v = c.loop-i.v in
    name a.sep (drop a.at s) a.at 0 ≡ cond (eqb (get_or s i 0) a.sep) (cond (eqb v 0) None (Some (v, i + 1)))
    (cond (letter (get_or s i 0) && ltb v 72057594037927936) (name a.sep (drop (i + 1) s) (i + 1) (v * 256 + get_or s i 0)) None)
turn c = c.loop-i.invariant.rest ∙ name-at _ _ _ _ c.loop-i-test.true

pub returns-then-v-gt0-clause-value : goal.returns-then-v-gt0-clause-value
returns-then-v-gt0-clause-value c = sym (turn (goal.at.returns-then-v-gt0-clause-value c).In-loop-i ∙ simp (eq-eqb _ _ c.if-b-sep.true, ne_eqb c.loop-i.v 0 (λ q. omega arith)))

pub returns-else-v-gt0-clause-value : goal.returns-else-v-gt0-clause-value
returns-else-v-gt0-clause-value c = sym (turn (goal.at.returns-else-v-gt0-clause-value c).In-loop-i ∙ simp (eq-eqb _ _ c.if-b-sep.true, eq-eqb c.loop-i.v 0 (omega arith)))

pub returns-then-not-is_letter-clause-value : goal.returns-then-not-is_letter-clause-value
returns-then-not-is_letter-clause-value c =
    let t = turn (goal.at.returns-then-not-is_letter-clause-value c).In-loop-i in
    let e = ne_eqb _ _ c.if-b-sep.false in
    elim c.then-not-is_letter.branch [ then-not-is_letter-via-then-not-is_letter w ↦ sym (t ∙ simp (e, sym c.is_letter.ensures ∙ w.if-not-is_letter.true)) | then-not-is_letter-via-else-not-is_letter+then-full w ↦ sym (t ∙ simp (e, sym c.is_letter.ensures ∙ w.if-not-is_letter.false, le-ltb _ _ w.if-full.true)) ]

pub loop-i-preserved : goal.loop-i-preserved
loop-i-preserved c =
    record {
      below = omega (arith, c.type_inv.s c.loop-i.i);
      rest = turn (goal.at.loop-i-preserved c).In-loop-i ∙ simp (ne_eqb _ _ c.if-b-sep.false, sym c.is_letter.ensures ∙ c.if-not-is_letter.false, lt-ltb _ _ c.if-full.false);
    }

pub returns-clause-value : goal.returns-clause-value
returns-clause-value c = sym (c.loop-i.invariant.rest ∙ name-end _ _ _ _ c.loop-i-test.false)
