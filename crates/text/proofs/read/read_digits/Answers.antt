-- `text::read::read_digits` meets its contract: at each turn the rest of the text, read behind v, gives what the whole gives. Assumes nothing.
use Rattle.std.specs.Prelude.{Some, None}
use borrow.Author.Rules.{rules}
use borrow.Author.Tests.{lt-ltb, le-ltb, eq-eqb, ne_eqb}
use mathlib.Core.Path.{◌≡◌, sym, ◌∙◌}
use mathlib.Core.Bool.{cond, ◌&&◌}
use Prim.Native.Nat.{◌-◌, ◌+◌, ◌*◌}
use native.Mathlib.Nat.{pos_of_ne-zero}
use lib.Dec.{ltb, eqb}
use lib.IntN.{pos}
use lib.ListN.{drop, get_or}
use mir.Facts.{to_z-of_z}
use Rattle.text.specs.Text.{more, digit}
use Rattle.text.specs.TextLaws.{more-at, more-end}
use Rattle.text.proofs.read.read_digits.Goals as goal
use Rattle.text.proofs.read.read_digits.Goals.{In-loop-i, then-not-is_digit-via-then-not-is_digit, then-not-is_digit-via-else-not-is_digit+then-leading, then-not-is_digit-via-else-not-is_digit+else-leading+then-full}

-- the invariant, with the byte at i taken
turn : (c : In-loop-i) →
    let a = c.args in
    let s = a.s.now in
    let i = c.loop-i.i in
    let v = c.loop-i.v in
    more a.sep (drop a.from s) a.from a.first ≡ cond (eqb (get_or s i 0) a.sep) (Some (pos v, i + 1))
    (cond (digit (get_or s i 0) && (ltb 0 v && ltb v 100000000000000000)) (more a.sep (drop (i + 1) s) (i + 1) (v * 10 + (get_or s i 0 - 48))) None)
turn c = c.loop-i.invariant.rest ∙ more-at _ _ _ _ c.loop-i-test.true

pub returns-then-b-sep : goal.returns-then-b-sep
returns-then-b-sep c = sym (turn (goal.at.returns-then-b-sep c).In-loop-i ∙ simp (eq-eqb _ _ c.if-b-sep.true, to_z-of_z c.signed.ensures.fits ∙ c.signed.ensures.value))

pub returns-then-not-is_digit : goal.returns-then-not-is_digit
returns-then-not-is_digit c =
    let t = turn (goal.at.returns-then-not-is_digit c).In-loop-i in
    let e = ne_eqb _ _ c.if-b-sep.false in
    elim c.then-not-is_digit.branch [ then-not-is_digit-via-then-not-is_digit w ↦ sym (t ∙ simp (e, sym c.is_digit.ensures ∙ w.if-not-is_digit.true)) | then-not-is_digit-via-else-not-is_digit+then-leading w ↦ sym (t ∙ simp (e, sym c.is_digit.ensures ∙ w.if-not-is_digit.false, w.if-leading.true)) | then-not-is_digit-via-else-not-is_digit+else-leading+then-full w ↦ sym (t ∙ simp (e, sym c.is_digit.ensures ∙ w.if-not-is_digit.false, lt-ltb _ _ (pos_of_ne-zero w.if-leading.false), le-ltb _ _ w.if-full.true)) ]

pub loop-i-preserved : goal.loop-i-preserved
loop-i-preserved c =
    record {
      below = search rules;
      rest = turn (goal.at.loop-i-preserved c).In-loop-i ∙ simp (ne_eqb _ _ c.if-b-sep.false, sym c.is_digit.ensures ∙ c.if-not-is_digit.false, lt-ltb _ _ (pos_of_ne-zero c.if-leading.false), lt-ltb _ _ c.if-full.false);
    }

pub returns : goal.returns
returns c = sym (c.loop-i.invariant.rest ∙ more-end _ _ _ _ c.loop-i-test.false)
