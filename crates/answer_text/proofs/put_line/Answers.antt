-- `answer_text::put_line` meets its contract: five texts, one behind the other. Assumes nothing.
use mathlib.Core.List.{[], ◌++◌, ◌∷◌, append_assoc}
use mathlib.Core.Path.{◌≡◌}
use Prim.Native.Nat.{◌+◌, ◌≤◌}
use native.Mathlib.Omega.{arith}
use lib.ListN.{length, length-append}
use Rattle.answer_text.proofs.AnswerTextLaws.{refused-digits, refused-length}
use Rattle.text.specs.Promises.{Written}
use Rattle.text.specs.Stores.{written_behind, written-length}
use Rattle.text.specs.Text.{bytes, digits}
use Rattle.answer_text.proofs.put_line.Goals as goal
use Rattle.answer_text.proofs.put_line.Goals.{After-put_byte-blank, After-put_digits-end, After-put_digits-told, Start}

-- room for the line
room : (c : Start) → length (digits 20 c.args.number) + length (digits 20 c.args.value) + 10 ≤ length c.args.out.now
room c = omega (arith, refused-length c.args.number c.args.value, c.requires)

-- what stands there behind the second, the third and the fourth text
told : (c : After-put_digits-told) → Written c.args.out.now 0 (bytes "refused " ++ digits 20 c.args.number) c.put_digits-told.result c.put_digits-told.new.out
unfolding bytes
told c = written_behind c.put_bytes-words.ensures c.put_digits-told.ensures

blank : (c : After-put_byte-blank) → Written c.args.out.now 0 ((bytes "refused " ++ digits 20 c.args.number) ++ (32 ∷ [])) c.put_byte-blank.result c.put_byte-blank.new.out
blank c = written_behind (told (goal.at.After-put_byte-blank c).After-put_digits-told) c.put_byte-blank.ensures

valued : (c : After-put_digits-end) →
    Written c.args.out.now 0 (((bytes "refused " ++ digits 20 c.args.number) ++ (32 ∷ [])) ++ digits 20 c.args.value) c.put_digits-end.result c.put_digits-end.new.out
valued c = written_behind (blank (goal.at.After-put_digits-end c).After-put_byte-blank) c.put_digits-end.ensures

pub put_bytes-words-requires : goal.put_bytes-words-requires
put_bytes-words-requires c = omega (arith, room (goal.at.put_bytes-words-requires c).Start)

pub put_digits-told-requires : goal.put_digits-told-requires
put_digits-told-requires c =
    omega (arith, room (goal.at.put_digits-told-requires c).Start, c.put_bytes-words.ensures.next, written-length c.put_bytes-words.ensures)

pub put_byte-blank-requires : goal.put_byte-blank-requires
unfolding bytes
put_byte-blank-requires c =
    let w = told (goal.at.put_byte-blank-requires c).After-put_digits-told in
    omega (arith, room (goal.at.put_byte-blank-requires c).Start, simp length-append at w.next, written-length w)

pub put_digits-end-requires : goal.put_digits-end-requires
unfolding bytes
put_digits-end-requires c =
    let w = blank (goal.at.put_digits-end-requires c).After-put_byte-blank in
    omega (arith, room (goal.at.put_digits-end-requires c).Start, simp length-append at w.next, written-length w)

pub put_byte-requires : goal.put_byte-requires
unfolding bytes
put_byte-requires c =
    let w = valued (goal.at.put_byte-requires c).After-put_digits-end in
    omega (arith, room (goal.at.put_byte-requires c).Start, simp length-append at w.next, written-length w)

pub returns : goal.returns
unfolding bytes
returns c =
    let n = digits 20 c.args.number in
    let v = digits 20 c.args.value in
    let e : ((((bytes "refused " ++ n) ++ (32 ∷ [])) ++ v) ++ (10 ∷ [])) ≡ bytes "refused " ++ (n ++ (bytes " " ++ (v ++ bytes "\n"))) = simp append_assoc in
    rw (refused-digits c.args.number c.args.value, ← e) (written_behind (valued (goal.at.returns c).After-put_digits-end) c.put_byte.ensures)
