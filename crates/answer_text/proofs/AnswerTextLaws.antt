-- A text that was written from the start of a buffer, or one that has no room there. Assumes nothing.
use Rattle.std.specs.Prelude.{List, [], ◌++◌, ◌≡◌, refl, ◌+◌, ◌<◌, ◌≤◌, ℕ, drop, length}
use Rattle.std.proofs.Common.{◌∙◌, ap, sym, arith, length-append, length-take-le, le-ltb, lt-ltb}
use Rattle.answer_text.specs.AnswerText.{PutAtStart, refused_line, whole_or_nothing}
use Rattle.text.specs.Promises.{Written}
use Rattle.text.specs.Stores.{written-parts}
use Rattle.text.specs.Text.{bytes, digits}
use Rattle.text.specs.TextLaws.{decimal-natural, digits-fit}

pub whole-short : (n : ℕ) (text : List ℕ) → n < length text → whole_or_nothing n text ≡ []
unfolding whole_or_nothing
whole-short n text q = rw (lt-ltb n (length text) q)

pub whole_room : (n : ℕ) (text : List ℕ) → length text ≤ n → whole_or_nothing n text ≡ text
unfolding whole_or_nothing
whole_room n text q = rw (le-ltb n (length text) q)

-- no room: nothing is written
pub put-nothing : (text before : List ℕ) → length before < length text → PutAtStart text before 0 before
put-nothing text before q =
    let e = whole-short (length before) text q in
    record { size = sym (ap length e); holds = sym (ap (λ (l : List ℕ). l ++ before) e); fits = omega arith; stands = refl }

-- the text stands at the start, and behind it what stood there
pub put_all : (text before after : List ℕ) (written : ℕ) → length text ≤ length before → written ≡ length text → after ≡ text ++ drop (length text) before → PutAtStart text before written after
put_all text before after written q e h =
    let w = whole_room (length before) text q in
    let fits : written ≤ length after = omega (arith, ap length h, length-append text (drop (length text) before)) in
    record {
      size = e ∙ sym (ap length w);
      holds = h ∙ ap (λ (n : ℕ). text ++ drop n before) (sym e) ∙ sym (ap (λ (l : List ℕ). l ++ drop written before) w);
      fits = fits;
      stands = sym (length-take-le written after fits);
    }

pub put_written : {text before after : List ℕ} {written : ℕ} → length text ≤ length before → Written before 0 text written after → PutAtStart text before written after
put_written {text} {before} {after} {written} q w =
    let e : written ≡ length text = omega (arith, w.next) in
    put_all text before after written q e (written-parts {at = 0} (omega arith) w ∙ ap (λ (n : ℕ). text ++ drop n before) e)

-- the line of a refusal as it is written
pub refused-digits : (number value : ℕ) → refused_line number value ≡ bytes "refused " ++ (digits 20 number ++ (bytes " " ++ (digits 20 value ++ bytes "\n")))
unfolding refused_line
refused-digits number value = simp decimal-natural

pub refused-length : (number value : ℕ) → length (refused_line number value) ≡ length (digits 20 number) + length (digits 20 value) + 10
unfolding bytes
refused-length number value = rw (refused-digits number value) (simp length-append (omega arith))

-- 50 bytes are room enough for every line
pub refused-50 : (number value n : ℕ) → 50 ≤ n → length (refused_line number value) ≤ n
refused-50 number value n q = omega (arith, refused-length number value, digits-fit 20 number, digits-fit 20 value)
