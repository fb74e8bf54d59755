-- The buffer behind the study's answer, and behind the line of its refusal. Assumes nothing.
use Rattle.std.specs.Prelude.{List, ◌≡◌, refl, ◌≤◌, ℕ, length, Ok, Err}
use Rattle.std.proofs.Common.{◌∙◌, ap, sym, arith}
use Rattle.answer_text.specs.AnswerText.{PutAtStart, refused_line, text_told, whole_or_nothing}
use Rattle.answer_text.proofs.AnswerTextLaws.{put_all, refused-50, whole_room}
use Rattle.answers.specs.AnswerLaws.{not-refused, not_good, same-refused, same_good}
use Rattle.answers.specs.Answers.{Outcome, number_of, value_of}
use Rattle.answers.specs.declared.Refusal.{Refusal}
use Rattle.ladder.specs.Study.{Report, answered, buffer_of, filled, fitted, study_of}
use Rattle.ladder.proofs.StudyLaws.{study-good}
use Rattle.ladder.specs.declared.Written.{Written}
use Rattle.study_answer.specs.StudyAnswer.{study_text, text_in}

-- a report: the study wrote it
written-put : (o : Outcome Report) (out after : List ℕ) (w : Written) → answered o ≡ Ok w → w.length ≤ length out → after ≡ filled out o → PutAtStart (text_told text_in o) out w.length after
written-put (Ok t) out after w e q h = let l : length t.text ≡ w.length = ap (λ (y : Written). y.length) (same_good _ w e) in put_all t.text out after w.length (omega arith) (sym l) h
written-put (Err r) out after w e q h = not-refused r w e

pub study-written : (s out after : List ℕ) (w : Written) → study_of s (length out) ≡ Ok w → after ≡ buffer_of s out → PutAtStart (study_text s (length out)) out w.length after
unfolding study_of buffer_of study_text
study-written s out after w e h = written-put (fitted s (length out)) out after w e (study-good s (length out) w e).fits h

-- a refusal: the study left the buffer as it was, and the text is its line
refused-text : (o : Outcome Report) (x : Refusal) → answered o ≡ Err x → text_told text_in o ≡ refused_line (number_of x) (value_of x)
refused-text (Ok t) x e = not_good _ x e
refused-text (Err y) x e = ap (λ (r : Refusal). refused_line (number_of r) (value_of r)) (same-refused y x e)

refused-buffer : (o : Outcome Report) (x : Refusal) (out : List ℕ) → answered o ≡ Err x → filled out o ≡ out
refused-buffer (Ok t) x out e = not_good _ x e
refused-buffer (Err y) x out e = refl

pub study-refused : (s out between after : List ℕ) (x : Refusal) (r : ℕ) → study_of s (length out) ≡ Err x → between ≡ buffer_of s out →
    PutAtStart (refused_line (number_of x) (value_of x)) between r after → PutAtStart (study_text s (length out)) out r after
unfolding study_of buffer_of study_text
study-refused s out between after x r e h p =
    let o = fitted s (length out) in
    let b : between ≡ out = h ∙ refused-buffer o x out e in
    rw (refused-text o x e, ← b) p

-- with 50 bytes or more the text is always written whole: where the report has no room, the line of 40 has
told-whole : (o : Outcome Report) (n : ℕ) → 50 ≤ n → ((w : Written) → answered o ≡ Ok w → w.length ≤ n) → length (text_told text_in o) ≤ n
told-whole (Ok t) n q h = h (record { length = length t.text; sweeps = t.sweeps }) refl
told-whole (Err x) n q h = refused-50 (number_of x) (value_of x) n q

pub study-whole : (s : List ℕ) (n : ℕ) → 50 ≤ n → whole_or_nothing n (study_text s n) ≡ study_text s n
unfolding study_of study_text
study-whole s n q = whole_room n (study_text s n) (told-whole (fitted s n) n q (λ w e. (study-good s n w e).fits))
