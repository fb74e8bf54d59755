-- The text of a verdict; "pass" is written of what meets the power account, and of nothing else. Assumes nothing.
use Rattle.std.specs.Prelude.{List, ◌≡◌, refl, ◌≤◌, ℕ, get_or, length, Ok, Err}
use Rattle.std.proofs.Common.{ap, arith}
use Rattle.account.specs.Account.{PowerAccount}
use Rattle.answer_text.specs.AnswerText.{refused_line, text_told, whole_or_nothing}
use Rattle.answer_text.proofs.AnswerTextLaws.{refused-50, whole_room}
use Rattle.answers.specs.Answers.{Done, Outcome, done, number_of, value_of}
use Rattle.answers.specs.declared.Refusal.{Refusal}
use Rattle.check_answer.specs.CheckAnswer.{check_text, pass_line}
use Rattle.verdicts.specs.Check.{checked}
use Rattle.verdicts.proofs.Demand.{demand3}
use Rattle.text.specs.Text.{bytes}

pub text-passed : (s t : List ℕ) → checked s t ≡ Ok done → check_text s t ≡ bytes "pass\n"
unfolding check_text
text-passed s t e = rw e

pub text-failed : (s t : List ℕ) (x : Refusal) → checked s t ≡ Err x → check_text s t ≡ refused_line (number_of x) (value_of x)
unfolding check_text
text-failed s t x e = rw e

-- the first letters differ
says-pass : (o : Outcome Done) → text_told pass_line o ≡ bytes "pass\n" → o ≡ Ok done
unfolding refused_line bytes
says-pass (Ok d) e = refl
says-pass (Err y) e = let z : ◌≡◌ {A = ℕ} 114 112 = ap (λ (l : List ℕ). get_or l 0 0) e in absurd (omega arith)

pub pass-accounts : (s t : List ℕ) → check_text s t ≡ bytes "pass\n" → PowerAccount s t
unfolding check_text
pass-accounts s t e = demand3 s t (says-pass (checked s t) e)

-- with 50 bytes or more the text is always written whole
told-whole : (o : Outcome Done) (n : ℕ) → 50 ≤ n → length (text_told pass_line o) ≤ n
unfolding bytes
told-whole (Ok d) n q = omega arith
told-whole (Err x) n q = refused-50 (number_of x) (value_of x) n q

pub check-whole : (s t : List ℕ) (n : ℕ) → 50 ≤ n → whole_or_nothing n (check_text s t) ≡ check_text s t
unfolding check_text
check-whole s t n q = whole_room n (check_text s t) (told-whole (checked s t) n q)
