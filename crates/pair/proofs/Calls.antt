-- What the study's answer says of the buffer that the check then reads: the report stands at its start, and passes. Assumes nothing.
use Rattle.std.specs.Prelude.{List, ◌≡◌, refl, ℕ, ltb, length, take, Ok, Err}
use Rattle.std.proofs.Common.{◌∙◌, ap, sym, arith, take_at}
use Rattle.answers.specs.AnswerLaws.{bound, not-if, not-refused, same_good}
use Rattle.answers.specs.Answers.{Outcome, ◌>>◌, done, refuse_if}
use Rattle.answers.specs.declared.Refusal.TheVariants.{BufferShort}
use Rattle.ladder.specs.Study.{Report, answered, buffer_of, filled, fitted, report, study_of}
use Rattle.ladder.specs.declared.Written.{Written}
use Rattle.pair.specs.Pair.{Passes}
use Rattle.pair.specs.PairHolds.{pair-law}
use Rattle.verdicts.specs.Check.{checked}
use Rattle.verdicts.proofs.Demand.{demand3}

-- a report that fits is the report
fitted-report : (s : List ℕ) (n : ℕ) (t : Report) → fitted s n ≡ Ok t → report s ≡ Ok t
unfolding fitted
fitted-report s n t e =
    let b = bound (report s) (λ t. refuse_if (ltb n (length t.text)) (BufferShort (length t.text)) >> Ok t) t e in
    let c = not-if (ltb n (length b.value.text)) _ (Ok b.value) t b.rest in
    b.came ∙ c.1

start-passes : (s out : List ℕ) (w : Written) (x : Outcome Report) → ((t : Report) → x ≡ Ok t → report s ≡ Ok t) → answered x ≡ Ok w → checked s (take w.length (filled out x)) ≡ Ok done
start-passes s out w (Ok t) h e =
    let l : length t.text ≡ w.length = ap (λ (y : Written). y.length) (same_good _ w e) in
    ap (checked s) (take_at t.text _ w.length l) ∙ pair-law s t (h t refl)
start-passes s out w (Err r) h e = not-refused r w e

pub written-passes : (s out : List ℕ) (w : Written) → study_of s (length out) ≡ Ok w → checked s (take w.length (buffer_of s out)) ≡ Ok done
unfolding study_of buffer_of
written-passes s out w e = start-passes s out w (fitted s (length out)) (fitted-report s (length out)) e

-- of an answer that is the study's and a buffer as the study leaves it
pub passes-written : (s before after : List ℕ) (r : Outcome Written) → r ≡ study_of s (length before) → after ≡ buffer_of s before → (w : Written) → r ≡ Ok w → Passes s after w.length
passes-written s before after r e b w q =
    let p : checked s (take w.length after) ≡ Ok done = rw b (written-passes s before w (sym e ∙ q)) in
    record { passes = p; account = demand3 s (take w.length after) p }
