-- The pair (demand 2): the check "passes every report that the study writes". Assumes nothing.
use Rattle.std.specs.Prelude.{List, ◌≡◌, ℕ, take, Ok}
use Rattle.account.specs.Account.{PowerAccount}
use Rattle.answers.specs.Answers.{done}
use Rattle.ladder.specs.Study.{Report, report}
use Rattle.verdicts.specs.Check.{checked}

abbrev pub PairLaw : Type 0
PairLaw = (s : List ℕ) (t : Report) → report s ≡ Ok t → checked s t.text ≡ Ok done

-- of a buffer that holds a report of len bytes at its start: the check passes the report, and the power account holds of it
pub record Passes (s after : List ℕ) (len : ℕ) : Type 0 where
  pub passes : checked s (take len after) ≡ Ok done
  pub account : PowerAccount s (take len after)
