-- The rounds of a study (02, S-5). Assumes nothing.
use Rattle.std.specs.Prelude.{cond, suc, zero, ℕ, Ok, Err}
use Rattle.answers.specs.Answers.{Outcome, ◌>>=◌}
use Rattle.answers.specs.declared.Refusal.TheVariants.{TapsMoving}
use Rattle.equations.specs.Taps.{at_rest, moved}
use Rattle.feeder.specs.Feeder.{Feeder, with_taps}
use Rattle.iteration.specs.Ladder.{Solution, solution}

-- what the rounds come to: the feeder with the taps of the last round, and its solution
pub record Regulated : Type 0 where
  pub feeder : Feeder
  pub solution : Solution

-- "The first round has the taps p1 to p3. After a settled study each phase that wants moves one step within −16 to 16, and the study runs anew, at most 32 rounds";
-- "It ends when no phase that wants can move"; "the sweeps reported, and the sweep in a refusal, are those of the last round". 30 to 34 of any round refuse the
-- study; 35, which returns 32: "some phase still wants and can move after 32 rounds". `left` rounds may still be made
unfoldable pub rounds : ℕ → Feeder → Outcome Regulated
rounds zero f = Err (TapsMoving 32)
rounds (suc left) f = do
  x ← solution f
  let next : Outcome Regulated = rounds left (with_taps (moved f x.voltages x.currents) f) in cond (at_rest f x.voltages x.currents) (Ok (record { feeder = f; solution = x })) next

unfoldable pub regulated : Feeder → Outcome Regulated
regulated f = rounds 32 f
