-- `tables::read_rows` meets its contract: at each turn the rows read so far, in front of those that are left, are the whole. Assumes nothing.
use Rattle.std.specs.Prelude.{Bool, List, ◌≡◌, ◌+◌, ◌-◌, ◌≤◌, ℕ, length, replicate}
use Rattle.answers.specs.Answers.{Outcome}
use Rattle.answers.specs.declared.Refusal.{Refusal}
use Rattle.text.specs.Text.{Placed}
use Rattle.tables.specs.Read.{Reads}
use Rattle.tables.specs.TableLaws.{Going}
use Rattle.tables.proofs.read_rows.Given as goal

abbrev pub invariant-loop-read : goal.invariant-loop-read
invariant-loop-read g l = record {
  ahead : l.n + l.from ≤ l.at;
  inside : l.at ≤ length l.part;
  going : (row : Refusal → List ℕ → ℕ → Outcome (Placed g.row.X.Denot)) (over : ℕ → Bool) (d : g.row.X.Denot) →
      Reads row over l.part (goal.R-post g l.read) (goal.E-post g l.ends) → l.initial.table ≡ replicate g.row.N d →
      Going row over d g.row.N l.part l.line l.from l.at l.n l.table;
}

abbrev pub decreases-loop-read : goal.decreases-loop-read
decreases-loop-read g l = length l.part - l.at
