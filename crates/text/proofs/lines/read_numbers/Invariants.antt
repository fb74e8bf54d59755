-- `text::lines::read_numbers` meets its contract: at each turn the values read so far, in front of the numbers that are left, are the whole. Assumes nothing.
use mathlib.Core.Path.{◌≡◌}
use Prim.Native.Nat.{◌≤◌, ◌<◌, ◌-◌}
use lib.ListN.{length, take}
use Rattle.answers.specs.declared.Refusal.{Refusal}
use Rattle.text.specs.Lines.{numbers}
use Rattle.text.specs.LineLaws.{in_front}
use Rattle.text.proofs.lines.read_numbers.Given as goal

abbrev pub invariant-loop-k : goal.invariant-loop-k
invariant-loop-k l = record {
  kept : length l.values ≡ length l.initial.values;
  rest : (r : Refusal) → numbers r (length l.initial.values) l.s l.at ≡ in_front (take l.k l.values) (numbers r (length l.initial.values - l.k) l.s l.p);
  past : 0 < l.k → (l.at < l.p) × (l.p ≤ length l.s);
  further : l.at ≤ l.p;
}
