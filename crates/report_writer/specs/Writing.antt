-- A table's lines written one by one, and what ends it behind them. Assumes nothing.
use Rattle.std.specs.Prelude.{List, [], ◌++◌, ◌∷◌, ◌+◌, ◌<◌, ◌≤◌, ℕ, length}
use Rattle.std.proofs.Common.{append_assoc, append-nil, arith}
use Rattle.report_writer.specs.Left.{Left, left-all, left-last, left-next, left-room, written_none}
use Rattle.report_writer.specs.TableLaws.{lines_next, lines_none}
use Rattle.report_writer.specs.Tables.{lines_from}
use Rattle.text.specs.Promises.{Written}

-- the empty line that ends a table; the last has none
abbrev pub empty_line : List ℕ
empty_line = 10 ∷ []

-- the lines k to n, and the table's end
abbrev pub due_from : (ℕ → List ℕ) → List ℕ → ℕ → ℕ → List ℕ
due_from g e k n = lines_from g k n ++ e

-- the lines j to n and the end are due in `first` from place `start` on; those before k have been written, and the rest is due at place `at` of `out`
pub record Writing (g : ℕ → List ℕ) (e : List ℕ) (n j : ℕ) (first : List ℕ) (start : ℕ) (out : List ℕ) (at k : ℕ) : Type 0 where
  pub low : j ≤ k
  pub due : Left first start (due_from g e j n) out at (due_from g e k n)

pub writing-all : (g : ℕ → List ℕ) (e : List ℕ) (n j : ℕ) (out : List ℕ) (at : ℕ) → Writing g e n j out at out at j
writing-all g e n j out at = record { low = omega arith; due = left-all out at _ }

module _ {g : ℕ → List ℕ} {e : List ℕ} {n j : ℕ} {first : List ℕ} {start : ℕ} {out : List ℕ} {at k : ℕ} (w : Writing g e n j first start out at k) where
  -- the line of row k is next, where there is one
  next : k ≤ n → Left first start (due_from g e j n) out at (g k ++ due_from g e (k + 1) n)
  next h = rw (lines_next g k n h, append_assoc) at w.due

  pub line-room : k ≤ n → start + length (due_from g e j n) ≤ length first → at + length (g k) ≤ length out
  line-room h r = left-room (g k) _ r (next h)

  pub line-written : {p : ℕ} {last : List ℕ} → k ≤ n → Written out at (g k) p last → Writing g e n j first start last p (k + 1)
  line-written h v = record { low = let l = w.low in omega arith; due = left-next _ (next h) v }

  -- and behind the last the end
  end : n < k → Left first start (due_from g e j n) out at e
  end h = rw (lines_none g k n h) at w.due

  pub end-room : n < k → start + length (due_from g e j n) ≤ length first → at + length e ≤ length out
  end-room h r =
      let l : Left first start (due_from g e j n) out at (e ++ []) = rw (append-nil e) (end h) in
      left-room e [] r l

  pub end-written : {p : ℕ} {last : List ℕ} → n < k → Written out at e p last → Written first start (due_from g e j n) p last
  end-written h v = left-last (end h) v

-- with no end there is nothing behind the last line
pub none_written : {g : ℕ → List ℕ} {n j : ℕ} {first : List ℕ} {start : ℕ} {out : List ℕ} {at k : ℕ} → Writing g [] n j first start out at k → n < k → Written first start (lines_from g j n) at out
none_written {g} {n} {j} {out = out} {at = at} w h = rw (append-nil (lines_from g j n)) at (end-written w h (written_none out at))
