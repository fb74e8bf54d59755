-- A table's rows, read one after the other. Assumes nothing.
use Rattle.std.specs.Prelude.{Bool, false, true, List, [], ◌++◌, ◌∷◌, ◌≡◌, drop, length, replicate, Ok, Err}
use Rattle.std.proofs.Common.{append_assoc, append-nil, ap, sym, ◌∙◌, add-zero, not-suc-le-zero, zero-add, length-append}
use Rattle.std.proofs.Math.Path.{refl}
use Prim.Native.Nat.{◌+◌, ◌-◌, ◌<◌, suc, zero, ℕ}
use Prim.Native.String.{String}
use Rattle.std.proofs.Math.Nat.{sub-zero}
use native.Mathlib.Omega.{arith}
use Rattle.answers.specs.Answers.{Outcome, ◌>>=◌}
use Rattle.answers.specs.declared.Refusal.{Refusal}
use Rattle.answers.specs.declared.Refusal.TheVariants.{Layout}
use Rattle.text.specs.Lines.{text}
use Rattle.text.specs.Text.{begins, bytes, Placed}
use Rattle.feeder.specs.Layout.{branch_row, branch_table, empty_line, file_end, load_row, load_table, rows, source_table}
use Rattle.feeder.specs.Network.{kept}
use Rattle.feeder.specs.NetworkLaws.{blank-kept}
use Rattle.feeder.specs.declared.BranchRow.{BranchRow}
use Rattle.feeder.specs.declared.LoadRow.{LoadRow}
use Rattle.text.specs.LineLaws.{text-missing, text-stands}
use Rattle.tables.specs.Read.{branch_names, branches_from, load_names, loads_from, source_from, source_names}

-- ---- the rows read so far, in front of those that come
abbrev pub behind : {X : Type 0} → List X → Outcome (Placed (List X)) → Outcome (Placed (List X))
behind l (Ok x) = Ok (l ++ x.0, x.1)
behind l (Err r) = Err r

behind-none : {X : Type 0} (o : Outcome (Placed (List X))) → behind [] o ≡ o
behind-none (Ok x) = refl
behind-none (Err r) = refl

behind-cons : {X : Type 0} (l : List X) (x : X) (o : Outcome (Placed (List X))) → behind l (o >>= λ y. Ok (x ∷ y.0, y.1)) ≡ behind (l ++ (x ∷ [])) o
behind-cons l x (Ok y) = ap (λ (m : List _). Ok (m, y.1)) (sym (append_assoc l (x ∷ []) y.0))
behind-cons l x (Err r) = refl

module _ {X : Type 0} (read : Refusal → List ℕ → ℕ → Outcome (Placed X)) (over : ℕ → Bool) where
  -- ---- one turn of `rows`
  rows-over : (f : ℕ) (s : List ℕ) (line at : ℕ) → over at ≡ true → rows read f s line at over ≡ Ok ([], at)
  unfolding rows
  rows-over zero s line at e = refl
  rows-over (suc f) s line at e = simp e

  rows-bad : (f : ℕ) (s : List ℕ) (line at : ℕ) (r : Refusal) → 0 < f → over at ≡ false → read (Layout line) s at ≡ Err r → rows read f s line at over ≡ Err r
  unfolding rows
  rows-bad zero s line at r h e k = absurd (not-suc-le-zero h)
  rows-bad (suc f) s line at r h e k = simp (e, k)

  rows_next : (f : ℕ) (s : List ℕ) (line at : ℕ) (x : X) (next : ℕ) → 0 < f → over at ≡ false → read (Layout line) s at ≡ Ok (x, next) →
      rows read f s line at over ≡ (rows read (f - 1) s (line + 1) next over >>= λ y. Ok (x ∷ y.0, y.1))
  unfolding rows
  rows_next zero s line at x next h e k = absurd (not-suc-le-zero h)
  rows_next (suc f) s line at x next h e k =
      let m : suc f - 1 ≡ f = omega arith in
      simp (e, k, m)

-- ---- the loop: n rows have been read from the place `from` on, which stands in a line, an array keeps them, and the next row is due at the place `at`
pub record Going {X : Type 0} (read : Refusal → List ℕ → ℕ → Outcome (Placed X)) (over : ℕ → Bool) (d : X) (room : ℕ) (s : List ℕ) (line from at n : ℕ) (cells : List X) : Type 0 where
  pub so_far : List X
  pub whole : rows read (length s) s line from over ≡ behind so_far (rows read (length s - n) s (line + n) at over)
  pub counted : n ≡ length so_far
  pub held : cells ≡ kept d room so_far

module _ {X : Type 0} (read : Refusal → List ℕ → ℕ → Outcome (Placed X)) (over : ℕ → Bool) (d : X) (room : ℕ) (s : List ℕ) (line from : ℕ) where
  pub going_start : (cells : List X) → cells ≡ replicate room d → Going read over d room s line from from 0 cells
  going_start cells e = record {
    so_far = [];
    whole = simp (sub-zero, add-zero) (sym (behind-none _));
    counted = refl;
    held = e ∙ blank-kept d room;
  }

  module _ (at n : ℕ) (cells : List X) (g : Going read over d room s line from at n cells) where
    pub going-over : over at ≡ true → rows read (length s) s line from over ≡ Ok (g.so_far, at)
    going-over e = g.whole ∙ simp (rows-over read over (length s - n) s (line + n) at e, append-nil)

    module _ (some : n < length s) (e : over at ≡ false) where
      pub going-bad : read (Layout (line + n)) s at ≡ Err (Layout (line + n)) → rows read (length s) s line from over ≡ Err (Layout (line + n))
      going-bad k = g.whole ∙ simp (rows-bad read over (length s - n) s (line + n) at (Layout (line + n)) (omega arith) e k)

      pub going_next : (x : X) (next : ℕ) → read (Layout (line + n)) s at ≡ Ok (x, next) → (cells-now : List X) → cells-now ≡ kept d room (g.so_far ++ (x ∷ [])) →
          Going read over d room s line from next (n + 1) cells-now
      going_next x next k cells-now h =
          let f : length s - n - 1 ≡ length s - (n + 1) = omega arith in
          let m : line + n + 1 ≡ line + (n + 1) = omega arith in
          record {
            so_far = g.so_far ++ (x ∷ []);
            whole = g.whole ∙ simp (rows_next read over (length s - n) s (line + n) at x next (omega arith) e k, f, m) (behind-cons g.so_far x (rows read (length s - (n + 1)) s (line + (n + 1)) next over));
            counted = simp length-append (omega arith);
            held = h;
          }

-- ---- the tables by their parts: the line of names, the rows, and the empty line behind the branches
module _ {Y : Type 0} (r : Refusal) (w : String) (s : List ℕ) (k : ℕ → Outcome Y) where
  named : begins (bytes w) (drop 0 s) ≡ true → (text r w s 0 >>= k) ≡ k (length (bytes w))
  named e = simp (text-stands r w s 0 e, zero-add)

  unnamed : begins (bytes w) (drop 0 s) ≡ false → (text r w s 0 >>= k) ≡ Err r
  unnamed e = simp (text-missing r w s 0 e)

pub source_named : (s : List ℕ) → begins (bytes source_names) (drop 0 s) ≡ true → source_table s ≡ source_from s 54
unfolding source_table source_from bytes
source_named s e = named (Layout 1) source_names s (source_from s) e

pub source_unnamed : (s : List ℕ) → begins (bytes source_names) (drop 0 s) ≡ false → source_table s ≡ Err (Layout 1)
unfolding source_table source_from
source_unnamed s e = unnamed (Layout 1) source_names s (source_from s) e

pub branches-named : (s : List ℕ) → begins (bytes branch_names) (drop 0 s) ≡ true → branch_table s ≡ branches_from s 59
unfolding branch_table branches_from bytes
branches-named s e = named (Layout 4) branch_names s (branches_from s) e

pub branches-unnamed : (s : List ℕ) → begins (bytes branch_names) (drop 0 s) ≡ false → branch_table s ≡ Err (Layout 4)
unfolding branch_table branches_from
branches-unnamed s e = unnamed (Layout 4) branch_names s (branches_from s) e

pub loads-named : (line : ℕ) (s : List ℕ) → begins (bytes load_names) (drop 0 s) ≡ true → load_table line s ≡ loads_from line s 23
unfolding load_table loads_from bytes
loads-named line s e = named (Layout line) load_names s (loads_from line s) e

pub loads-unnamed : (line : ℕ) (s : List ℕ) → begins (bytes load_names) (drop 0 s) ≡ false → load_table line s ≡ Err (Layout line)
unfolding load_table loads_from
loads-unnamed line s e = unnamed (Layout line) load_names s (loads_from line s) e

pub branches-bad : (s : List ℕ) (from : ℕ) (r : Refusal) → rows branch_row (length s) s 5 from (empty_line s) ≡ Err r → branches_from s from ≡ Err r
unfolding branches_from
branches-bad s from r e = simp e

pub branches-good : (s : List ℕ) (from : ℕ) (l : List BranchRow) (at : ℕ) → rows branch_row (length s) s 5 from (empty_line s) ≡ Ok (l, at) → begins (bytes "\n") (drop at s) ≡ true →
    branches_from s from ≡ Ok (l, at + 1)
unfolding branches_from bytes
branches-good s from l at e h = simp (e, text-stands (Layout (length l + 5)) "\n" s at h)

pub loads-bad : (line : ℕ) (s : List ℕ) (from : ℕ) (r : Refusal) → rows load_row (length s) s (line + 1) from (file_end s) ≡ Err r → loads_from line s from ≡ Err r
unfolding loads_from
loads-bad line s from r e = simp e

pub loads-good : (line : ℕ) (s : List ℕ) (from : ℕ) (l : List LoadRow) (at : ℕ) → rows load_row (length s) s (line + 1) from (file_end s) ≡ Ok (l, at) → loads_from line s from ≡ Ok l
unfolding loads_from
loads-good line s from l at e = simp e
