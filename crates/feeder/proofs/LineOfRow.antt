-- Line n of a feeder's file is the text of the row that stands in line n (Faults). Assumes nothing.
use Rattle.std.specs.Prelude.{List, [], ◌++◌, ◌∷◌, ◌≡◌, refl, ◌+◌, ◌-◌, suc, ℕ, length}
use Rattle.std.proofs.Common.{append_assoc, ◌∙◌, ap, sym, arith}
use Rattle.std.proofs.Math.Seq.{drop-append_seam}
use Rattle.feeder.specs.Faults.{FileRow, InLine, Stands, of_branches, of_loads, of_source, written_as}
use Rattle.feeder.specs.File.{FileWritable, WellLaid, branch_names, branch_text, branches_text, file_of, first_lines, line_at, line_feeds, load_names, load_text, loads_text, row_of_source, source_names, source_text}
use Rattle.feeder.specs.FirstLines.{Ended, OneLine, ended-append, ended-none, ended-whole, feeds-append}
use Rattle.feeder.specs.Layout.{Rows}
use Rattle.feeder.specs.RowLine.{branch-names, load-names, row_line, source-names}
use Rattle.feeder.proofs.TableFaults.{branch-lines, source_lines}
use Rattle.feeder.proofs.TableRows.{branch-rows, load-rows}
use Rattle.integers.specs.ListLaws.{all_map}
use Rattle.integers.specs.Lists.{All}
use Rattle.text.specs.Text.{bytes, joined}

-- line n of s is l: s has n − 1 lines before it
pub record LineIs (s : List ℕ) (n : ℕ) (l : List ℕ) : Type 0 where
  front : List ℕ
  behind : List ℕ
  split : s ≡ front ++ (l ++ behind)
  ended : Ended front
  line : OneLine l
  number : n ≡ suc (line_feeds front)

pub line-is : {s : List ℕ} {n : ℕ} {l : List ℕ} → LineIs s n l → line_at n s ≡ l
unfolding line_at
line-is {s} {n} {l} h =
    let f = h.front in
    let one : first_lines (n - 1) s ≡ f = let e : n - 1 ≡ line_feeds f = omega (arith, h.number) in rw (h.split, e) (ended-whole f (l ++ h.behind) h.ended) in
    let both : first_lines n s ≡ f ++ l = let e : n ≡ 1 + line_feeds f = omega (arith, h.number) in rw (h.split, e)
    (h.ended 1 (l ++ h.behind) ∙ ap (λ (y : List ℕ). f ++ y) (rw h.line.one at (ended-whole l h.behind h.line.ended))) in
    rw (one, both) (drop-append_seam f l)

-- a text's first line, a line of what stands behind a text whose lines are all ended, and a line of what stands before another text
first-line : {l : List ℕ} (t : List ℕ) → OneLine l → LineIs (l ++ t) 1 l
unfolding line_feeds
first-line t h = record { front = []; behind = t; split = refl; ended = ended-none; line = h; number = refl }

pub behind-lines : {s l : List ℕ} {n : ℕ} (x : List ℕ) → Ended x → LineIs s n l → LineIs (x ++ s) (line_feeds x + n) l
behind-lines {l = l} x e h = record {
  front = x ++ h.front;
  behind = h.behind;
  split = ap (λ (y : List ℕ). x ++ y) h.split ∙ sym (append_assoc x h.front (l ++ h.behind));
  ended = ended-append x h.front e h.ended;
  line = h.line;
  number = omega (arith, h.number, feeds-append x h.front);
}

pub before-lines : {s l : List ℕ} {n : ℕ} (t : List ℕ) → LineIs s n l → LineIs (s ++ t) n l
before-lines {l = l} t h = record {
  front = h.front;
  behind = h.behind ++ t;
  split = ap (λ (y : List ℕ). y ++ t) h.split ∙ append_assoc h.front (l ++ h.behind) t ∙ ap (λ (y : List ℕ). h.front ++ y) (append_assoc l h.behind t);
  ended = h.ended;
  line = h.line;
  number = h.number;
}

-- the rows of a table, one line each
pub row-line-is : {X : Type 0} (written : X → List ℕ) {l : List X} {k : ℕ} {x : X} → All (λ y. OneLine (written y)) l → Stands l k x → LineIs (joined written l) k (written x)
unfolding joined
row-line-is {X} written {x = x} w h = let e = h.place in rw (h.whole, e) (go h.before h.behind (rw h.whole at w))
  where
    go : (a b : List X) → All (λ y. OneLine (written y)) (a ++ (x ∷ b)) → LineIs (joined written (a ++ (x ∷ b))) (suc (length a)) (written x)
    go [] b w = first-line (joined written b) w.0
    go (y ∷ a) b w =
        let e : suc (suc (length a)) ≡ line_feeds (written y) + suc (length a) = omega (arith, w.0.one) in
        rw e (behind-lines (written y) w.0.ended (go a b w.1))

module _ (r : Rows) (w : FileWritable r) where
  -- the lines of the source table, and of the branch table
  sources : Ended (source_text r) × (line_feeds (source_text r) ≡ 3)
  unfolding source_text
  sources = source_lines (row_of_source r) w.source

  branches : Ended (branches_text r) × (line_feeds (branches_text r) ≡ length r.branches + 2)
  unfolding branches_text
  branches = branch-lines r.branches w.branches

  file-line : (x : FileRow) (n : ℕ) → InLine r x n → LineIs (file_of r) n (written_as r x)
  unfolding file_of source_text branches_text loads_text
  file-line of_source n h =
      let e : n ≡ line_feeds (bytes source_names) + 1 = omega (arith, h, source-names.one) in
      rw e (before-lines (branches_text r ++ loads_text r) (behind-lines (bytes source_names) source-names.ended (first-line (bytes "\n") (row_line 1 8 (row_of_source r) w.source))))
  file-line (of_branches k b) n h =
      let e : n ≡ line_feeds (source_text r) + (line_feeds (bytes branch_names) + k) = omega (arith, h.1, sources.1, branch-names.one) in
      let here = row-line-is branch_text (all_map r.branches branch-rows.reader.line w.branches) h.0 in
      rw e (behind-lines (source_text r) sources.0 (before-lines (loads_text r) (behind-lines (bytes branch_names) branch-names.ended (before-lines (bytes "\n") here))))
  file-line (of_loads k l) n h =
      let e : n ≡ line_feeds (source_text r) + (line_feeds (branches_text r) + (line_feeds (bytes load_names) + k)) = omega (arith, h.1, sources.1, branches.1, load-names.one) in
      let here = row-line-is load_text (all_map r.loads load-rows.reader.line w.loads) h.0 in
      rw e (behind-lines (source_text r) sources.0 (behind-lines (branches_text r) branches.0 (behind-lines (bytes load_names) load-names.ended here)))

-- "Lines count from 1, empty ones too"
pub line-of-row : (s : List ℕ) (w : WellLaid s) (x : FileRow) (n : ℕ) → InLine w.rows x n → line_at n s ≡ written_as w.rows x
line-of-row s w x n h = ap (line_at n) w.text ∙ line-is (file-line w.rows w.writable x n h)
