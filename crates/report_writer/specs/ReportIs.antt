-- The text over the arrays is the report's text. Assumes nothing.
use Rattle.std.specs.Prelude.{Bool, false, true, ◌≡◌, refl, ◌+◌, ◌-◌, ◌<◌, ◌≤◌, suc, zero, ℕ, pos, get_or, length}
use Rattle.std.proofs.Math.Bool.{cond}
use mathlib.Core.List.{List, [], ◌++◌, ◌∷◌, append_assoc}
use Rattle.std.proofs.Common.{◌∙◌, ap, sym, arith, length-append}
use Rattle.equations.specs.Equations.{drawn_power, loss_of, lost_power, source_power, zero3}
use Rattle.feeder.specs.Feeder.{Feeder, branch_at, no_branch, parent, regulates, regulators, row_count, taps_on}
use Rattle.feeder.specs.Network.{branch_array, kept}
use Rattle.feeder.specs.NetworkLaws.{get_or_kept, kept-below}
use Rattle.feeder.specs.declared.Branch.{Branch}
use Rattle.feeder.specs.declared.Network.{Network}
use Rattle.feeder.specs.Phased.{Taps, Three}
use Rattle.integers.specs.Lists.{chosen, count, tab}
use Rattle.integers.specs.Pairs.{0c}
use Rattle.integers.specs.declared.Pair.{Pair}
use Rattle.report.specs.Report.{branch_line, branches_text, name_text, node_line, nodes_text, pair_text, report_text, tap_line, taps_text, three_text, totals_line, totals_text}
use Rattle.report_lines.specs.Lines.{branch_row, node_row, pair_fields, tap_row, three_fields, totals_row}
use Rattle.report_writer.specs.Tables.{Linked, branch_line_at, branch_table, from_in, lines_from, node_line_at, node_table, tap_line_at, tap_table, totals_table, whole_text}
use Rattle.report_lines.specs.declared.Figures.{Figures}
use Rattle.text.specs.Text.{bytes, decimal, joined, letters, line}

-- the arrays show the feeder f with its voltages vs and currents is: by node number names, branches, voltages, currents and losses; and the totals
pub record Shown (f : Feeder) (vs is : List Three) (n : Network) (v i : List Three) (losses : List Pair) (g : Figures) : Type 0 where
  pub count : n.rows ≡ row_count f
  pub names : n.nodes ≡ kept 0 201 f.nodes
  pub held : n.branches ≡ branch_array f
  pub from : (k : ℕ) → 0 < k → k ≤ row_count f → parent f k < 201
  pub voltages : (k : ℕ) → k ≤ row_count f → get_or v k zero3 ≡ get_or vs k zero3
  pub currents : (k : ℕ) → 0 < k → k ≤ row_count f → get_or i k zero3 ≡ get_or is k zero3
  pub loss : (k : ℕ) → 0 < k → k ≤ row_count f → get_or losses k 0c ≡ loss_of f is k
  pub source : g.source ≡ source_power f is
  pub drawn : g.drawn ≡ drawn_power f vs
  pub lost : g.lost ≡ lost_power f is

pub whole_length : (n : Network) (v i : List Three) (losses : List Pair) (g : Figures) →
    length (whole_text n v i losses g) ≡
    length (node_table (node_line_at n v) n.rows) + length (branch_table (branch_line_at n i losses) n.rows) + length (totals_table g) + length (tap_table (tap_line_at n) n.rows)
unfolding whole_text
whole_length n v i losses g = simp length-append (omega arith)

-- ---- lines: the first field, and each further one behind a comma
unfoldable pub behind : List (List ℕ) → List ℕ
behind [] = 10 ∷ []
behind (x ∷ l) = (44 ∷ x) ++ behind l

pub line-behind : (x : List ℕ) (l : List (List ℕ)) → line (x ∷ l) ≡ x ++ behind l
unfolding line behind
line-behind x [] = refl
line-behind x (y ∷ l) = ap (λ (t : List ℕ). x ++ (44 ∷ t)) (line-behind y l)

pair-behind : (x : Pair) (l : List (List ℕ)) → behind (pair_text x ++ l) ≡ pair_fields x ++ behind l
unfolding behind pair_fields
pair-behind x l = sym (append_assoc (44 ∷ decimal x.re) (44 ∷ decimal x.im) (behind l))

three-behind : (x : Three) (l : List (List ℕ)) → behind (three_text x ++ l) ≡ three_fields x ++ behind l
unfolding three_fields
three-behind x l =
    pair-behind x.a (pair_text x.b ++ (pair_text x.c ++ l)) ∙ simp (pair-behind x.b (pair_text x.c ++ l), pair-behind x.c l, append_assoc)

pub node-line : (n : ℕ) (x : Three) → line (letters 8 n ∷ three_text x) ≡ node_row n x
unfolding behind node_row
node-line n x = line-behind (letters 8 n) (three_text x) ∙ ap (λ (t : List ℕ). letters 8 n ++ t) (three-behind x [])

pub branch-line : (from to : ℕ) (x : Three) (loss : Pair) → line (letters 8 from ∷ letters 8 to ∷ three_text x ++ pair_text loss) ≡ branch_row from to x loss
unfolding behind branch_row
branch-line from to x loss =
    line-behind (letters 8 from) (letters 8 to ∷ three_text x ++ pair_text loss)
    ∙ ap (λ (t : List ℕ). letters 8 from ++ (44 ∷ (letters 8 to ++ t))) (three-behind x (pair_text loss) ∙ ap (λ (t : List ℕ). three_fields x ++ t) (pair-behind loss []))

pub totals-line : (g : Figures) → line (decimal (pos g.sweeps) ∷ pair_text g.source ++ (pair_text g.drawn ++ pair_text g.lost)) ≡ totals_row g
unfolding behind totals_row
totals-line g =
    let s = g.source in
    let d = g.drawn in
    let l = g.lost in
    line-behind (decimal (pos g.sweeps)) (pair_text s ++ (pair_text d ++ pair_text l))
    ∙ ap (λ (t : List ℕ). decimal (pos g.sweeps) ++ t)
    (pair-behind s (pair_text d ++ pair_text l) ∙ ap (λ (t : List ℕ). pair_fields s ++ t) (pair-behind d (pair_text l) ∙ ap (λ (t : List ℕ). pair_fields d ++ t) (pair-behind l [])))

pub tap-line : (n : ℕ) (t : Taps) → line (letters 8 n ∷ decimal t.a ∷ decimal t.b ∷ decimal t.c ∷ []) ≡ tap_row n t
unfolding behind tap_row
tap-line n t = line-behind (letters 8 n) (decimal t.a ∷ decimal t.b ∷ decimal t.c ∷ [])

-- ---- tables: the lines k to n, line by line
same-joined : (g h : ℕ → List ℕ) (k m : ℕ) → ((j : ℕ) → k ≤ j → j < k + m → g j ≡ h j) → joined g (count k m) ≡ joined h (count k m)
unfolding count tab joined
same-joined g h k zero e = refl
same-joined g h k (suc m) e =
    let first : g k ≡ h k = e k (omega arith) (omega arith) in
    let rest : joined g (tab (λ i. i) (k + 1) m) ≡ joined h (tab (λ i. i) (k + 1) m) = same-joined g h (k + 1) m (λ j p q. e j (omega arith) (omega arith)) in
    rw (first, rest)

nodes-joined : (g h : ℕ → List ℕ) (n m : ℕ) → m ≡ n → ((k : ℕ) → k ≤ n → g k ≡ h k) → joined g (0 ∷ count 1 n) ≡ lines_from h 0 m
unfolding lines_from count tab
nodes-joined g h n m q e =
    let z : suc n - 0 ≡ suc n = omega arith in
    rw (q, z) (same-joined g h 0 (suc n) (λ k p q. e k (omega arith)))

branches-joined : (g h : ℕ → List ℕ) (n m : ℕ) → m ≡ n → ((k : ℕ) → 0 < k → k ≤ n → g k ≡ h k) → joined g (count 1 n) ≡ lines_from h 1 m
unfolding lines_from
branches-joined g h n m q e =
    let z : suc n - 1 ≡ n = omega arith in
    rw (q, z) (same-joined g h 1 n (λ k p q. e k (omega arith) (omega arith)))

-- the texts of those that are chosen are texts of all, of which the others have none
pub joined-chosen : (g : ℕ → List ℕ) (c : ℕ → Bool) (l : List ℕ) → joined g (chosen c l) ≡ joined (λ k. cond (c k) (g k) []) l
unfolding chosen joined
joined-chosen g c [] = refl
joined-chosen g c (k ∷ l) = go (c k) (joined-chosen g c l)
  where
    go : (d : Bool) → joined g (chosen c l) ≡ joined (λ j. cond (c j) (g j) []) l → joined g (cond d (k ∷ chosen c l) (chosen c l)) ≡ cond d (g k) [] ++ joined (λ j. cond (c j) (g j) []) l
    go true e = ap (λ (t : List ℕ). g k ++ t) e
    go false e = e

module _ {f : Feeder} {vs is : List Three} {n : Network} {v i : List Three} {losses : List Pair} {g : Figures} (s : Shown f vs is n v i losses g) where
  few : row_count f ≤ 200
  few = let l = n.few_rows in let e = s.count in omega arith

  name-at : (k : ℕ) → k < 201 → name_text f k ≡ letters 8 (get_or n.nodes k 0)
  unfolding name_text
  name-at k h = rw s.names (ap (letters 8) (sym (kept-below 0 0 201 f.nodes k h)))

  row_at : (k : ℕ) → get_or n.branches k no_branch ≡ branch_at f k
  unfolding branch_at
  row_at k = rw s.held (get_or_kept no_branch 201 (no_branch ∷ f.branches) k (let h = few in omega arith))

  from_at : (k : ℕ) → from_in n k ≡ parent f k
  from_at k = ap (λ (b : Branch). b.from) (row_at k)

  -- such arrays are what the code asks for
  pub shown-linked : Linked n
  shown-linked =
      let e = s.count in
      λ k p q. rw (from_at k) (s.from k p (omega arith))

  node_at : (k : ℕ) → k ≤ row_count f → node_line f vs k ≡ node_line_at n v k
  unfolding node_line node_line_at
  node_at k h = let l = few in rw (name-at k (omega arith), s.voltages k h) (node-line _ _)

  branch-at : (k : ℕ) → 0 < k → k ≤ row_count f → branch_line f is k ≡ branch_line_at n i losses k
  unfolding branch_line branch_line_at
  branch-at k p h =
      let l = few in
      rw (name-at k (omega arith), name-at (parent f k) (s.from k p h), from_at k, s.currents k p h, s.loss k p h) (branch-line _ _ _ _)

  tap-at : (k : ℕ) → 0 < k → k ≤ row_count f → cond (regulates (branch_at f k).device) (tap_line f k) [] ≡ tap_line_at n k
  unfolding tap_line tap_line_at
  tap-at k p h =
      let l = few in
      rw (name-at k (omega arith), row_at k) (ap (λ (t : List ℕ). cond (regulates (branch_at f k).device) t []) (tap-line _ (taps_on (branch_at f k).device)))

  taps-joined : joined (tap_line f) (regulators f) ≡ lines_from (tap_line_at n) 1 n.rows
  unfolding regulators
  taps-joined = joined-chosen (tap_line f) (λ k. regulates (branch_at f k).device) (count 1 (row_count f)) ∙ branches-joined _ _ (row_count f) n.rows s.count tap-at

  pub report-is : report_text f vs is g.sweeps ≡ whole_text n v i losses g
  unfolding report_text nodes_text branches_text totals_text totals_line taps_text whole_text node_table branch_table totals_table tap_table bytes
  report-is = rw (nodes-joined _ _ (row_count f) n.rows s.count node_at, branches-joined _ _ (row_count f) n.rows s.count branch-at, ← s.source, ← s.drawn, ← s.lost, totals-line g, taps-joined)
