-- 51 to 54 and 56 (02, S-4, S-5): each search finds the first line of a row that has the fault, or no row of the report has it. Assumes nothing.
use Rattle.std.specs.Prelude.{Bool, ◌&&◌, cond, List, ◌⊎◌, ◌≡◌, get_or, length, Option, ℕ, Some, None}
use Rattle.std.proofs.Math.Bool.{false, not, true}
use Rattle.std.proofs.Math.Logic.{inl, inr, ⊎_elim}
use Rattle.std.proofs.Common.{◌∙◌, sym}
use Rattle.std.proofs.Math.Path.{ap, refl, subst}
use Prim.Native.Nat.{◌*◌, ◌+◌, ◌-◌, ◌<◌, suc, zero, ℕ}
use native.Mathlib.Omega.{arith}
use Rattle.std.proofs.Math.Dec.{eqb}
use borrow.Author.Tests.{eqb-false, eqb-true, ne_eqb, not-true}
use Rattle.compare.specs.Differences.{current_differs, first_branch_row, first_node, first_tap_row, name_at_node, name_differs, same3, source_differs}
use Rattle.equations.specs.Downward.{below, none-off}
use Rattle.equations.specs.Equations.{at, voltages, zero3}
use Rattle.feeder.specs.Faults.{Stands}
use Rattle.feeder.specs.Feeder.{Feeder, abc, first_row, has, parent, phases_of, regulators, row_count, three_at}
use Rattle.feeder.specs.Pointing.{Finds, finds-one, finds-or, finds-same}
use Rattle.feeder.proofs.RowFacts.{Formed}
use Rattle.feeder.specs.RowLaws.{false-some, nodes-none, some-false}
use Rattle.feeder.proofs.Standing.{LineOf, at-stands, finds-rows, stands_at}
use Rattle.feeder.specs.declared.Phase.{Phase}
use Rattle.feeder.specs.declared.Phase.TheVariants.{A, B, C}
use Rattle.feeder.specs.Phased.{Three}
use Rattle.integers.specs.Bools.{both, clash, fails-test, joined, one-false}
use Rattle.integers.specs.ListLaws.{get_or_map, get_or-tab, length-tab}
use Rattle.integers.specs.Lists.{all, count, tab}
use Rattle.integers.specs.PairLaws.{same_true, true_same}
use Rattle.integers.specs.Pairs.{0c, close, same}
use Rattle.report.specs.Report.{Reported, no_row, reported_currents, reported_voltages, tap_row}
use Rattle.report.proofs.ReportRows.{RowsMatch}
use Rattle.verdicts.specs.Check.{below_off, off, voltage_off}
use Rattle.verdicts.specs.OffAbove.{OffAbove, above-off, off-above}
use Rattle.verdicts.specs.ReportFaults.{Fault51, Fault52, Fault53, Fault54, FedThrough, InReportLine, IsOff, VoltageOnAbsent, ReportRow, ReportRowAt, of_branches, of_nodes, of_taps, three_in, worked_currents}
use Rattle.verdicts.proofs.Tests.{same3-true, true-same3}
use Rattle.text.specs.Lines.{Row, word_of}

-- ---- a search by the rows' places, here counted from 0: row i stands in line `before` + i + 1
pub record AtIndex (many before : ℕ) (P : ℕ → Type 0) (n : ℕ) : Type 0 where
  index : ℕ
  among : index < many
  line : n ≡ before + suc index
  holds : P index

-- the same of each row in other words
pub index_same : {P Q : ℕ → Type 0} {many before : ℕ} {c : Option ℕ} → ((i : ℕ) → i < many → P i → Q i) → ((i : ℕ) → i < many → Q i → P i)
    → Finds c (AtIndex many before P) → Finds c (AtIndex many before Q)
index_same to back h = finds-same
    (λ n w. record { index = w.index; among = w.among; line = w.line; holds = to w.index w.among w.holds })
    (λ n w. record { index = w.index; among = w.among; line = w.line; holds = back w.index w.among w.holds }) h

-- over the rows themselves
index-finds : {X : Type 0} (bad : ℕ → X → Bool) (before many : ℕ) (l : List X) (d : X) → length l ≡ many
    → Finds (first_row bad before 1 l) (AtIndex many before (λ i. bad (suc i) (get_or l i d) ≡ true))
index-finds bad before many l d size = finds-same to back (finds-rows bad before l)
  where
    to : (n : ℕ) → LineOf bad before l n → AtIndex many before (λ i. bad (suc i) (get_or l i d) ≡ true) n
    to n w =
        let a = stands_at w.stands d in
        let z : w.place ≡ suc a.0 = a.1.0 in
        record { index = a.0; among = omega (arith, a.1.1.0); line = omega (arith, w.line); holds = rw (a.1.1.1, ← z) w.is-bad }

    back : (n : ℕ) → AtIndex many before (λ i. bad (suc i) (get_or l i d) ≡ true) n → LineOf bad before l n
    back n w = record {
      place = suc w.index;
      row = get_or l w.index d;
      stands = at-stands l w.index d (omega (arith, w.among));
      line = w.line;
      is-bad = w.holds;
    }

-- and over numbers in their order
count-finds : (bad : ℕ → Bool) (before first many : ℕ) (number : ℕ → ℕ) → ((i : ℕ) → first + i ≡ number i)
    → Finds (first_row (λ (j k : ℕ). bad k) before 1 (count first many)) (AtIndex many before (λ i. bad (number i) ≡ true))
unfolding count
count-finds bad before first many number is = index_same
    (λ i q h. rw (get_or-tab (λ k. k) first many i 0 q, is i) at h)
    (λ i q h. rw (get_or-tab (λ k. k) first many i 0 q, is i) h)
    (index-finds (λ (j k : ℕ). bad k) before many (tab (λ k. k) first many) 0 (length-tab (λ k. k) first many))

-- ---- the rows of a report that has as many as its feeder asks for
module _ (f : Feeder) (x : Reported) (sizes : RowsMatch f x) where
  abbrev node_row : ℕ → Row
  node_row i = get_or x.nodes i no_row

  abbrev branch_row : ℕ → Row
  branch_row i = get_or x.branches i no_row

  abbrev pub taps_row : ℕ → Row
  taps_row i = get_or x.taps i no_row

  voltage-at : (i : ℕ) → i < suc (row_count f) → get_or (reported_voltages x) i zero3 ≡ three_in (node_row i)
  unfolding reported_voltages
  voltage-at i q = get_or_map (λ y. three_at y.values 1) x.nodes i no_row zero3 (omega (arith, sizes.nodes))

  current-at : (i : ℕ) → i < row_count f → get_or (reported_currents x) (suc i) zero3 ≡ three_in (branch_row i)
  unfolding reported_currents
  current-at i q = get_or_map (λ y. three_at y.values 1) x.branches i no_row zero3 (omega (arith, sizes.branches))

  -- what holds of a node, in its row's line, of a branch row, and of a row of taps
  abbrev OfNodes : (ℕ → Type 0) → ℕ → Type 0
  OfNodes = AtIndex (suc (row_count f)) 1

  abbrev OfBranches : (ℕ → Type 0) → ℕ → Type 0
  OfBranches = AtIndex (row_count f) (row_count f + 4)

  abbrev pub OfTaps : (ℕ → Type 0) → ℕ → Type 0
  OfTaps = AtIndex (length (regulators f)) (2 * row_count f + 9)

  nodes-find : (bad : ℕ → Bool) → Finds (first_node f bad) (OfNodes (λ i. bad i ≡ true))
  unfolding count tab
  nodes-find bad = count-finds bad 1 0 (suc (row_count f)) (λ i. i) (λ i. omega arith)

  branches-find : (bad : ℕ → Bool) → Finds (first_branch_row f bad) (OfBranches (λ i. bad (suc i) ≡ true))
  branches-find bad = count-finds bad (row_count f + 4) 1 (row_count f) suc (λ i. omega arith)

  -- the k-th regulator
  abbrev pub regulator : ℕ → ℕ
  regulator i = get_or (regulators f) i 0

  pub taps-find : (bad : ℕ → ℕ → Bool) → Finds (first_tap_row f bad) (OfTaps (λ i. bad (suc i) (regulator i) ≡ true))
  taps-find bad = index-finds bad (2 * row_count f + 9) (length (regulators f)) (regulators f) 0 refl

  abbrev OnNode : (ReportRow → Type 0) → ℕ → Type 0
  OnNode Fault i = Fault (of_nodes i (node_row i))

  abbrev OnBranch : (ReportRow → Type 0) → ℕ → Type 0
  OnBranch Fault i = Fault (of_branches (suc i) (branch_row i))

  abbrev pub OnTaps : (ReportRow → Type 0) → ℕ → Type 0
  OnTaps Fault i = Fault (of_taps (suc i) (taps_row i))

  -- a row with a fault is one of the three tables; one of the last has it only where that table is there
  module _ {Fault : Feeder → Reported → ReportRow → Type 0} {c : Option ℕ} where
    rows-find : ((i : ℕ) → i < length (regulators f) → OnTaps (Fault f x) i → x.filed ≡ true)
        → Finds c (λ n. OfNodes (OnNode (Fault f x)) n ⊎ (OfBranches (OnBranch (Fault f x)) n ⊎ OfTaps (OnTaps (Fault f x)) n)) → Finds c (ReportRowAt Fault f x)
    rows-find there h = finds-same (λ n. ⊎_elim (of-nodes n) (⊎_elim (of-branches n) (of-taps n))) (λ n w. split n w.row w.in-line w.faulty) h
      where
        of-nodes : (n : ℕ) → OfNodes (OnNode (Fault f x)) n → ReportRowAt Fault f x n
        of-nodes n w =
            let i : ℕ = w.index in
            let q : i < length x.nodes = omega (arith, w.among, sizes.nodes) in
            record { row = of_nodes i (node_row i); in-line = (at-stands x.nodes i no_row q, omega (arith, w.line)); faulty = w.holds }

        of-branches : (n : ℕ) → OfBranches (OnBranch (Fault f x)) n → ReportRowAt Fault f x n
        of-branches n w =
            let i : ℕ = w.index in
            let q : i < length x.branches = omega (arith, w.among, sizes.branches) in
            let l : n ≡ length x.nodes + 3 + suc i = omega (arith, w.line, sizes.nodes) in
            record { row = of_branches (suc i) (branch_row i); in-line = (at-stands x.branches i no_row q, l); faulty = w.holds }

        of-taps : (n : ℕ) → OfTaps (OnTaps (Fault f x)) n → ReportRowAt Fault f x n
        of-taps n w =
            let i : ℕ = w.index in
            let q : i < length x.taps = omega (arith, w.among, sizes.taps) in
            let l : n ≡ length x.nodes + length x.branches + 8 + suc i = omega (arith, w.line, sizes.nodes, sizes.branches) in
            record { row = of_taps (suc i) (taps_row i); in-line = (there i w.among w.holds, (at-stands x.taps i no_row q, l)); faulty = w.holds }

        split : (n : ℕ) (r : ReportRow) → InReportLine x r n → Fault f x r → OfNodes (OnNode (Fault f x)) n ⊎ (OfBranches (OnBranch (Fault f x)) n ⊎ OfTaps (OnTaps (Fault f x)) n)
        split n (of_nodes k y) l w =
            let a = stands_at l.0 no_row in
            let z : k ≡ a.0 = omega (arith, a.1.0) in
            inl (record { index = a.0; among = omega (arith, a.1.1.0, sizes.nodes); line = omega (arith, l.1); holds = rw (a.1.1.1, ← z) w })
        split n (of_branches k y) l w =
            let a = stands_at l.0 no_row in
            let z : k ≡ suc a.0 = a.1.0 in
            let q : a.0 < row_count f = omega (arith, a.1.1.0, sizes.branches) in
            inr (inl (record { index = a.0; among = q; line = omega (arith, l.1, sizes.nodes); holds = rw (a.1.1.1, ← z) w }))
        split n (of_taps k y) l w =
            let a = stands_at l.1.0 no_row in
            let z : k ≡ suc a.0 = a.1.0 in
            let q : a.0 < length (regulators f) = omega (arith, a.1.1.0, sizes.taps) in
            inr (inr (record { index = a.0; among = q; line = omega (arith, l.1.1, sizes.nodes, sizes.branches); holds = rw (a.1.1.1, ← z) w }))

    -- only rows of one table can have it
    only-nodes : ((i : ℕ) → OnBranch (Fault f x) i → ⊥) → ((i : ℕ) → OnTaps (Fault f x) i → ⊥) → Finds c (OfNodes (OnNode (Fault f x))) → Finds c (ReportRowAt Fault f x)
    only-nodes none never h = rows-find (λ i q w. absurd (never i w))
        (finds-same (λ n. inl) (λ n. ⊎_elim (λ w. w) (⊎_elim (λ w. absurd (none w.index w.holds)) (λ w. absurd (never w.index w.holds)))) h)

    only-branches : ((i : ℕ) → OnNode (Fault f x) i → ⊥) → ((i : ℕ) → OnTaps (Fault f x) i → ⊥) → Finds c (OfBranches (OnBranch (Fault f x))) → Finds c (ReportRowAt Fault f x)
    only-branches none never h = rows-find (λ i q w. absurd (never i w))
        (finds-same (λ n w. inr (inl w)) (λ n. ⊎_elim (λ w. absurd (none w.index w.holds)) (⊎_elim (λ w. w) (λ w. absurd (never w.index w.holds)))) h)

    pub only-taps : ((i : ℕ) → OnNode (Fault f x) i → ⊥) → ((i : ℕ) → OnBranch (Fault f x) i → ⊥) → ((i : ℕ) → i < length (regulators f) → OnTaps (Fault f x) i → x.filed ≡ true)
        → Finds c (OfTaps (OnTaps (Fault f x))) → Finds c (ReportRowAt Fault f x)
    only-taps none never there h = rows-find there
        (finds-same (λ n w. inr (inr w)) (λ n. ⊎_elim (λ w. absurd (none w.index w.holds)) (⊎_elim (λ w. absurd (never w.index w.holds)) (λ w. w))) h)

  pub same-regulator : (i m : ℕ) → Stands (regulators f) (suc i) m → regulator i ≡ m
  same-regulator i m h =
      let a = stands_at h 0 in
      let z : i ≡ a.0 = omega (arith, a.1.0) in
      rw z a.1.1.1

  -- the k-th row of the last table, where the report has none: the feeder's own
  own_row : (i : ℕ) → i < length (regulators f) → x.filed ≡ false → taps_row i ≡ tap_row f (regulator i)
  own_row i q e = ap (λ (l : List Row). get_or l i no_row) (sizes.own e).1 ∙ get_or_map (tap_row f) (regulators f) i 0 no_row q

  -- what cannot be of the feeder's own rows is of a table that is there
  pub filed-where : {X : Type 0} → (x.filed ≡ false → X → ⊥) → X → x.filed ≡ true
  filed-where never h = go x.filed refl
    where
      go : (c : Bool) → x.filed ≡ c → c ≡ true
      go true e = refl
      go false e = absurd (never e h)

  -- 51
  pub finds-51 : Finds (name_differs f x) (ReportRowAt Fault51 f x)
  unfolding name_differs tap_row
  finds-51 = rows-find (λ i q. filed-where (λ e w. w.differs (ap (λ (y : Row). word_of y 0) (own_row i q e) ∙ ap (name_at_node f) (same-regulator i w.branch w.regulator))))
      (finds-or (row_count f + 2) _ _ (λ n w. omega (arith, w.among, w.line)) (λ n. ⊎_elim (λ w. omega (arith, w.line)) (λ w. omega (arith, w.line)))
      (index_same (λ i q h. eqb-false _ _ (not-true _ h)) (λ i q h. ap not (ne_eqb _ _ h)) (nodes-find _))
      (finds-or (2 * row_count f + 4) _ _ (λ n w. omega (arith, w.among, w.line)) (λ n w. omega (arith, w.line))
      (index_same (λ i q h. differs _ _ _ _ (not-true _ h)) (λ i q h. ap not (tested _ _ _ _ h))
      (index-finds _ (row_count f + 4) (row_count f) x.branches no_row sizes.branches))
      (index_same
      (λ i q h. let z : suc i - 1 ≡ i = omega arith in record { branch = regulator i; regulator = at-stands (regulators f) i 0 q; differs = eqb-false _ _ (not-true _ (rw z at h)) })
      (λ i q w. let z : suc i - 1 ≡ i = omega arith in rw z (ap not (ne_eqb _ _ (λ e. w.differs (e ∙ ap (name_at_node f) (same-regulator i w.branch w.regulator))))))
      (taps-find (λ j k. not (eqb (word_of (get_or x.taps (j - 1) no_row) 0) (name_at_node f k)))))))
    where
      differs : (a b c d : ℕ) → (eqb a b && eqb c d) ≡ false → (a ≡ b → ⊥) ⊎ (c ≡ d → ⊥)
      differs a b c d e = ⊎_elim (λ h. inl (eqb-false a b h)) (λ h. inr (eqb-false c d h)) (one-false (eqb a b) (eqb c d) e)

      tested : (a b c d : ℕ) → (a ≡ b → ⊥) ⊎ (c ≡ d → ⊥) → (eqb a b && eqb c d) ≡ false
      tested a b c d h = fails-test (eqb a b && eqb c d) (both (eqb a b) (eqb c d)) (λ w. ⊎_elim (λ n. n (eqb-true a b w.0)) (λ n. n (eqb-true c d w.1)) h)

  -- 52: the source has all phases, so that the rows with a voltage on an absent phase stand behind its row
  abbrev zero_if_absent : ℕ → Three → Phase → Bool
  zero_if_absent k v p = cond (has (phases_of f k) p) true (same (at v p) 0c)

  absent-means : (k : ℕ) (v : Three) → all (zero_if_absent k v) abc ≡ false → VoltageOnAbsent f k v
  absent-means k v e = let w = some-false (zero_if_absent k v) e in go w.0 (has (phases_of f k) w.0) refl w.1
    where
      go : (p : Phase) (c : Bool) → has (phases_of f k) p ≡ c → cond c true (same (at v p) 0c) ≡ false → VoltageOnAbsent f k v
      go p true h e = clash true refl e
      go p false h e = record { phase = p; absent = h; not-zero = λ z. clash (same (at v p) 0c) (rw z (true_same 0c)) e }

  means-absent : (k : ℕ) (v : Three) → VoltageOnAbsent f k v → all (zero_if_absent k v) abc ≡ false
  means-absent k v w = false-some (zero_if_absent k v) w.phase (rw w.absent (fails-test (same (at v w.phase) 0c) same_true w.not-zero))

  source-has : (v : Three) → VoltageOnAbsent f 0 v → ⊥
  unfolding phases_of
  source-has v w = go w.phase w.absent
    where
      go : (p : Phase) → has (phases_of f 0) p ≡ false → ⊥
      go A e = clash true refl e
      go B e = clash true refl e
      go C e = clash true refl e

  abbrev SourceOther : Type 0
  SourceOther = three_in (node_row 0) ≡ f.source → ⊥

  abbrev Absent : ℕ → Type 0
  Absent i = VoltageOnAbsent f i (three_in (node_row i))

  pub finds-52 : Finds (source_differs f x) (ReportRowAt Fault52 f x)
  unfolding source_differs
  finds-52 = only-nodes (λ i h. h) (λ i h. h) (finds-same (λ n. ⊎_elim (of-source n) (of-absent n)) split
      (finds-or 2 _ _ (λ n w. omega (arith, w.0)) (λ n w. behind n w.index w.line w.holds)
      (finds-one (same3 (get_or (reported_voltages x) 0 zero3) f.source) 2
      (λ e z. clash _ (true-same3 (voltage-at 0 (omega arith) ∙ z)) e)
      (λ e h. h (sym (voltage-at 0 (omega arith)) ∙ same3-true _ _ e)))
      (index_same
      (λ i q h. subst (VoltageOnAbsent f i) (voltage-at i q) (absent-means i _ (not-true _ h)))
      (λ i q h. ap not (means-absent i _ (subst (VoltageOnAbsent f i) (sym (voltage-at i q)) h)))
      (nodes-find (λ k. not (all (zero_if_absent k (get_or (reported_voltages x) k zero3)) abc))))))
    where
      behind : (n i : ℕ) → n ≡ 1 + suc i → Absent i → 2 < n
      behind n zero l h = absurd (source-has _ h)
      behind n (suc i) l h = omega arith

      of-source : (n : ℕ) → (n ≡ 2) × SourceOther → OfNodes (OnNode (Fault52 f x)) n
      of-source n w = record { index = 0; among = omega arith; line = omega (arith, w.0); holds = inl (refl, w.1) }

      of-absent : (n : ℕ) → OfNodes Absent n → OfNodes (OnNode (Fault52 f x)) n
      of-absent n w = record { index = w.index; among = w.among; line = w.line; holds = inr w.holds }

      split : (n : ℕ) → OfNodes (OnNode (Fault52 f x)) n → ((n ≡ 2) × SourceOther) ⊎ OfNodes Absent n
      split n w = ⊎_elim
          (λ h. let z : w.index ≡ 0 = h.0 in inl (omega (arith, w.line), rw z at h.1))
          (λ h. inr (record { index = w.index; among = w.among; line = w.line; holds = h })) w.holds

  -- 53
  pub finds-53 : Finds (current_differs f x (worked_currents f x)) (ReportRowAt Fault53 f x)
  unfolding current_differs
  finds-53 = only-branches (λ i h. h) (λ i h. h) (index_same
      (λ i q h z. clash _ (true-same3 (current-at i q ∙ z)) (not-true _ h))
      (λ i q h. ap not (fails-test _ (same3-true _ _) (λ z. h (sym (current-at i q) ∙ z))))
      (branches-find (λ k. not (same3 (get_or (reported_currents x) k zero3) (get_or (worked_currents f x) k zero3)))))

  -- 54: every node of a feeder that is read is reached, so that no node above is left out
  abbrev worked : List Three
  worked = voltages f (worked_currents f x)

  abbrev is_close : ℕ → Phase → Bool
  is_close k p = close f.tol (at (get_or worked k zero3) p) (at (get_or (reported_voltages x) k zero3) p)

  off-means : (k : ℕ) → off f x worked k ≡ true → IsOff f x k
  unfolding off
  off-means k e = let w = some-false (is_close k) (not-true _ e) in record { phase = w.0; not-close = w.1 }

  means-off : (k : ℕ) → IsOff f x k → off f x worked k ≡ true
  unfolding off
  means-off k w = ap not (false-some (is_close k) w.phase w.not-close)

  pub finds-54 : Formed f → Finds (voltage_off f x (voltages f (worked_currents f x))) (ReportRowAt Fault54 f x)
  unfolding voltage_off below_off
  finds-54 w = only-nodes (λ i h. h) (λ i h. h) (index_same
      (λ k q h. let w = both (off f x worked k) _ h in (off-means k w.0, not-fed k q (not-true _ w.1)))
      (λ k q h. joined (means-off k h.0) (ap not (not-below k h.1)))
      (nodes-find _))
    where
      not-fed : (k : ℕ) → k < suc (row_count f) → below_off f x worked k ≡ false → (j : ℕ) → FedThrough f k j → IsOff f x j → ⊥
      not-fed k q b j through o = clash (below_off f x worked k)
          (above-off (off f x worked) (parent f) (row_count f) k (w.reached k q)
          (record { below = through.below; steps = through.steps; is-off = rw through.arrives (means-off j o) })) b

      not-below : (k : ℕ) → ((j : ℕ) → FedThrough f k j → IsOff f x j → ⊥) → below_off f x worked k ≡ false
      not-below k h = fails-test {X = OffAbove (off f x worked) (parent f) k} (below_off f x worked k)
          (off-above (off f x worked) (parent f) (row_count f) k)
          (λ w. h _ (record { below = w.below; steps = w.steps; arrives = refl }) (off-means _ w.is-off))

  -- and where some node is off, some row counts: the first that is off on the way down to it
  pub off-counts : Formed f → (k : ℕ) → k < suc (row_count f) → IsOff f x k → (n : ℕ) × ReportRowAt Fault54 f x n
  unfolding voltage_off below_off below
  off-counts w k q o = go (voltage_off f x worked) refl
    where
      go : (c : Option ℕ) → voltage_off f x worked ≡ c → (n : ℕ) × ReportRowAt Fault54 f x n
      go (Some n) h = (n, ((finds-54 w).at n h).faulty)
      go None h =
          let none = nodes-none (λ k. off f x worked k && not (below_off f x worked k)) 1 (row_count f) h in
          clash (off f x worked k) (means-off k o)
          (none-off (off f x worked) (parent f) (row_count f) w.parents w.reached none (row_count f) k q (w.reached k q)).0
