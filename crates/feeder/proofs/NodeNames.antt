-- Nodes by their names (Faults) and by their numbers (Feeder): which names are nodes, which row feeds a node, which nodes are reached, and which phases a node
-- has. Where each node stands once as "to", the two ways to speak of nodes say the same. Assumes nothing.
use Rattle.std.specs.Prelude.{Bool, cond, List, [], ◌∷◌, ◌≡◌, eqb, None}
use Rattle.std.proofs.Math.Bool.{false, not, true}
use Rattle.std.proofs.Common.{inl, inr, ◌∙◌, subst, sym, arith}
use Rattle.std.proofs.Math.Logic.{⊎_elim}
use Rattle.std.proofs.Math.Path.{ap, refl}
use Prim.Native.Nat.{◌+◌, ◌<◌, ◌≤◌, suc, zero, ℕ}
use Rattle.std.proofs.Math.Dec.{ltb}
use Rattle.std.proofs.Math.ListN.{get_or, length}
use Rattle.std.proofs.lemmas.List.{length-map}
use borrow.Author.Tests.{eq-eqb, eqb-true, ltb-false, ltb-true, not-false}
use Rattle.feeder.specs.Faults.{FromSource, IsNode, PhaseAt, Stands, along, is-source}
use Rattle.feeder.specs.Feeder.{above, branch_at, feeder_of, has, known, nodes_of, parent, phases_of, place_of, row_count, second_to, unknown_from}
use Rattle.feeder.proofs.FeederLaws.{branch-is, parent-among, row-count}
use Rattle.feeder.specs.Layout.{Rows}
use Rattle.feeder.specs.Reach.{reach-enough}
use Rattle.feeder.proofs.RowFacts.{node_in}
use Rattle.feeder.specs.RowLaws.{none-bad}
use Rattle.feeder.proofs.Standing.{at-stands, stands_at}
use Rattle.feeder.specs.declared.Branch.{Branch}
use Rattle.feeder.specs.declared.BranchRow.{BranchRow}
use Rattle.feeder.specs.declared.Phase.{Phase}
use Rattle.feeder.specs.declared.Phase.TheVariants.{A, B, C}
use Rattle.integers.specs.ListLaws.{get_or_map}

-- ---- the place of a name in a list: the first that has it, or the number of names
place-name : (name : ℕ) (l : List ℕ) → place_of name l < length l → get_or l (place_of name l) 0 ≡ name
unfolding place_of
place-name name [] q = absurd (omega arith)
place-name name (m ∷ l) q = go (eqb name m) refl q (place-name name l)
  where
    go : (c : Bool) → eqb name m ≡ c → cond c 0 (suc (place_of name l)) < suc (length l) → (place_of name l < length l → get_or l (place_of name l) 0 ≡ name)
        → get_or (m ∷ l) (cond c 0 (suc (place_of name l))) 0 ≡ name
    go true e q far = sym (eqb-true name m e)
    go false e q far = far (omega arith)

place-first : (name : ℕ) (l : List ℕ) (i : ℕ) → i < length l → get_or l i 0 ≡ name → place_of name l ≤ i
unfolding place_of
place-first name [] i q e = absurd (omega arith)
place-first name (m ∷ l) zero q e = rw (eq-eqb name m (sym e)) (omega arith)
place-first name (m ∷ l) (suc i) q e = go (eqb name m) (place-first name l i (omega arith) e)
  where
    go : (c : Bool) → place_of name l ≤ i → cond c 0 (suc (place_of name l)) ≤ suc i
    go true h = omega arith
    go false h = omega arith

module _ (r : Rows) where
  -- the number of a name
  abbrev pub number : ℕ → ℕ
  number name = place_of name (nodes_of r)

  pub nodes-many : length (nodes_of r) ≡ suc (length r.branches)
  unfolding nodes_of
  nodes-many = ap suc (length-map r.branches (λ b. b.to))

  -- ---- row k has node k as its "to"
  pub record RowNumbered (k : ℕ) (b : BranchRow) : Type 0 where
    pub before : ℕ
    pub is-next : k ≡ suc before
    pub inside : before < length r.branches
    pub name : get_or (nodes_of r) k 0 ≡ b.to
    pub from : parent (feeder_of r) k ≡ number b.from
    pub phases : phases_of (feeder_of r) k ≡ b.phases

  pub numbered : {k : ℕ} {b : BranchRow} → Stands r.branches k b → RowNumbered k b
  unfolding nodes_of phases_of
  numbered {b = b} h =
      let w = stands_at h b in
      let i = w.0 in
      let q : i < length r.branches = w.1.1.0 in
      let e : get_or r.branches i b ≡ b = w.1.1.1 in
      let is : branch_at (feeder_of r) (suc i) ≡ _ = branch-is r i q b in
      let k : _ ≡ suc i = w.1.0 in
      rw k record {
        before = i;
        is-next = refl;
        inside = q;
        name = get_or_map (λ c. c.to) r.branches i b 0 q ∙ ap (λ (c : BranchRow). c.to) e;
        from = ap (λ (c : Branch). c.from) is ∙ ap (λ (c : BranchRow). number c.from) e;
        phases = ap (λ (c : Branch). c.phases) is ∙ ap (λ (c : BranchRow). c.phases) e;
      }

  -- the row of a node behind the source
  row_of : (i : ℕ) → i < length r.branches → (b : BranchRow) × Stands r.branches (suc i) b
  row_of i q = go r.branches q
    where
      go : (l : List BranchRow) → i < length l → (b : BranchRow) × Stands l (suc i) b
      go [] q = absurd (omega arith)
      go (b ∷ l) q = (get_or (b ∷ l) i b, at-stands (b ∷ l) i b q)

  -- the number of a "to" is at most its row's place
  pub to-most : {k : ℕ} {b : BranchRow} → Stands r.branches k b → number b.to ≤ k
  to-most {k} {b} h = let w = numbered h in place-first b.to (nodes_of r) k (omega (arith, nodes-many, w.inside, w.is-next)) w.name

  pub source_first : {name : ℕ} → name ≡ r.source → number name ≡ 0
  unfolding nodes_of place_of
  source_first {name} e = rw (eq-eqb name r.source e)

  -- ---- 20: a name is a node's just where its number is
  pub node-known : {name : ℕ} → IsNode r name → number name < length (nodes_of r)
  node-known {name} h = ⊎_elim
      (λ e. omega (arith, source_first e, nodes-many))
      (λ w. let n = numbered w.stands in subst (λ (m : ℕ). number m < length (nodes_of r)) w.to_is (omega (arith, to-most w.stands, nodes-many, n.inside, n.is-next)))
      h

  -- a node by its number: the source, or the "to" of its row
  pub by_number : {Z : Type 0} (name : ℕ) → number name < length (nodes_of r) → (name ≡ r.source → Z) → ((i : ℕ) (b : BranchRow) → number name ≡ suc i → Stands r.branches (suc i) b → b.to ≡ name → Z) → Z
  unfolding nodes_of
  by_number {Z} name q here far = go (number name) refl
    where
      go : (k : ℕ) → number name ≡ k → Z
      go zero e = here (sym (place-name name (nodes_of r) q) ∙ ap (λ (m : ℕ). get_or (nodes_of r) m 0) e)
      go (suc i) e =
          let w = row_of i (omega (arith, nodes-many)) in
          far i w.0 e w.1 (sym (numbered w.1).name ∙ ap (λ (m : ℕ). get_or (nodes_of r) m 0) (sym e) ∙ place-name name (nodes_of r) q)

  pub known-node : {name : ℕ} → number name < length (nodes_of r) → IsNode r name
  known-node {name} q = by_number name q inl (λ i b e s t. inr (record { place = suc i; row = b; stands = s; to_is = t; holds = tt }))

  -- ---- where 20 and 21 find no row, parents are nodes, and each "to" has its row's place as its number
  pub record EachOnce : Type 0 where
    pub parents : {k : ℕ} {b : BranchRow} → Stands r.branches k b → number b.from < length (nodes_of r)
    pub once : {k : ℕ} {b : BranchRow} → Stands r.branches k b → number b.to ≡ k
    pub among : (k : ℕ) → k < suc (row_count (feeder_of r)) → parent (feeder_of r) k < suc (row_count (feeder_of r))

  pub each-once : unknown_from r ≡ None → second_to r ≡ None → EachOnce
  unfolding unknown_from second_to
  each-once t20 t21 = record {
    parents = λ {k} {b} h.
        let w = stands_at h b in
        let e = none-bad (λ k b. not (known r b.from)) 4 1 r.branches b t20 w.0 w.1.1.0 in
        ltb-true _ _ (not-false _ (rw w.1.1.1 at e));
    once = λ {k} {b} h.
        let w = stands_at h b in
        let e = none-bad (λ k b. ltb (number b.to) k) 4 1 r.branches b t21 w.0 w.1.1.0 in
        let f : ltb (number b.to) (1 + w.0) ≡ false = rw w.1.1.1 at e in
        omega (arith, to-most h, w.1.0, ltb-false (number b.to) (1 + w.0) f);
    among = parent-among r t20;
  }

  module _ (p : EachOnce) where
    -- ---- 22: the names that are reached are those whose number comes to the source by steps up
    reaches : {name : ℕ} → FromSource r name → (m : ℕ) × (above (parent (feeder_of r)) m (number name) ≡ 0)
    unfolding above
    reaches (is-source e) = (0, source_first e)
    reaches (along k b h e far) =
        let w = reaches far in
        let n = numbered h in
        let z : number b.to ≡ suc n.before = p.once h ∙ n.is-next in
        let up : parent (feeder_of r) (suc n.before) ≡ number b.from = ap (parent (feeder_of r)) (sym n.is-next) ∙ n.from in
        (suc w.0, rw (← e, z, up) w.1)

    reached : (m : ℕ) (name : ℕ) → number name < length (nodes_of r) → above (parent (feeder_of r)) m (number name) ≡ 0 → FromSource r name
    unfolding above
    reached zero name q e = by_number name q is-source (λ i b z s t. absurd (omega arith))
    reached (suc m) name q e = by_number name q is-source (λ i b z s t.
        let n = numbered s in
        let h : above (parent (feeder_of r)) (suc m) (suc i) ≡ 0 = rw z at e in
        along (suc i) b s t (reached m b.from (p.parents s) (rw n.from at h)))

    -- of a row: as many steps up as there are rows bring its node to the source just where it is reached
    pub row-reached : {k : ℕ} {b : BranchRow} → Stands r.branches k b → FromSource r b.to → above (parent (feeder_of r)) (row_count (feeder_of r)) k ≡ 0
    row-reached {k} {b} h s =
        let w = reaches s in
        let n = numbered h in
        let many = row-count r in
        reach-enough (parent (feeder_of r)) (row_count (feeder_of r)) p.among w.0 k (omega (arith, n.inside, n.is-next)) (rw (p.once h) at w.1)

    pub reached-row : {k : ℕ} {b : BranchRow} → Stands r.branches k b → above (parent (feeder_of r)) (row_count (feeder_of r)) k ≡ 0 → FromSource r b.to
    reached-row {k} {b} h e =
        let n = numbered h in
        let z = p.once h in
        reached (row_count (feeder_of r)) b.to (omega (arith, nodes-many, n.inside, n.is-next)) (rw z e)

    -- ---- 23: the phases at a name are those of the node with its number, and an unknown name has none
    pub phase-there : {name : ℕ} (q : Phase) → PhaseAt r name q → has (phases_of (feeder_of r) (number name)) q ≡ true
    unfolding phases_of
    phase-there {name} q h = ⊎_elim
        (λ e. rw (source_first e) (all q))
        (λ w. let n = numbered w.stands in
        let z : number name ≡ w.place = ap number (sym w.to_is) ∙ p.once w.stands in
        rw (z, n.phases) w.holds)
        h
      where
        all : (q : Phase) → has (phases_of (feeder_of r) 0) q ≡ true
        all A = refl
        all B = refl
        all C = refl

    pub there-phase : (name : ℕ) (q : Phase) → has (phases_of (feeder_of r) (number name)) q ≡ true → PhaseAt r name q
    there-phase name q e =
        let known = node_in (feeder_of r) (number name) q e in
        by_number name (omega (arith, nodes-many, row-count r)) inl
        (λ i b z s t. inr (record { place = suc i; row = b; stands = s; to_is = t; holds = rw (z, (numbered s).phases) at e }))
