-- 11 and 20 to 24: each search of Feeder finds the first line of which the row has that fault (Faults), or no row has it. Assumes nothing.
use Rattle.std.specs.Prelude.{Bool, ◌&&◌, false, ◌⊎◌, ◌≡◌, refl, eqb, length, Option, ℕ}
use Rattle.std.proofs.Math.Bool.{cond, not, true}
use Rattle.std.proofs.Math.Logic.{inl, inr, ⊎_elim}
use Rattle.std.proofs.Math.Path.{ap}
use Prim.Native.Nat.{◌+◌, ◌<◌, suc, ℕ}
use native.Mathlib.Omega.{arith}
use Rattle.std.proofs.Math.Dec.{ltb}
use borrow.Author.Tests.{eq-eqb, lt-ltb, ltb-true, ne_eqb, not-true}
use Rattle.feeder.specs.Faults.{Fault11, Fault20, Fault21, Fault22, Fault23, Fault24, FileRow, InLine, IsNode, LacksPhase, RowAt, Stands, of_branches, of_loads, of_source}
use Rattle.feeder.specs.Feeder.{above, all_of, branch_in, feeder_of, first_branch, first_load, has, known, load_in, not_reached, not_zero, or_else, out_of_limit, parent, phase_absent, phases_of, row_count, second_to, source_in, stands_on, three_phase, unknown_from, zeros}
use Rattle.feeder.specs.Layout.{Rows}
use Rattle.feeder.proofs.NodeNames.{EachOnce, by_number, known-node, node-known, nodes-many, number, numbered, phase-there, reached-row, row-reached, source_first, there-phase, to-most}
use Rattle.feeder.specs.Pointing.{Finds, finds-one, finds-or, finds-same}
use Rattle.feeder.specs.RowLaws.{false-some, some-false}
use Rattle.feeder.proofs.Standing.{finds-rows, stands_at}
use Rattle.feeder.specs.declared.BranchRow.{BranchRow}
use Rattle.feeder.specs.declared.LoadRow.{LoadRow}
use Rattle.feeder.specs.declared.Phase.{Phase}
use Rattle.feeder.specs.declared.Phase.TheVariants.{A, B, C}
use Rattle.feeder.specs.Phased.{Phases}
use Rattle.feeder.specs.declared.Terminals.{Terminals}
use Rattle.feeder.specs.declared.Terminals.TheVariants.{AB, BC, CA, OnA, OnB, OnC}
use Rattle.integers.specs.Bools.{and-false, clash, fails-test, one-false}
use Rattle.integers.specs.Pairs.{inside}

-- ---- the three tables of a file
module _ (r : Rows) (Fault : Rows → FileRow → Type 0) where
  abbrev InSource : ℕ → Type 0
  InSource n = (n ≡ 2) × Fault r of_source

  abbrev InBranches : ℕ → Type 0
  InBranches n = (k : ℕ) × ((b : BranchRow) × (InLine r (of_branches k b) n × Fault r (of_branches k b)))

  abbrev InLoads : ℕ → Type 0
  InLoads n = (k : ℕ) × ((l : LoadRow) × (InLine r (of_loads k l) n × Fault r (of_loads k l)))

  -- a row with a fault stands in one of them
  in_table : {Z : Type 0} {n : ℕ} → RowAt Fault r n → (InSource n → Z) → (InBranches n → Z) → (InLoads n → Z) → Z
  in_table {Z} {n} h s b l = go h.row h.in-line h.faulty
    where
      go : (x : FileRow) → InLine r x n → Fault r x → Z
      go of_source e f = s (e, f)
      go (of_branches k c) e f = b (k, (c, (e, f)))
      go (of_loads k c) e f = l (k, (c, (e, f)))

  of-source : (n : ℕ) → InSource n → RowAt Fault r n
  of-source n h = record { row = of_source; in-line = h.0; faulty = h.1 }

  of-branches : (n : ℕ) → InBranches n → RowAt Fault r n
  of-branches n h = record { row = of_branches h.0 h.1.0; in-line = h.1.1.0; faulty = h.1.1.1 }

  of-loads : (n : ℕ) → InLoads n → RowAt Fault r n
  of-loads n h = record { row = of_loads h.0 h.1.0; in-line = h.1.1.0; faulty = h.1.1.1 }

  -- a search of the branch rows, and one of the load rows, whose test is the fault
  finds-branches : (bad : ℕ → BranchRow → Bool) → ((k : ℕ) (b : BranchRow) → Stands r.branches k b → bad k b ≡ true → Fault r (of_branches k b))
      → ((k : ℕ) (b : BranchRow) → Stands r.branches k b → Fault r (of_branches k b) → bad k b ≡ true) → Finds (first_branch bad r) InBranches
  finds-branches bad to back = finds-same
      (λ n h. (h.place, (h.row, ((h.stands, h.line), to h.place h.row h.stands h.is-bad))))
      (λ n h. let i = h.1.1.0 in record { place = h.0; row = h.1.0; stands = i.0; line = i.1; is-bad = back h.0 h.1.0 i.0 h.1.1.1 })
      (finds-rows bad 4 r.branches)

  finds-loads : (bad : ℕ → LoadRow → Bool) → ((k : ℕ) (l : LoadRow) → bad k l ≡ true → Fault r (of_loads k l)) → ((k : ℕ) (l : LoadRow) → Fault r (of_loads k l) → bad k l ≡ true) → Finds (first_load bad r) InLoads
  finds-loads bad to back = finds-same
      (λ n h. (h.place, (h.row, ((h.stands, h.line), to h.place h.row h.is-bad))))
      (λ n h. let i = h.1.1.0 in record { place = h.0; row = h.1.0; stands = i.0; line = i.1; is-bad = back h.0 h.1.0 h.1.1.1 })
      (finds-rows bad (length r.branches + 6) r.loads)

  -- a fault of branch rows alone, of branch and load rows, and of all rows
  only-branches : {x : Option ℕ} → (Fault r of_source → ⊥) → ((k : ℕ) (l : LoadRow) → Fault r (of_loads k l) → ⊥) → Finds x InBranches → Finds x (RowAt Fault r)
  only-branches s l = finds-same of-branches (λ n h. in_table h (λ w. absurd (s w.1)) (λ w. w) (λ w. absurd (l w.0 w.1.0 w.1.1.1)))

  branches-loads : {a b : Option ℕ} → Finds a InBranches → Finds b InLoads → Finds (or_else a b) (λ n. InBranches n ⊎ InLoads n)
  branches-loads {a} {b} = finds-or (length r.branches + 5) a b
      (λ n h. let i = h.1.1.0 in omega (arith, i.1, stands_at i.0 h.1.0))
      (λ n h. let i = h.1.1.0 in omega (arith, i.1, stands_at i.0 h.1.0))

  no_source : {x : Option ℕ} → (Fault r of_source → ⊥) → Finds x (λ n. InBranches n ⊎ InLoads n) → Finds x (RowAt Fault r)
  no_source s = finds-same (λ n. ⊎_elim (of-branches n) (of-loads n)) (λ n h. in_table h (λ w. absurd (s w.1)) inl inr)

  source-too : {a b : Option ℕ} → Finds a InSource → Finds b (λ n. InBranches n ⊎ InLoads n) → Finds (or_else a b) (RowAt Fault r)
  source-too {a} {b} f g = finds-same (λ n. ⊎_elim (of-source n) (⊎_elim (of-branches n) (of-loads n))) (λ n h. in_table h inl (λ w. inr (inl w)) (λ w. inr (inr w)))
      (finds-or 2 a b (λ n h. omega (arith, h.0)) (λ n. ⊎_elim (λ h. omega (arith, h.1.1.0.1)) (λ h. omega (arith, h.1.1.0.1))) f g)

-- ---- tests and faults
past : (most k : ℕ) (c : Bool) → cond (ltb most k) true (not c) ≡ true → (most < k) ⊎ (c ≡ false)
past most k c = go (ltb most k) refl
  where
    go : (b : Bool) → ltb most k ≡ b → cond b true (not c) ≡ true → (most < k) ⊎ (c ≡ false)
    go true h e = inl (ltb-true most k h)
    go false h e = inr (not-true c e)

past_back : (most k : ℕ) (c : Bool) → (most < k) ⊎ (c ≡ false) → cond (ltb most k) true (not c) ≡ true
past_back most k c = ⊎_elim (λ q. rw (lt-ltb most k q)) (λ e. rw e (either (ltb most k)))
  where
    either : (b : Bool) → cond b true true ≡ true
    either true = refl
    either false = refl

both-fail : (a b : Bool) → (a ≡ false) ⊎ (b ≡ false) → (a && b) ≡ false
both-fail a b = ⊎_elim (λ e. rw e) (λ e. rw e (and-false a))

wanted-not : (wanted there : Bool) → cond wanted there true ≡ false → (wanted ≡ true) × (there ≡ false)
wanted-not true there e = (refl, e)
wanted-not false there e = clash true refl e

-- a load stands on a phase
stands-on-one : (t : Terminals) → (q : Phase) × (has (stands_on t) q ≡ true)
unfolding inside
stands-on-one OnA = (A, refl)
stands-on-one OnB = (B, refl)
stands-on-one OnC = (C, refl)
stands-on-one AB = (A, refl)
stands-on-one BC = (B, refl)
stands-on-one CA = (C, refl)

module _ (r : Rows) where
  -- 11
  pub finds-11 : Finds (out_of_limit r) (RowAt Fault11 r)
  unfolding out_of_limit
  finds-11 = source-too r Fault11
      (finds-one (source_in r.given) 2 (λ e. e) (λ e h. clash (source_in r.given) e h))
      (branches-loads r Fault11
      (finds-branches r Fault11 (λ k b. cond (ltb 200 k) true (not (branch_in b.kind b.p))) (λ k b s. past 200 k (branch_in b.kind b.p)) (λ k b s. past_back 200 k (branch_in b.kind b.p)))
      (finds-loads r Fault11 (λ k l. cond (ltb 300 k) true (not (load_in l))) (λ k l. past 300 k (load_in l)) (λ k l. past_back 300 k (load_in l))))

  -- 20
  pub finds-20 : Finds (unknown_from r) (RowAt Fault20 r)
  unfolding unknown_from
  finds-20 = only-branches r Fault20 (λ h. h) (λ k l h. h)
      (finds-branches r Fault20 (λ k b. not (known r b.from))
      (λ k b s e h. clash (known r b.from) (lt-ltb _ _ (node-known r h)) (not-true _ e))
      (λ k b s h. ap not (fails-test (known r b.from) (λ e. known-node r (ltb-true _ _ e)) h)))

  -- 21
  pub finds-21 : Finds (second_to r) (RowAt Fault21 r)
  unfolding second_to
  finds-21 = only-branches r Fault21 (λ h. h) (λ k l h. h)
      (finds-branches r Fault21 (λ k b. ltb (number r b.to) k)
      (λ k b s e.
      let q = ltb-true (number r b.to) k e in
      let n = numbered r s in
      by_number r b.to (omega (arith, nodes-many r, n.inside, n.is-next)) inl (λ i c z t to. inr (record { place = suc i; row = c; stands = t; to_is = to; holds = omega arith })))
      (λ k b s h. lt-ltb _ _ (earlier k b s h)))
    where
      earlier : (k : ℕ) (b : BranchRow) → Stands r.branches k b → Fault21 r (of_branches k b) → number r b.to < k
      earlier k b s = ⊎_elim
          (λ e. omega (arith, source_first r e, (numbered r s).is-next))
          (λ w. let q = to-most r w.stands in let h = w.holds in let z = ap (number r) w.to_is in omega arith)

  -- 24
  pub finds-24 : Finds (not_zero r) (RowAt Fault24 r)
  unfolding not_zero
  finds-24 = only-branches r Fault24 (λ h. h) (λ k l h. h)
      (finds-branches r Fault24 (λ k b. not (zeros b.kind b.phases b.p)) (λ k b s. not-true (zeros b.kind b.phases b.p)) (λ k b s h. ap not h))

  module _ (p : EachOnce r) where
    -- 22, behind 20 and 21
    pub finds-22 : Finds (not_reached r) (RowAt Fault22 r)
    unfolding not_reached
    finds-22 = only-branches r Fault22 (λ h. h) (λ k l h. h)
        (finds-branches r Fault22 (λ k b. not (eqb (above (parent (feeder_of r)) (row_count (feeder_of r)) k) 0))
        (λ k b s e h. clash (eqb (above (parent (feeder_of r)) (row_count (feeder_of r)) k) 0) (eq-eqb _ _ (row-reached r p s h)) (not-true _ e))
        (λ k b s h. ap not (ne_eqb _ _ (λ e. h (reached-row r p s e)))))

    -- 23: of the phases wanted, one is not at the node
    lacks : (name : ℕ) (wanted : Phases) → all_of wanted (phases_of (feeder_of r) (number r name)) ≡ false → LacksPhase r name wanted
    lacks name wanted e =
        let there = phases_of (feeder_of r) (number r name) in
        let w = some-false (λ q. cond (has wanted q) (has there q) true) e in
        let h = wanted-not (has wanted w.0) (has there w.0) w.1 in
        record { phase = w.0; is-wanted = h.0; absent = λ x. clash (has there w.0) (phase-there r p w.0 x) h.1 }

    lacks-back : (name : ℕ) (wanted : Phases) → LacksPhase r name wanted → all_of wanted (phases_of (feeder_of r) (number r name)) ≡ false
    lacks-back name wanted h =
        let there = phases_of (feeder_of r) (number r name) in
        false-some (λ q. cond (has wanted q) (has there q) true) h.phase (rw h.is-wanted (fails-test (has there h.phase) (there-phase r p name h.phase) h.absent))

    -- an unknown node has no phase, and a load wants one
    unknown-lacks : (name : ℕ) (t : Terminals) → (IsNode r name → ⊥) → LacksPhase r name (stands_on t)
    unknown-lacks name t h =
        let w = stands-on-one t in
        record { phase = w.0; is-wanted = w.1; absent = λ x. h (⊎_elim inl (λ y. inr (record { place = y.place; row = y.row; stands = y.stands; to_is = y.to_is; holds = tt })) x) }

    pub finds-23 : Finds (phase_absent r) (RowAt Fault23 r)
    unfolding phase_absent feeder_of
    finds-23 = no_source r Fault23 (λ h. h) (branches-loads r Fault23
        (finds-branches r Fault23 (λ k b. not (all_of b.phases (phases_of (feeder_of r) (parent (feeder_of r) k)) && three_phase b.kind b.phases))
        (λ k b s e. ⊎_elim (λ w. inl (lacks b.from b.phases (rw (numbered r s).from at w))) inr (one-false (all_of b.phases (phases_of (feeder_of r) (parent (feeder_of r) k))) (three_phase b.kind b.phases) (not-true _ e)))
        (λ k b s h. ap not (both-fail (all_of b.phases (phases_of (feeder_of r) (parent (feeder_of r) k))) (three_phase b.kind b.phases) (⊎_elim (λ w. inl (rw (numbered r s).from (lacks-back b.from b.phases w))) inr h))))
        (finds-loads r Fault23 (λ k l. not (all_of (stands_on l.phase) (phases_of (feeder_of r) (number r l.node))))
        (λ k l e. inr (lacks l.node (stands_on l.phase) (not-true _ e)))
        (λ k l h. ap not (lacks-back l.node (stands_on l.phase) (⊎_elim (unknown-lacks l.node l.phase) (λ w. w) h)))))
