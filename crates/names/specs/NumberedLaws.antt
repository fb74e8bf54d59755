-- A file's rows, and the arrays that hold them by node numbers. Assumes nothing.
use Rattle.std.specs.Prelude.{Bool, ◌&&◌, cond, false, true, List, ◌∷◌, ◌≡◌, ℤ, get_or, length, map, take, None}
use Rattle.std.proofs.Math.Bool.{not}
use Rattle.std.proofs.Common.{◌∙◌, sym, add-one}
use Rattle.std.proofs.Math.Path.{ap, refl}
use Prim.Native.Nat.{◌+◌, ◌<◌, ◌≤◌, suc, zero, ℕ}
use Rattle.std.proofs.Math.Decide.{dec_lt}
use native.Mathlib.Omega.{arith}
use Rattle.std.proofs.Math.Dec.{ltb}
use Rattle.std.proofs.Math.ListN.{get_or-eq_default}
use Rattle.std.proofs.lemmas.List.{length-map}
use borrow.Author.Tests.{le-ltb, lt-ltb, ltb-false, ne_eqb}
use Rattle.feeder.specs.Feeder.{all_of, branch_at, branch_of, device_of, feeder_of, first_row, known, load_of, no_branch, no_phases, nodes_of, or_else, parent, phase_absent, phases_of, place_of, second_to, stands_on, three_phase, unknown_from}
use Rattle.feeder.specs.Layout.{Rows}
use Rattle.feeder.specs.Network.{kept, no_load}
use Rattle.feeder.specs.NetworkLaws.{get_or_kept, take-kept}
use Rattle.feeder.specs.RowLaws.{none-bad}
use Rattle.feeder.specs.declared.Branch.{Branch}
use Rattle.feeder.specs.declared.Kind.{Kind}
use Rattle.feeder.specs.declared.Kind.TheVariants.{D, L, R, Y}
use Rattle.feeder.specs.declared.Load.{Load}
use Rattle.feeder.specs.Phased.{Phases}
use Rattle.feeder.specs.declared.Terminals.{Terminals}
use Rattle.feeder.specs.declared.Terminals.TheVariants.{AB, BC, CA, OnA, OnB, OnC}
use Rattle.integers.specs.Lists.{all}
use Rattle.integers.specs.Pairs.{inside}
use Rattle.names.specs.Numbered.{branch_absent, branches_in, from_unknown, load_absent, loads_in, nodes_in, phases_in, three_phase_of, to_second}
use Rattle.names.specs.Rest.{first-image, rest}

-- all phases of f are among those of g, one phase after the other
pub phases_among : (f g : Phases) → all_of f g ≡ (cond f.a g.a true && (cond f.b g.b true && cond f.c g.c true))
unfolding all
phases_among f g = go (cond f.a g.a true) (cond f.b g.b true) (cond f.c g.c true)
  where
    go : (a b c : Bool) → (a && (b && (c && true))) ≡ (a && (b && c))
    go a b true = refl
    go a b false = refl

-- a transformer is known by its kind and by its device
threes : (k : Kind) (p : List ℤ) (f : Phases) → three_phase_of (device_of k p) f ≡ three_phase k f
unfolding device_of
threes L p f = refl
threes R p f = refl
threes Y p f = refl
threes D p f = refl

has-none : (p : Terminals) → all_of (stands_on p) no_phases ≡ false
unfolding all inside
has-none OnA = refl
has-none OnB = refl
has-none OnC = refl
has-none AB = refl
has-none BC = refl
has-none CA = refl

-- no phase is at a node that no branch feeds
pub load-unknown : (bs : List Branch) (k : ℕ) (l : Load) → 0 < l.node → get_or bs l.node no_branch ≡ no_branch → load_absent bs k l ≡ true
unfolding load_absent
load-unknown bs k l h e = rw (ne_eqb l.node 0 (λ z. omega arith), e, has-none l.phase)

-- ---- what the arrays hold is the feeder of the rows
module _ (r : Rows) (count : ℕ) (size : count ≡ length r.branches) where
  length-nodes : length (nodes_of r) ≡ count + 1
  unfolding nodes_of
  length-nodes = rw (length-map, ← size, add-one)

  length-branches : length (feeder_of r).branches ≡ count
  unfolding feeder_of
  length-branches = rw (length-map, ← size)

  module _ (few : count ≤ 200) where
    -- the names
    pub take-nodes : take (count + 1) (nodes_in r) ≡ nodes_of r
    take-nodes = rw (sym length-nodes) (take-kept 0 201 (nodes_of r) (rw length-nodes (omega arith)))

    -- the branches from place 0 on
    whole : length (no_branch ∷ (feeder_of r).branches) ≡ count + 1
    whole = rw (add-one, length-branches)

    take-branches : take (count + 1) (branches_in r) ≡ no_branch ∷ (feeder_of r).branches
    take-branches = rw (sym whole) (take-kept no_branch 201 (no_branch ∷ (feeder_of r).branches) (rw whole (omega arith)))

    -- what the calls fill the arrays with
    pub branches-kept : kept no_branch 201 (no_branch ∷ map (branch_of (take (count + 1) (nodes_in r))) r.branches) ≡ branches_in r
    unfolding feeder_of
    branches-kept = rw take-nodes

    pub loads-kept : kept no_load 300 (map (load_of (take (count + 1) (nodes_in r))) r.loads) ≡ loads_in r
    unfolding feeder_of
    loads-kept = rw take-nodes

    -- each branch, and each from-number
    pub branch-at : (k : ℕ) → get_or (branches_in r) k no_branch ≡ branch_at (feeder_of r) k
    unfolding branch_at
    branch-at k = get_or_kept no_branch 201 (no_branch ∷ (feeder_of r).branches) k (rw whole (omega arith))

    pub parent-at : (k : ℕ) → parent (feeder_of r) k ≡ (get_or (branches_in r) k no_branch).from
    parent-at k = ap (λ (b : Branch). b.from) (sym (branch-at k))

    pub none-past : (k : ℕ) → count < k → get_or (branches_in r) k no_branch ≡ no_branch
    unfolding branch_at
    none-past k h = branch-at k ∙ get_or-eq_default (no_branch ∷ (feeder_of r).branches) no_branch {n = k} (rw whole (omega arith))

    phases-at : (k : ℕ) → phases_in (branches_in r) k ≡ phases_of (feeder_of r) k
    unfolding phases_of
    phases-at zero = refl
    phases-at (suc k) = rw (ne_eqb (suc k) 0 (λ e. omega arith)) (ap (λ (b : Branch). b.phases) (branch-at (suc k)))

    -- 20
    beyond : (p : ℕ) → ltb count p ≡ not (ltb p (count + 1))
    beyond p =
        elim (dec_lt count p) [
          | yes h ↦ lt-ltb count p h ∙ sym (ap not (le-ltb p (count + 1) (omega arith)))
          | no h ↦ le-ltb count p (omega arith) ∙ sym (ap not (lt-ltb p (count + 1) (omega arith)))
        ]

    unknown-rows : first_row (from_unknown count) 4 1 (feeder_of r).branches ≡ unknown_from r
    unfolding feeder_of unknown_from from_unknown
    unknown-rows =
        first-image (λ k b. not (known r b.from)) (from_unknown count) (branch_of (nodes_of r)) 4 1 r.branches
        (λ j x. beyond (place_of x.from (nodes_of r)) ∙ ap (λ (n : ℕ). not (ltb (place_of x.from (nodes_of r)) n)) (sym length-nodes))

    pub unknown-from : (branches : List Branch) → branches ≡ branches_in r → first_row (from_unknown count) 4 1 (rest 1 (count + 1) branches) ≡ unknown_from r
    unknown-from branches e = rw (e, take-branches) unknown-rows

    -- where 20 has passed, every from-number is a node's
    pub from-known : unknown_from r ≡ None → (k : ℕ) → (get_or (branches_in r) k no_branch).from ≤ count
    unfolding from_unknown branch_at
    from-known e k = rw (branch-at k) (go k)
      where
        go : (k : ℕ) → (get_or (no_branch ∷ (feeder_of r).branches) k no_branch).from ≤ count
        go zero = omega arith
        go (suc k) =
            elim (dec_lt k count) [
              | yes h ↦ ltb-false count _ (none-bad (λ j b. ltb count b.from) 4 1 (feeder_of r).branches no_branch (unknown-rows ∙ e) k (rw length-branches h))
              | no h ↦ rw (get_or-eq_default (feeder_of r).branches no_branch {n = k} (rw length-branches (omega arith))) (omega arith)
            ]

    -- 21
    pub second-to : (nodes : List ℕ) → nodes ≡ nodes_in r → first_row (to_second (take (count + 1) nodes)) 4 1 (rest 1 (count + 1) nodes) ≡ second_to r
    unfolding second_to nodes_of to_second
    second-to nodes e =
        rw (e, take-nodes)
        (first-image (λ k b. ltb (place_of b.to (nodes_of r)) k) (to_second (nodes_of r)) (λ b. b.to) 4 1 r.branches (λ j x. refl))

    -- 23: of the branches, of the loads, and of both
    absent-branches : first_row (branch_absent (branches_in r)) 4 1 (feeder_of r).branches
        ≡ first_row (λ k b. not (all_of b.phases (phases_of (feeder_of r) (parent (feeder_of r) k)) && three_phase b.kind b.phases)) 4 1 r.branches
    unfolding feeder_of branch_absent
    absent-branches = first-image _ (branch_absent (branches_in r)) (branch_of (nodes_of r)) 4 1 r.branches
        (λ k b. rw (threes b.kind b.p b.phases, phases-at, parent-at k))

    absent-loads : first_row (load_absent (branches_in r)) (count + 6) 1 (feeder_of r).loads
        ≡ first_row (λ k l. not (all_of (stands_on l.phase) (phases_of (feeder_of r) (place_of l.node (feeder_of r).nodes)))) (length r.branches + 6) 1 r.loads
    unfolding feeder_of load_absent
    absent-loads = rw (sym size) (first-image _ (load_absent (branches_in r)) (load_of (nodes_of r)) (count + 6) 1 r.loads (λ k l. rw phases-at))

    module _ (total : ℕ) (number : total ≡ length r.loads) (some : total ≤ 300) where
      length-loads : length (feeder_of r).loads ≡ total
      unfolding feeder_of
      length-loads = rw (length-map, ← number)

      pub loads-in : take total (loads_in r) ≡ (feeder_of r).loads
      loads-in = rw (sym length-loads) (take-kept no_load 300 (feeder_of r).loads (rw length-loads some))

      pub phase-absent : (branches : List Branch) (loads : List Load) → branches ≡ branches_in r → loads ≡ loads_in r →
          or_else (first_row (branch_absent branches) 4 1 (rest 1 (count + 1) branches)) (first_row (load_absent branches) (count + 6) 1 (take total loads)) ≡ phase_absent r
      unfolding phase_absent
      phase-absent branches loads e f = rw (e, f, take-branches, loads-in, absent-branches, absent-loads)
