-- What is known of a feeder that was read: none of 9 to 24 applies; every row is reached, and every parent is a node. Assumes nothing.
use Rattle.std.specs.Prelude.{false, not, List, [], ◌∷◌, ◌≡◌, refl, ◌+◌, ◌<◌, suc, zero, ℕ, eqb, get_or, length, None, Ok}
use Rattle.std.proofs.Common.{ap, subst, arith, eq-eqb, eqb-true, ltb-true}
use Rattle.std.proofs.lemmas.List.{length-map}
use Rattle.std.proofs.lemmas.Bool.{not-false}
use Rattle.answers.specs.AnswerLaws.{bound, not_at, not-if, same_good}
use Rattle.answers.specs.Answers.{◌>>=◌}
use Rattle.answers.specs.declared.Refusal.TheVariants.{TooLong}
use Rattle.feeder.specs.Feeder.{Feeder, above, branch_at, branch_of, feeder_of, known, no_branch, nodes_of, not_reached, not_zero, out_of_limit, parent, phase_absent, place_of, reading, row_count, second_to, too_long, unknown_from}
use Rattle.feeder.specs.Layout.{Rows, layout}
use Rattle.feeder.specs.Reach.{reach-enough}
use Rattle.feeder.specs.RowLaws.{none-bad, none_found}
use Rattle.feeder.specs.Stages.{from11, from20, from21, from22, from23, from24}
use Rattle.feeder.specs.declared.Branch.{Branch}
use Rattle.feeder.specs.declared.BranchRow.{BranchRow}
use Rattle.integers.specs.ListLaws.{get_or_map}

pub record Sound (s : List ℕ) (f : Feeder) : Type 0 where
  pub rows : Rows
  pub t9 : too_long s ≡ false
  pub read : layout s ≡ Ok rows
  pub made : feeder_of rows ≡ f
  pub t11 : out_of_limit rows ≡ None
  pub t20 : unknown_from rows ≡ None
  pub t21 : second_to rows ≡ None
  pub t22 : not_reached rows ≡ None
  pub t23 : phase_absent rows ≡ None
  pub t24 : not_zero rows ≡ None

-- a feeder that is read has met each test
pub sound : (s : List ℕ) (f : Feeder) → reading s ≡ Ok f → Sound s f
unfolding reading from11 from20 from21 from22 from23 from24
sound s f e =
    let a = not-if (too_long s) TooLong (layout s >>= from11) f e in
    let b = bound (layout s) from11 f a.1 in
    let c = not_at _ _ _ _ b.rest in
    let d = not_at _ _ _ _ c.1 in
    let g = not_at _ _ _ _ d.1 in
    let h = not_at _ _ _ _ g.1 in
    let i = not_at _ _ _ _ h.1 in
    let j = not_at _ _ _ _ i.1 in
    record { rows = b.value; t9 = a.0; read = b.came; made = same_good _ _ j.1; t11 = c.0; t20 = d.0; t21 = g.0; t22 = h.0; t23 = i.0; t24 = j.0 }

-- and a text that meets each test is read
pub sound-reads : (s : List ℕ) (f : Feeder) → Sound s f → reading s ≡ Ok f
unfolding reading
sound-reads s f w = rw (w.t9, w.read, w.t11, w.t20, w.t21, w.t22, w.t23, w.t24) (ap (λ (g : Feeder). Ok g) w.made)

pub row-count : (r : Rows) → row_count (feeder_of r) ≡ length r.branches
unfolding feeder_of
row-count r = length-map r.branches (branch_of (nodes_of r))

-- node b is fed from the source: as many steps up as there are rows arrive there
pub record Reached (f : Feeder) (b : ℕ) : Type 0 where
  pub row : 0 < b
  pub steps : above (parent f) (row_count f) b ≡ 0

-- a row of a list that has one
pub row_of : {X : Type 0} (l : List X) → 0 < length l → X
row_of [] q = absurd (omega arith)
row_of (x ∷ l) q = x

-- 22: every row is reached
pub one-reached : (s : List ℕ) (f : Feeder) → Sound s f → (i : ℕ) → i < row_count f → Reached f (suc i)
unfolding not_reached feeder_of
one-reached s f w = subst (λ (g : Feeder). (i : ℕ) → i < row_count g → Reached g (suc i)) w.made one
  where
    one : (i : ℕ) → i < row_count (feeder_of w.rows) → Reached (feeder_of w.rows) (suc i)
    one i q =
        let n : i < length w.rows.branches = rw (row-count w.rows) at q in
        let d : BranchRow = row_of w.rows.branches (omega arith) in
        let g : Feeder = feeder_of w.rows in
        let z : 1 + i ≡ suc i = omega arith in
        let h : not (eqb (above (parent g) (row_count g) (1 + i)) 0) ≡ false = none-bad (λ k b. not (eqb (above (parent g) (row_count g) k) 0)) 4 1 w.rows.branches d w.t22 i n in
        record { row = omega arith; steps = eqb-true _ _ (not-false _ (rw z at h)) }

-- every node, the source too, is at or below the source
pub node-reached : (s : List ℕ) (f : Feeder) → Sound s f → (k : ℕ) → k < suc (row_count f) → above (parent f) (row_count f) k ≡ 0
unfolding above
node-reached s f w zero q = start (row_count f)
  where
    start : (n : ℕ) → above (parent f) n 0 ≡ 0
    start zero = refl
    start (suc n) = refl
node-reached s f w (suc k) q = (one-reached s f w k (omega arith)).steps

-- the branch that feeds node j + 1 is that of row j + 1
pub branch-is : (r : Rows) (j : ℕ) → j < length r.branches → (d : BranchRow) → branch_at (feeder_of r) (suc j) ≡ branch_of (nodes_of r) (get_or r.branches j d)
unfolding branch_at feeder_of
branch-is r j q d = get_or_map (branch_of (nodes_of r)) r.branches j d no_branch q

-- 20: every parent is a node
pub parent-among : (r : Rows) → unknown_from r ≡ None → (k : ℕ) → k < suc (row_count (feeder_of r)) → parent (feeder_of r) k < suc (row_count (feeder_of r))
unfolding unknown_from feeder_of nodes_of branch_at
parent-among r t zero q = omega arith
parent-among r t (suc j) q =
    let n : j < length r.branches = let m : j < row_count (feeder_of r) = omega arith in rw (row-count r) at m in
    let d : BranchRow = row_of r.branches (omega arith) in
    let h : place_of (get_or r.branches j d).from (nodes_of r) < length (nodes_of r) = ltb-true _ _ (not-false _ (none-bad (λ k b. not (known r b.from)) 4 1 r.branches d t j n)) in
    let e : parent (feeder_of r) (suc j) ≡ place_of (get_or r.branches j d).from (nodes_of r) = ap (λ (b : Branch). b.from) (branch-is r j n d) in
    omega (arith, e, h, row-count r, length-map r.branches (λ b. b.to))

pub parent-known : (s : List ℕ) (f : Feeder) → Sound s f → (k : ℕ) → k < suc (row_count f) → parent f k < suc (row_count f)
parent-known s f w = subst (λ (g : Feeder). (k : ℕ) → k < suc (row_count g) → parent g k < suc (row_count g)) w.made (parent-among w.rows w.t20)

-- 22 has a bound on the steps, and no other meaning by it: where each row's node is brought to the source by some number of steps, none is found
pub reached-somehow : (r : Rows) → unknown_from r ≡ None → (steps : ℕ → ℕ) → ((k : ℕ) → 0 < k → k < suc (length r.branches) → above (parent (feeder_of r)) (steps k) k ≡ 0) → not_reached r ≡ None
unfolding not_reached
reached-somehow r t steps h =
    let f : Feeder = feeder_of r in
    let rows : row_count f ≡ length r.branches = row-count r in
    none_found (λ k b. not (eqb (above (parent f) (row_count f) k) 0)) 4 1 r.branches
    (λ i d q. let e = reach-enough (parent f) (row_count f) (parent-among r t) (steps (1 + i)) (1 + i) (omega arith) (h (1 + i) (omega arith) (omega arith)) in
    ap not (eq-eqb (above (parent f) (row_count f) (1 + i)) 0 e))
