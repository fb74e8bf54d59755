-- A branch carries no current on a phase that it has not: what is taken at its node is 0 there. Assumes nothing.
use Rattle.std.specs.Prelude.{Bool, cond, not, List, ◌≡◌, eqb, nat_abs, negsuc, pos, ℤ, get_or}
use Rattle.std.proofs.Math.Bool.{false, true}
use Rattle.std.proofs.Common.{◌∙◌, ap₂, arith, eqb-true, leb-true}
use Rattle.std.proofs.Math.Path.{refl}
use Prim.Native.Nat.{◌+◌, ◌<◌, ◌≤◌, suc, zero, ℕ}
use Rattle.std.proofs.lemmas.Bool.{not-false}
use Rattle.equations.specs.Equations.{at, load_current, near_current, sign_at, zero3}
use Rattle.equations.specs.Meets.{at-taken, taken_at}
use Rattle.equations.specs.Sizes.{none_of}
use Rattle.equations.specs.ThreeLaws.{at-masked, csum-none}
use Rattle.feeder.specs.Feeder.{Feeder, branch_at, has, parent, phase_signs, phases_of, row_count, rows_of, stands_on}
use Rattle.feeder.proofs.RowFacts.{Formed, OfLoad}
use Rattle.feeder.specs.declared.Load.{Load}
use Rattle.feeder.specs.declared.Phase.{Phase}
use Rattle.feeder.specs.declared.Phase.TheVariants.{A, B, C}
use Rattle.feeder.specs.declared.Terminals.{Terminals}
use Rattle.feeder.specs.Phased.{Three}
use Rattle.integers.specs.Bools.{clash}
use Rattle.integers.specs.ListLaws.{all-count, all_map}
use Rattle.integers.specs.PairLaws.{+c-idr}
use Rattle.integers.specs.Pairs.{0c, ◌+c◌, inside, scaled}
use Rattle.integers.specs.declared.Pair.{Pair}

-- a load takes nothing from a phase that its node has not: it stands on the phases whose sign is not 0, and these its node has
sign-none : (z : ℤ) (x : Pair) → not (inside 0 z) ≡ false → scaled z x ≡ 0c
unfolding inside
sign-none z x n = go z (leb-true _ _ (not-false _ n))
  where
    go : (z : ℤ) → nat_abs z ≤ 0 → scaled z x ≡ 0c
    go (pos zero) h = none_of x
    go (pos (suc k)) h = absurd (omega arith)
    go (negsuc k) h = absurd (omega arith)

sign-off : (t : Terminals) (p : Phase) (x : Pair) → has (stands_on t) p ≡ false → scaled (sign_at (phase_signs t) p) x ≡ 0c
sign-off t A x n = sign-none (phase_signs t).a x n
sign-off t B x n = sign-none (phase_signs t).b x n
sign-off t C x n = sign-none (phase_signs t).c x n

not_there : (c d : Bool) → (c ≡ true → d ≡ true) → d ≡ false → c ≡ false
not_there true d h n = clash d (h refl) n
not_there false d h n = refl

-- what counts only at one node is none where it is none at that node
only-there : (n m : ℕ) (x : Pair) → (n ≡ m → x ≡ 0c) → cond (eqb n m) x 0c ≡ 0c
only-there n m x h = go (eqb n m) refl
  where
    go : (c : Bool) → eqb n m ≡ c → cond c x 0c ≡ 0c
    go true e = h (eqb-true n m e)
    go false e = refl

masked_off : (c : Bool) (x : Pair) → c ≡ false → cond c x 0c ≡ 0c
masked_off c x e = rw e

module _ (f : Feeder) (w : Formed f) (v i : List Three) (j : ℕ) (p : Phase) (n : has (branch_at f (suc j)).phases p ≡ false) where
  load-none : (l : Load) → OfLoad f l → cond (eqb l.node (suc j)) (scaled (sign_at (phase_signs l.phase) p) (load_current v l)) 0c ≡ 0c
  unfolding phases_of
  load-none l o = only-there l.node (suc j) _ (λ z. sign-off l.phase p _ (not_there _ (has (phases_of f l.node) p) (o.there p) (rw z n)))

  branch-none : (k : ℕ) → k < row_count f → cond (eqb (parent f (suc k)) (suc j)) (at (near_current (branch_at f (suc k)) (get_or i (suc k) zero3)) p) 0c ≡ 0c
  unfolding phases_of near_current
  branch-none k q = only-there (parent f (suc k)) (suc j) _ (λ z. at-masked (branch_at f (suc k)).phases _ p ∙ masked_off (has (branch_at f (suc k)).phases p) _ (away z (has (branch_at f (suc k)).phases p) refl))
    where
      away : parent f (suc k) ≡ suc j → (c : Bool) → has (branch_at f (suc k)).phases p ≡ c → c ≡ false
      away z true h = let y : has (phases_of f (suc j)) p ≡ true = rw z at ((w.branches k q).under p h) in clash (has (branch_at f (suc j)).phases p) y n
      away z false h = refl

  -- of every feeder that has the form of one
  pub absent_none : at (taken_at f v i (suc j)) p ≡ 0c
  absent_none = at-taken f v i (suc j) p ∙ ap₂ ◌+c◌
      (csum-none _ f.loads (all_map f.loads load-none w.loads))
      (csum-none _ (rows_of f) (all-count _ 1 (row_count f) (λ k q. let z : 1 + k ≡ suc k = omega arith in rw z (branch-none k q))))
      ∙ +c-idr 0c
