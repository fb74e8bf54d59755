-- The first node that is marked below none is the first that is off below none. Assumes nothing.
use Rattle.std.specs.Prelude.{◌&&◌, Bool, cond, false, not, true, ◌∷◌, List, ◌≡◌, refl, ◌<◌, suc, zero, ℕ, get_or}
use Rattle.std.proofs.Common.{◌∙◌, ap, ap₂, sym, arith}
use Rattle.equations.specs.Equations.{voltages}
use Rattle.feeder.specs.Feeder.{Feeder, first_row, row_count}
use Rattle.feeder.specs.declared.Branch.{Branch}
use Rattle.feeder.specs.Phased.{Three}
use Rattle.integers.specs.Lists.{count}
use Rattle.radial.specs.Radial.{parent_in}
use Rattle.deviations.specs.Deviations.{MarksAre, below_off_at, first_marked, first_off, off_at}
use Rattle.passes.specs.Nodes.{same_nodes}

-- a node that is marked below one that is not is one that is off below none
pub marked-off : (f : Feeder) (branches : List Branch) (rows : ℕ) (i reported : List Three) (tol : ℕ) (off : List Bool) → rows ≡ row_count f → get_or off 0 false ≡ false →
    MarksAre f branches rows i reported tol off → first_marked branches rows off ≡ first_off f tol (voltages f i) reported
marked-off f branches rows i reported tol off r z w =
    same_nodes (λ k. get_or off k false && not (get_or off (parent_in branches k) false)) (λ k. here k && not (over k)) rows one ∙
    ap (λ (n : ℕ). first_row (λ (j k : ℕ). here k && not (over k)) 1 1 (0 ∷ count 1 n)) r
  where
    here : ℕ → Bool
    here k = off_at tol (voltages f i) reported k

    over : ℕ → Bool
    over k = below_off_at f tol (voltages f i) reported k

    alone : (a b : Bool) → (cond a true b && not b) ≡ (a && not b)
    alone true b = refl
    alone false true = refl
    alone false false = refl

    none : (a b : Bool) → cond a true b ≡ false → a ≡ false
    none true b e = e
    none false b e = refl

    one : (k : ℕ) → k < suc rows → (get_or off k false && not (get_or off (parent_in branches k) false)) ≡ (here k && not (over k))
    one zero h =
        ap (λ (b : Bool). b && not (get_or off (parent_in branches 0) false)) z ∙
        sym (ap (λ (b : Bool). b && not (over 0)) (none (here 0) (over 0) (sym (w.mark 0 (omega arith)) ∙ z)))
    one (suc k) h = ap₂ (λ (a b : Bool). a && not b) (w.mark (suc k) (omega arith)) (w.parent-mark (suc k) (omega arith) (omega arith)) ∙ alone (here (suc k)) (over (suc k))
