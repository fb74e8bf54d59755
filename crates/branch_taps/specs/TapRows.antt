-- The array of a feeder with other taps. Assumes nothing.
use Rattle.std.specs.Prelude.{List, ◌∷◌, ◌≡◌, ◌≤◌, ℕ, get_or, length}
use Rattle.std.proofs.Common.{◌∙◌, sym, arith, ext_get_or}
use Rattle.feeder.specs.Feeder.{Feeder, branch_at, no_branch, no_taps, row_count, tapped_branch, with_taps}
use Rattle.feeder.specs.Network.{branch_array}
use Rattle.feeder.specs.NetworkLaws.{get_or_kept, length-kept}
use Rattle.feeder.proofs.TapLaws.{branch-tapped, count-tapped}
use Rattle.feeder.specs.declared.Branch.{Branch}
use Rattle.feeder.specs.Phased.{Taps}

-- where every place has its tap, the array holds the feeder with these taps
pub set-tapped : (t : List Taps) (f : Feeder) (l : List Branch) → row_count f ≤ 200 → length l ≡ 201 → ((k : ℕ) → get_or l k no_branch ≡ tapped_branch (get_or t k no_taps) (branch_at f k)) → l ≡ branch_array (with_taps t f)
unfolding branch_at
set-tapped t f l few long at =
    let g = with_taps t f in
    let n = count-tapped t f in
    ext_get_or no_branch l (branch_array g) (long ∙ sym (length-kept no_branch 201 (no_branch ∷ g.branches)))
    (λ k q. at k ∙ sym (get_or_kept no_branch 201 (no_branch ∷ g.branches) k (omega arith) ∙ branch-tapped t f k))
