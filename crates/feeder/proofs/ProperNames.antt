-- Every node of a feeder that is read has a name of 1 to 8 letters. Assumes nothing.
use Rattle.std.specs.Prelude.{List, ◌≡◌, ◌<◌, suc, ℕ, get_or, length, Ok}
use Rattle.std.proofs.Common.{◌∙◌, ap, subst, sym, arith}
use Rattle.std.proofs.lemmas.List.{length-map}
use Rattle.feeder.specs.Feeder.{Feeder, feeder_of, nodes_of, row_count}
use Rattle.feeder.proofs.FeederLaws.{Sound, row-count}
use Rattle.feeder.specs.File.{row_of_branch, row_of_source}
use Rattle.feeder.proofs.FileRead.{file-read}
use Rattle.feeder.specs.Layout.{Rows, layout}
use Rattle.integers.specs.ListLaws.{all-at, all-image, all_map}
use Rattle.integers.specs.Lists.{All}
use Rattle.text.specs.Text.{Proper}

-- the names of rows that can be written are names
layout-proper : (s : List ℕ) (r : Rows) → layout s ≡ Ok r → All Proper (nodes_of r)
unfolding nodes_of row_of_source row_of_branch
layout-proper s r e =
    let h = (file-read s r e).0 in
    (h.source.proper.0, all-image Proper (λ b. b.to) r.branches (all_map r.branches (λ b w. w.row.proper.1.0) h.branches))

-- the source's name, and every "to"
pub sound-names : (s : List ℕ) (f : Feeder) → Sound s f → All Proper f.nodes
unfolding feeder_of
sound-names s f w = subst (λ (g : Feeder). All Proper g.nodes) w.made (layout-proper s w.rows w.read)

-- by node number: there is one for each node
pub node-proper : (s : List ℕ) (f : Feeder) → Sound s f → (k : ℕ) → k < suc (row_count f) → Proper (get_or f.nodes k 0)
unfolding feeder_of nodes_of
node-proper s f w k q = all-at Proper f.nodes (sound-names s f w) k 0 (omega (arith, many))
  where
    many : length f.nodes ≡ suc (row_count f)
    many = subst (λ (g : Feeder). length g.nodes ≡ suc (row_count g)) w.made (ap suc (length-map w.rows.branches (λ b. b.to) ∙ sym (row-count w.rows)))
