-- The reading of a file by its length and its layout, and the network that its tables make. Assumes nothing.
use Rattle.std.specs.Prelude.{false, true, List, ◌∷◌, map, ◌≡◌, ◌+◌, ◌≤◌, ℕ, take, Ok, Err}
use Rattle.std.proofs.Common.{◌∙◌}
use Rattle.std.proofs.Math.Path.{sym}
use Rattle.std.proofs.Math.ListN.{length, length-map}
use Rattle.answers.specs.declared.Refusal.{Refusal}
use Rattle.answers.specs.declared.Refusal.TheVariants.{TooLong}
use Rattle.feeder.specs.Feeder.{branch_of, feeder_of, load_of, no_branch, nodes_of, reading, too_long}
use Rattle.feeder.proofs.FeederLaws.{row-count}
use Rattle.feeder.specs.Layout.{Rows, layout}
use Rattle.feeder.specs.Network.{Held, Tabled, kept, no_load}
use Rattle.feeder.specs.Stages.{from11, reading-is}
use Rattle.feeder.specs.declared.Branch.{Branch}
use Rattle.feeder.specs.declared.Load.{Load}
use Rattle.feeder.specs.declared.Network.{Network}
use Rattle.feeder.specs.declared.Tables.{Tables}
use Rattle.names.specs.Numbered.{branches_in, loads_in, nodes_in}
use Rattle.names.specs.NumberedLaws.{branches-kept, loads-kept}
use Rattle.radial.specs.Radial.{InOrder, Whole, made}
use Rattle.reading.specs.Reading.{Arranged, Numbered}

-- the reading by its length and its layout
pub read-long : (s : List ℕ) → too_long s ≡ true → reading s ≡ Err TooLong
read-long s e = reading-is s ∙ rw e

pub read-bad : (s : List ℕ) (x : Refusal) → too_long s ≡ false → layout s ≡ Err x → reading s ≡ Err x
read-bad s x e h = reading-is s ∙ rw (e, h)

pub read-laid : (s : List ℕ) (r : Rows) → too_long s ≡ false → layout s ≡ Ok r → reading s ≡ from11 r
read-laid s r e h = reading-is s ∙ rw (e, h)

-- the rows by the numbers of their nodes, as the names are put first
module _ {r : Rows} {t : Tables} {nodes : List ℕ} (h : Tabled r t) (few : t.rows ≤ 200) (names : nodes ≡ nodes_in r) where
  pub branches-are : {branches : List Branch} → branches ≡ kept no_branch 201 (no_branch ∷ map (branch_of (take (t.rows + 1) nodes)) r.branches) → branches ≡ branches_in r
  branches-are e = e ∙ rw names (branches-kept r t.rows h.rows few)

  pub loads-are : {loads : List Load} → loads ≡ kept no_load 300 (map (load_of (take (t.rows + 1) nodes)) r.loads) → loads ≡ loads_in r
  loads-are e = e ∙ rw names (loads-kept r t.rows h.rows few)

-- the network holds the feeder
pub held_in : {r : Rows} {g : Network} → Numbered r g → Held (feeder_of r) g
unfolding feeder_of
held_in {r} {g} n =
    let loads : length (feeder_of r).loads ≡ length r.loads = length-map r.loads (load_of (nodes_of r)) in
    record {
      source = n.source;
      tol = n.tol;
      limit = n.limit;
      rows = n.rows ∙ sym (row-count r);
      few-rows = rw (row-count r, ← n.rows) g.few_rows;
      nodes = n.nodes;
      branches = n.branches;
      count = n.count ∙ sym loads;
      few-loads = rw (loads, ← n.count) g.few_loads;
      loads = n.loads;
    }

-- an order that has every node
pub arranged : {g : Network} {len : ℕ} → let o = made len g.order g.rank in InOrder g.branches g.rows o → Whole g.rows o → Arranged g
arranged p w =
    record {
      linked = p.placed.linked;
      ordered = rw w.full at p.placed.ordered;
      ranked = w.ranked;
      order-size = p.placed.order-size;
      rank-size = p.placed.rank-size;
    }
