-- The order of work of a radial feeder. Node 0 is the source and node k the "to" of row k; `par k` is the node that feeds node k, and what it is at 0 counts for
-- nothing. Assumes nothing.
use Rattle.std.specs.Prelude.{Bool, not, List, [], ◌∷◌, ◌≡◌, ◌+◌, ◌<◌, ◌≤◌, suc, zero, ℕ, eqb, get_or, length, take, Option}
use Rattle.feeder.specs.Feeder.{above, first_row, no_branch}
use Rattle.feeder.specs.declared.Branch.{Branch}
use Rattle.integers.specs.Lists.{count}
use Rattle.radial.specs.declared.Order.{Order}

abbrev pub made : ℕ → List ℕ → List ℕ → Order
made len order rank = record { len = len; order = order; rank = rank }

-- the from-node of row k, where the branch of row k stands at k
abbrev pub parent_in : List Branch → ℕ → ℕ
parent_in bs k = (get_or bs k no_branch).from

-- the branches that an order is made from: at most 200 rows, and every from-node is a node. Contracts ask it, and the type of a network does not have it: until 20 has been
-- tested a from-node may be none
pub record Linked (bs : List Branch) (rows : ℕ) : Type 0 where
  pub few : rows ≤ 200
  pub from : (k : ℕ) → k < rows + 1 → parent_in bs k < rows + 1

-- `order` lists m nodes, and `rank` is a node's place in it, counted from 1, or 0 for a node that it does not list: the source is first, each of the two
-- says what the other says, and a node that is listed comes after its parent
pub record Ordered (nodes : ℕ) (par : ℕ → ℕ) (order rank : List ℕ) (m : ℕ) : Type 0 where
  pub size : nodes ≤ length rank
  pub source : get_or rank 0 0 ≡ 1
  pub top : (k : ℕ) → k < m → (get_or order k 0 < nodes) × (get_or rank (get_or order k 0) 0 ≡ suc k)
  pub back : (i k : ℕ) → get_or rank i 0 ≡ suc k → (k < m) × (get_or order k 0 ≡ i)
  pub parent : (i : ℕ) → 0 < i → 0 < get_or rank i 0 → (0 < get_or rank (par i) 0) × (get_or rank (par i) 0 < get_or rank i 0)

-- no node without a rank has a parent with one
abbrev pub Closed : ℕ → (ℕ → ℕ) → List ℕ → Type 0
Closed nodes par rank = (i : ℕ) → i < nodes → 0 < i → get_or rank i 0 ≡ 0 → get_or rank (par i) 0 ≡ 0

-- how many nodes of a list of ranks have none
unfoldable pub unplaced : List ℕ → ℕ
unplaced [] = 0
unplaced (zero ∷ l) = suc (unplaced l)
unplaced (suc n ∷ l) = unplaced l

-- an order as far as it has come: its nodes and those without a rank make up the nodes. Contracts ask it, and the type of an order does not have it: it is said of the
-- network's branches too
pub record Placed (bs : List Branch) (rows : ℕ) (o : Order) : Type 0 where
  pub linked : Linked bs rows
  pub ordered : Ordered (rows + 1) (parent_in bs) o.order o.rank o.len
  pub counted : o.len + unplaced (take (rows + 1) o.rank) ≡ rows + 1
  pub order-size : length o.order ≡ 201
  pub rank-size : length o.rank ≡ 201

-- what a step at node k makes of an order: where it does not place k, k is not to be placed, and the ranks are as they were
pub record Stepped (bs : List Branch) (rows k : ℕ) (o r : Order) : Type 0 where
  pub placed : Placed bs rows r
  pub more : o.len ≤ r.len
  pub kept : r.len ≡ o.len → r.rank ≡ o.rank
  pub closed : r.len ≡ o.len → get_or o.rank k 0 ≡ 0 → get_or o.rank (parent_in bs k) 0 ≡ 0

-- what a pass over the rows makes of an order: where it places none, there is none to place
pub record Passed (bs : List Branch) (rows : ℕ) (o r : Order) : Type 0 where
  pub placed : Placed bs rows r
  pub more : o.len ≤ r.len
  pub closed : r.len ≡ o.len → Closed (rows + 1) (parent_in bs) r.rank

-- the order of a feeder's nodes: all that the source reaches
pub record InOrder (bs : List Branch) (rows : ℕ) (o : Order) : Type 0 where
  pub placed : Placed bs rows o
  pub closed : Closed (rows + 1) (parent_in bs) o.rank
  pub short : o.len ≤ rows + 1

-- an order that has every node
pub record Whole (rows : ℕ) (o : Order) : Type 0 where
  pub ranked : (i : ℕ) → i < rows + 1 → 0 < get_or o.rank i 0
  pub full : o.len ≡ rows + 1

-- refusal 22: as many steps up from node k as there are rows do not arrive at the source, and the first line where it is so
abbrev pub lost : List Branch → ℕ → ℕ → Bool
lost bs rows k = not (eqb (above (parent_in bs) rows k) 0)

abbrev pub first_lost : List Branch → ℕ → Option ℕ
first_lost bs rows = first_row (λ k x. lost bs rows k) 4 1 (count 1 rows)
