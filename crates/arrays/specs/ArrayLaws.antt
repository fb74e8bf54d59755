-- An array as it is made has nothing behind what is used, and what an array keeps of a list as a function changes it. Assumes nothing.
use Rattle.std.specs.Prelude.{List, [], ◌∷◌, ◌≡◌, refl, map, suc, zero, ℕ, replicate}
use Rattle.std.proofs.Common.{ap}
use Rattle.std.proofs.lemmas.List.{length-replicate}
use Rattle.arrays.specs.Arrays.{Spare}
use Rattle.feeder.specs.Network.{kept, no_three}
use Rattle.feeder.specs.NetworkLaws.{get_or-blank}

pub map-kept : {X Y : Type 0} (f : X → Y) (d : X) (n : ℕ) (l : List X) → map f (kept d n l) ≡ kept (f d) n (map f l)
unfolding kept
map-kept f d zero l = refl
map-kept f d (suc n) [] = ap (λ (r : List _). f d ∷ r) (map-kept f d n [])
map-kept f d (suc n) (x ∷ l) = ap (λ (r : List _). f x ∷ r) (map-kept f d n l)

pub spare-blank : (rows : ℕ) → Spare rows (replicate 201 no_three)
spare-blank rows = record { long = length-replicate 201 no_three; behind = λ k q. get_or-blank no_three 201 k }
