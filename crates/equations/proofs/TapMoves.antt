-- A move keeps taps within ±16, 0 on absent phases and as they were at level 0; at rest it changes nothing. Assumes nothing.
use Rattle.std.specs.Prelude.{Bool, cond, false, true, List, ◌≡◌, refl, ◌+◌, ◌<◌, ◌≤◌, suc, ℕ, ◌+ℤ◌, ◌-ℤ◌, nat_abs, negsuc, neg_ℤ, pos, ℤ, get_or}
use Rattle.std.proofs.Common.{◌∙◌, ap, arith, leb-true}
use Rattle.equations.specs.Equations.{at, zero3}
use Rattle.equations.specs.Taps.{at_rest, moved, moved_on, moved_tap, moved_taps, relay_voltage, rests_at, same_taps, stepped, wants_down, wants_up}
use Rattle.feeder.specs.Feeder.{Feeder, branch_at, has, level_of, no_taps, row_count, tap_at, tapped, taps_on, with_taps}
use Rattle.feeder.specs.RowLaws.{each-true}
use Rattle.feeder.proofs.TapLaws.{TapsIn, branch-tapped, inside-zero, retapped-eq, retapped-self}
use Rattle.feeder.specs.declared.Branch.{Branch}
use Rattle.feeder.specs.declared.Device.{Device}
use Rattle.feeder.specs.declared.Device.TheVariants.{Line, Regulator, Transformer}
use Rattle.feeder.specs.declared.Phase.{Phase}
use Rattle.feeder.specs.declared.Phase.TheVariants.{A, B, C}
use Rattle.feeder.specs.Phased.{Phases, Taps, Three}
use Rattle.feeder.specs.declared.TapChanger.{TapChanger}
use Rattle.integers.specs.ListLaws.{count-true, get_or-tab}
use Rattle.integers.specs.Pairs.{inside}
use Rattle.integers.specs.Whole.{add_parts, neg-neg, neg_part, parts-eq, pos-neg, pos_part}
use Rattle.integers.specs.declared.Pair.{Pair}

pub stepped-in : (step tap : ℤ) → nat_abs tap ≤ 16 → nat_abs (stepped step tap) ≤ 16
unfolding stepped inside
stepped-in step tap h = go (inside 16 (tap +ℤ step)) (leb-true (nat_abs (tap +ℤ step)) 16)
  where
    go : (c : Bool) → (c ≡ true → nat_abs (tap +ℤ step) ≤ 16) → nat_abs (cond c (tap +ℤ step) tap) ≤ 16
    go true k = k refl
    go false k = h

-- what holds of both choices
either : (c : Bool) (x y : ℤ) → nat_abs x ≤ 16 → nat_abs y ≤ 16 → nat_abs (cond c x y) ≤ 16
either true x y h k = h
either false x y h k = k

pub moved-in : (x : TapChanger) (r : Pair) (tap : ℤ) → nat_abs tap ≤ 16 → nat_abs (moved_tap x r tap) ≤ 16
unfolding moved_tap
moved-in x r tap h = either (wants_up x r) _ _ (stepped-in (pos 1) tap h) (either (wants_down x r) _ _ (stepped-in (negsuc 0) tap h) h)

pub moves-in : (x : TapChanger) (f : Phases) (u i : Three) → TapsIn f x.taps → TapsIn f (moved_taps x f u i)
unfolding moved_taps
moves-in x f u i h = go (inside 0 x.level)
  where
    move : Phase → ℤ
    move p = cond (has f p) (moved_tap x (relay_voltage x (at u p) (at i p)) (tap_at x.taps p)) (tap_at x.taps p)

    small : (p : Phase) → nat_abs (move p) ≤ 16
    small p = either (has f p) _ _ (moved-in x _ (tap_at x.taps p) (h.small p)) (h.small p)

    off : (p : Phase) → has f p ≡ false → move p ≡ pos 0
    off p e = ap (λ (c : Bool). cond c (moved_tap x (relay_voltage x (at u p) (at i p)) (tap_at x.taps p)) (tap_at x.taps p)) e ∙ h.off p e

    small_at : (p : Phase) → nat_abs (tap_at (record { a = move A; b = move B; c = move C }) p) ≤ 16
    small_at A = small A
    small_at B = small B
    small_at C = small C

    off_at : (p : Phase) → has f p ≡ false → tap_at (record { a = move A; b = move B; c = move C }) p ≡ pos 0
    off_at A e = off A e
    off_at B e = off B e
    off_at C e = off C e

    go : (c : Bool) → TapsIn f (cond c x.taps (record { a = move A; b = move B; c = move C }))
    go true = h
    go false = record { small = small_at; off = off_at }

pub branch-moves-in : (b : Branch) (u i : Three) → TapsIn b.phases (taps_on b.device) → TapsIn b.phases (taps_on (tapped (moved_on b u i) b.device))
unfolding moved_on
branch-moves-in b u i h = go b.device h
  where
    go : (d : Device) → TapsIn b.phases (taps_on d) → TapsIn b.phases (taps_on (tapped (elim d [ Line z ↦ no_taps | Regulator x ↦ moved_taps x b.phases u i | Transformer x ↦ no_taps ]) d))
    go (Line z) h = h
    go (Regulator x) h = moves-in x b.phases u i h
    go (Transformer x) h = h

pub moved_at : (f : Feeder) (v i : List Three) (k : ℕ) → k < suc (row_count f) → get_or (moved f v i) k no_taps ≡ moved_on (branch_at f k) (get_or v k zero3) (get_or i k zero3)
unfolding moved
moved_at f v i k q = let z : 0 + k ≡ k = omega arith in rw z at (get_or-tab (λ k. moved_on (branch_at f k) (get_or v k zero3) (get_or i k zero3)) 0 (suc (row_count f)) k no_taps q)

-- of the feeder after a move
pub feeder-moves-in : (f : Feeder) (v i : List Three) (k : ℕ) → k < suc (row_count f) → TapsIn (branch_at f k).phases (taps_on (branch_at f k).device) → TapsIn (branch_at f k).phases (taps_on (branch_at (with_taps (moved f v i) f) k).device)
feeder-moves-in f v i k q h = rw (branch-tapped (moved f v i) f k, moved_at f v i k q) (branch-moves-in (branch_at f k) (get_or v k zero3) (get_or i k zero3) h)

-- "Level 0 keeps the taps fixed"
branch-fixed : (b : Branch) (u i : Three) → inside 0 (level_of b.device) ≡ true → taps_on (tapped (moved_on b u i) b.device) ≡ taps_on b.device
unfolding moved_on moved_taps
branch-fixed b u i e = go b.device e
  where
    go : (d : Device) → inside 0 (level_of d) ≡ true → taps_on (tapped (elim d [ Line z ↦ no_taps | Regulator x ↦ moved_taps x b.phases u i | Transformer x ↦ no_taps ]) d) ≡ taps_on d
    go (Line z) e = refl
    go (Regulator x) e = rw e
    go (Transformer x) e = refl

pub feeder-fixed : (f : Feeder) (v i : List Three) (k : ℕ) → k < suc (row_count f) → inside 0 (level_of (branch_at f k).device) ≡ true → taps_on (branch_at (with_taps (moved f v i) f) k).device ≡ taps_on (branch_at f k).device
feeder-fixed f v i k q e = rw (branch-tapped (moved f v i) f k, moved_at f v i k q) (branch-fixed (branch_at f k) (get_or v k zero3) (get_or i k zero3) e)

-- a regulator rests by the voltage and the current of its own node
pub rests-by : (f : Feeder) (v i j : List Three) (k : ℕ) → k < suc (row_count f) → get_or i k zero3 ≡ get_or j k zero3 → rests_at f v i k ≡ rests_at f v j k
unfolding rests_at
rests-by f v i j k q e = rw (moved_at f v i k q, moved_at f v j k q, e)

-- ---- at rest a move changes nothing: the code may move the taps first, and then see whether any is new
pub tap-equal : (x y : ℤ) → inside 0 (x -ℤ y) ≡ true → x ≡ y
tap-equal x y e = let z = inside-zero (x -ℤ y) e in parts-eq (omega (arith, ap pos_part z, ap neg_part z, add_parts x (neg_ℤ y), pos-neg y, neg-neg y))

pub same-taps : (t u : Taps) → same_taps t u ≡ true → t ≡ u
same-taps t u e = let h = each-true (λ p. inside 0 (tap_at t p -ℤ tap_at u p)) e in λ i. record { a = tap-equal t.a u.a (h A) i; b = tap-equal t.b u.b (h B) i; c = tap-equal t.c u.c (h C) i }

pub rest-same : (f : Feeder) (v i : List Three) → at_rest f v i ≡ true → with_taps (moved f v i) f ≡ f
unfolding at_rest rests_at
rest-same f v i e = retapped-eq f f (retapped-self f) (moved f v i) (λ k q r. let z : 1 + k ≡ suc k = omega arith in
    same-taps (get_or (moved f v i) (suc k) no_taps) (taps_on (branch_at f (suc k)).device) (rw z at (count-true (rests_at f v i) 1 (row_count f) e k q)))
