-- What 11 and 20 to 23 give of a feeder that is read, as the code needs it. Assumes nothing.
use Rattle.std.specs.Prelude.{Bool, cond, false, true, List, [], ◌∷◌, ◌≡◌, ◌+◌, ◌<◌, ◌≤◌, suc, zero, ℕ, T, ltb, nat_abs, neg_ℤ, pos, ℤ, get_or, length, take, Ok}
use Rattle.std.proofs.Common.{◌∙◌, sym, arith, ltb→lt, leb-true}
use Rattle.std.proofs.Math.Path.{subst}
use Rattle.std.proofs.lemmas.List.{length-map}
use Rattle.std.specs.Int.Signed.{le_z}
use Rattle.equations.specs.Limits.{Counted, DeviceOk, LoadOk, WindingsOk, between-counted, counted-more}
use Rattle.equations.specs.Sizes.{Within3}
use Rattle.feeder.specs.Feeder.{Feeder, above, between, branch_at, branch_in, column_of, delta, device_of, feeder_of, in_limit, load_in, load_of, nodes_of, out_of_limit, parent, reading, row_count, source_in, tap_at, tapped, taps_on, three_at, vn_most}
use Rattle.feeder.proofs.FeederLaws.{Sound, branch-is, node-reached, parent-known, row-count, row_of, sound}
use Rattle.feeder.proofs.RowFacts.{Formed, branch-in, column-in, few-branches, few-loads, load-facts, load-in, load-node}
use Rattle.feeder.specs.RowLaws.{held, or-none}
use Rattle.feeder.proofs.TapLaws.{Retapped, TapsIn, device-is, parent-same}
use Rattle.feeder.specs.declared.BranchRow.{BranchRow}
use Rattle.feeder.specs.declared.Connection.{Connection}
use Rattle.feeder.specs.declared.Connection.TheVariants.{Delta, Wye}
use Rattle.feeder.specs.declared.Device.{Device}
use Rattle.feeder.specs.declared.Device.TheVariants.{Line, Regulator, Transformer}
use Rattle.feeder.specs.declared.Kind.{Kind}
use Rattle.feeder.specs.declared.Kind.TheVariants.{D, L, R, Y}
use Rattle.feeder.specs.declared.Load.{Load}
use Rattle.feeder.specs.declared.LoadRow.{LoadRow}
use Rattle.feeder.specs.declared.Phase.{Phase}
use Rattle.feeder.specs.declared.Phase.TheVariants.{A, B, C}
use Rattle.feeder.specs.Phased.{Taps}
use Rattle.integers.specs.Bools.{both}
use Rattle.integers.specs.ListLaws.{all-image, all_map, all-map2, at_all}
use Rattle.integers.specs.Lists.{All, all}
use Rattle.integers.specs.PairLaws.{Within}
use Rattle.integers.specs.Pairs.{inside}
use Rattle.integers.specs.Whole.{abs-parts, le_z-true, neg-neg, one-part, pos-neg}
use Rattle.text.specs.Lines.{nth}

-- the limits of its rows and its numbers, and its radial form
pub record Fit (f : Feeder) : Type 0 where
  pub few-rows : row_count f ≤ 200
  pub few-loads : length f.loads ≤ 300
  pub source : Within3 2000000 f.source
  pub tol : f.tol ≤ 1000
  pub some-sweeps : 1 ≤ f.limit
  pub few-sweeps : f.limit ≤ 100
  pub devices : (k : ℕ) → k < row_count f → DeviceOk (branch_at f (suc k)).device
  pub loads : All (λ l. LoadOk l × (l.node < suc (row_count f))) f.loads
  pub parents : (k : ℕ) → k < suc (row_count f) → parent f k < suc (row_count f)
  pub reached : (k : ℕ) → k < suc (row_count f) → above (parent f) (row_count f) k ≡ 0

-- ---- numbers
in_size : (n : ℕ) (z : ℤ) → between (neg_ℤ (pos n)) (pos n) z ≡ true → nat_abs z ≤ n
in_size n z e =
    let h = both (le_z (neg_ℤ (pos n)) z) _ e in
    omega (arith, le_z-true (neg_ℤ (pos n)) z h.0, le_z-true z (pos n) h.1, pos-neg (pos n), neg-neg (pos n), abs-parts z, one-part z)

counted-nat : (low high : ℕ) (z : ℤ) → between (pos low) (pos high) z ≡ true → (low ≤ nat_abs z) × (nat_abs z ≤ high)
counted-nat low high z e =
    let h = both (le_z (pos low) z) _ e in
    (omega (arith, le_z-true (pos low) z h.0, abs-parts z, one-part z), omega (arith, le_z-true (pos low) z h.0, le_z-true z (pos high) h.1, abs-parts z, one-part z))

-- ---- devices
impedance-in : (r x : ℤ) → between (neg_ℤ (pos 100000000)) (pos 100000000) r ≡ true → between (neg_ℤ (pos 100000000)) (pos 100000000) x ≡ true → Within 100000000 (record { re = r; im = x })
impedance-in r x p q = record { re = in_size 100000000 r p; im = in_size 100000000 x q }

module _ (k : Kind) (p : List ℤ) (e : branch_in k p ≡ true) where
  column : (j : ℕ) → T (ltb j 12) → in_limit (column_of k p (1 + j)) (nth p (1 + j)) ≡ true
  column j t = column-in k p e j (ltb→lt j 12 t)

abbrev Ohms : ℤ → Type 0
Ohms z = between (neg_ℤ (pos 100000000)) (pos 100000000) z ≡ true

windings : (c : Connection) (p : List ℤ) → between (pos 1) (pos 1000000) (nth p 1) ≡ true → between (pos 1) (pos 1000000) (nth p 2) ≡ true
    → Ohms (nth p 3) → Ohms (nth p 4) → Ohms (nth p 5) → Ohms (nth p 6) → Ohms (nth p 7) → Ohms (nth p 8)
    → WindingsOk (record { connection = c; n = nth p 1; m = nth p 2; z = three_at p 3 })
windings c p n m ar ax br bx cr cx = record {
  n = between-counted 1000000 (nth p 1) n;
  m = between-counted 1000000 (nth p 2) m;
  z = record { a = impedance-in (nth p 3) (nth p 4) ar ax; b = impedance-in (nth p 5) (nth p 6) br bx; c = impedance-in (nth p 7) (nth p 8) cr cx };
}

device-ok : (k : Kind) (p : List ℤ) → branch_in k p ≡ true → DeviceOk (device_of k p)
unfolding column_of device_of
device-ok L p e = record {
  aa = impedance-in (nth p 1) (nth p 2) (column L p e 0 tt) (column L p e 1 tt);
  ab = impedance-in (nth p 3) (nth p 4) (column L p e 2 tt) (column L p e 3 tt);
  ac = impedance-in (nth p 5) (nth p 6) (column L p e 4 tt) (column L p e 5 tt);
  bb = impedance-in (nth p 7) (nth p 8) (column L p e 6 tt) (column L p e 7 tt);
  bc = impedance-in (nth p 9) (nth p 10) (column L p e 8 tt) (column L p e 9 tt);
  cc = impedance-in (nth p 11) (nth p 12) (column L p e 10 tt) (column L p e 11 tt);
}
device-ok R p e = record {
  taps = record { a = in_size 16 (nth p 1) (column R p e 0 tt); b = in_size 16 (nth p 2) (column R p e 1 tt); c = in_size 16 (nth p 3) (column R p e 2 tt) };
  level = (counted-nat 0 20000 (nth p 4) (column R p e 3 tt)).1;
  relay = λ n. record {
    band = (counted-nat 0 20000 (nth p 5) (rw n at (column R p e 4 tt))).1;
    potential = between-counted 10000 (nth p 6) (rw n at (column R p e 5 tt));
    current = between-counted 10000 (nth p 7) (rw n at (column R p e 6 tt));
    z = impedance-in (nth p 8) (nth p 9) (rw n at (column R p e 7 tt)) (rw n at (column R p e 8 tt));
  };
}
device-ok Y p e = windings Wye p (column Y p e 0 tt) (column Y p e 1 tt) (column Y p e 2 tt) (column Y p e 3 tt) (column Y p e 4 tt) (column Y p e 5 tt) (column Y p e 6 tt) (column Y p e 7 tt)
device-ok D p e = windings Delta p (column D p e 0 tt) (column D p e 1 tt) (column D p e 2 tt) (column D p e 3 tt) (column D p e 4 tt) (column D p e 5 tt) (column D p e 6 tt) (column D p e 7 tt)

-- ---- loads
counted : (c : Bool) (z : ℤ) → between (pos 1) (pos (cond c 4000000 2000000)) z ≡ true → Counted 4000000 z
counted true z e = between-counted 4000000 z e
counted false z e = counted-more (between-counted 2000000 z e) tt

load_is : (nodes : List ℕ) (l : LoadRow) → load_in l ≡ true → LoadOk (load_of nodes l)
unfolding load_in inside
load_is nodes l e =
    let h = both (between (pos 1) (vn_most l.phase) l.vn) _ e in
    let g = both (inside 3000000 l.s.re) _ h.1 in
    record { vn = counted (delta l.phase) l.vn h.0; s = record { re = leb-true _ _ g.0; im = leb-true _ _ g.1 } }

-- ---- the source's row
source-in : (p : List ℤ) → all (inside 2000000) (take 6 p) ≡ true → Within3 2000000 (three_at p 1)
unfolding inside all
source-in p e = record {
  a = record { re = one 0 tt; im = one 1 tt };
  b = record { re = one 2 tt; im = one 3 tt };
  c = record { re = one 4 tt; im = one 5 tt };
}
  where
    taken : (n i : ℕ) (l : List ℤ) → all (inside 2000000) (take n l) ≡ true → i < n → nat_abs (get_or l i (pos 0)) ≤ 2000000
    taken n i [] e q = omega arith
    taken zero i (z ∷ l) e q = absurd (omega arith)
    taken (suc n) zero (z ∷ l) e q = leb-true _ _ (both (inside 2000000 z) (all (inside 2000000) (take n l)) e).0
    taken (suc n) (suc i) (z ∷ l) e q = taken n i l (both (inside 2000000 z) (all (inside 2000000) (take n l)) e).1 (omega arith)

    one : (i : ℕ) → T (ltb i 6) → nat_abs (get_or p i (pos 0)) ≤ 2000000
    one i t = taken 6 i p e (ltb→lt i 6 t)

module _ (s : List ℕ) (f : Feeder) (w : Sound s f) where
  given-in : source_in w.rows.given ≡ true
  unfolding out_of_limit
  given-in = held (source_in w.rows.given) 2 (or-none _ _ w.t11).0

  devices-ok : (k : ℕ) → k < row_count f → DeviceOk (branch_at f (suc k)).device
  devices-ok = subst (λ (g : Feeder). (k : ℕ) → k < row_count g → DeviceOk (branch_at g (suc k)).device) w.made one
    where
      one : (k : ℕ) → k < row_count (feeder_of w.rows) → DeviceOk (branch_at (feeder_of w.rows) (suc k)).device
      one k q =
          let n : k < length w.rows.branches = rw (row-count w.rows) at q in
          let d : BranchRow = row_of w.rows.branches (omega arith) in
          let b = get_or w.rows.branches k d in
          rw (branch-is w.rows k n d) (device-ok b.kind b.p (branch-in s f w k n d))

  loads-ok : All LoadOk f.loads
  unfolding feeder_of
  loads-ok =
      let r = w.rows in
      subst (λ (g : Feeder). All LoadOk g.loads) w.made
      (all-image LoadOk (load_of (nodes_of r)) r.loads (at_all (λ l. LoadOk (load_of (nodes_of r) l)) r.loads (λ i d q. load_is (nodes_of r) (get_or r.loads i d) (load-in s f w i q d))))

  load-nodes : All (λ l. l.node < suc (row_count f)) f.loads
  load-nodes = all_map f.loads (λ l o. load-node f l o) (load-facts s f w)

  sized : (Within3 2000000 f.source) × ((f.tol ≤ 1000) × ((1 ≤ f.limit) × ((f.limit ≤ 100) × ((row_count f ≤ 200) × (length f.loads ≤ 300)))))
  unfolding source_in feeder_of
  sized = subst (λ (g : Feeder). (Within3 2000000 g.source) × ((g.tol ≤ 1000) × ((1 ≤ g.limit) × ((g.limit ≤ 100) × ((row_count g ≤ 200) × (length g.loads ≤ 300)))))) w.made
      (let p = w.rows.given in
      let h = both (all (inside 2000000) (take 6 p)) _ given-in in
      let g = both (between (pos 0) (pos 1000) (nth p 7)) _ h.1 in
      let t = counted-nat 0 1000 (nth p 7) g.0 in
      let k = counted-nat 1 100 (nth p 8) g.1 in
      (source-in p h.0, (t.1, (k.0, (k.1, (rw (row-count w.rows) (few-branches w.rows w.t11), rw (length-map w.rows.loads (load_of (nodes_of w.rows))) (few-loads w.rows w.t11)))))))

pub fit : (s : List ℕ) (f : Feeder) → reading s ≡ Ok f → Fit f
fit s f e =
    let w = sound s f e in
    let z = sized s f w in
    record {
      few-rows = z.1.1.1.1.0;
      few-loads = z.1.1.1.1.1;
      source = z.0;
      tol = z.1.0;
      some-sweeps = z.1.1.0;
      few-sweeps = z.1.1.1.0;
      devices = devices-ok s f w;
      loads = all-map2 f.loads (λ l a b. (a, b)) (loads-ok s f w) (load-nodes s f w);
      parents = parent-known s f w;
      reached = node-reached s f w;
    }

-- ---- with other taps within ±16 a feeder keeps its limits
device-tapped : (t : Taps) (d : Device) → ((p : Phase) → nat_abs (tap_at t p) ≤ 16) → DeviceOk d → DeviceOk (tapped t d)
device-tapped t (Line z) k h = h
device-tapped t (Regulator x) k h = record { taps = record { a = k A; b = k B; c = k C }; level = h.level; relay = λ n. let r = h.relay n in record { band = r.band; potential = r.potential; current = r.current; z = r.z } }
device-tapped t (Transformer x) k h = h

pub retapped-limits : (f g : Feeder) → Retapped f g → ((k : ℕ) → k < row_count f → (p : Phase) → nat_abs (tap_at (taps_on (branch_at g (suc k)).device) p) ≤ 16) → Fit f → Fit g
retapped-limits f g h t m = record {
  few-rows = rw h.rows m.few-rows;
  few-loads = subst (λ (l : List Load). length l ≤ 300) (sym h.loads) m.few-loads;
  source = subst (Within3 2000000) (sym h.source) m.source;
  tol = subst (λ (n : ℕ). n ≤ 1000) (sym h.tol) m.tol;
  some-sweeps = subst (λ (n : ℕ). 1 ≤ n) (sym h.limit) m.some-sweeps;
  few-sweeps = subst (λ (n : ℕ). n ≤ 100) (sym h.limit) m.few-sweeps;
  devices = λ k q. let n : k < row_count f = rw h.rows at q in rw (device-is h (suc k)) (device-tapped (taps_on (branch_at g (suc k)).device) (branch_at f (suc k)).device (t k n) (m.devices k n));
  loads = rw h.rows (subst (λ (l : List Load). All (λ y. LoadOk y × (y.node < suc (row_count f))) l) (sym h.loads) m.loads);
  parents = λ k q. let n : k < suc (row_count f) = rw h.rows at q in rw (parent-same h k, h.rows) (m.parents k n);
  reached = λ k q. let n : k < suc (row_count f) = rw h.rows at q in ((λ i. above (λ j. parent-same h j i) (h.rows i) k) ∙ m.reached k n);
}

pub retapped-fit : (f g : Feeder) → Retapped f g → ((k : ℕ) → k < row_count f → TapsIn (branch_at f (suc k)).phases (taps_on (branch_at g (suc k)).device)) → Formed g → Fit f → Fit g
retapped-fit f g h t w m = retapped-limits f g h (λ k q. (t k q).small) m
