-- Sums of whole numbers over rows, and the exchange of two sums: what is taken at every node, row by row. Assumes nothing.
use Rattle.std.specs.Prelude.{Bool, cond, false, true, List, [], ◌∷◌, ◌≢◌, ◌≡◌, refl, ◌*◌, ◌+◌, ◌<◌, ◌≤◌, suc, zero, ℕ, eqb, ◌*ℤ◌, ◌+ℤ◌, ◌-ℤ◌, pos, ℤ}
use Rattle.std.proofs.Common.{◌∙◌, ap, ap₂, sym, arith, eqb-true, ne_eqb}
use Rattle.std.proofs.Math.IntN.{*ℤ-zero, +ℤ_idl, +ℤ_idr}
use Rattle.std.proofs.lemmas.Bool.{eqb-false}
use Rattle.integers.specs.ListLaws.{all_map}
use Rattle.integers.specs.Lists.{count, nsum, tab, All}
use Rattle.integers.proofs.Near.{Near, near_add, near-refl}
use Rattle.integers.specs.Ring.{mul-addℤ, ring}

unfoldable pub sum : {X : Type 0} → (X → ℤ) → List X → ℤ
sum f [] = pos 0
sum f (x ∷ l) = f x +ℤ sum f l

-- errors add up: where something is known of each row, and of all x
pub near-sum : {X : Type 0} (f g : X → ℤ) (e : X → ℕ) (l : List X) → All (λ x. Near (f x) (g x) (e x)) l → Near (sum f l) (sum g l) (nsum e l)
unfolding sum nsum
near-sum f g e [] h = near-refl (pos 0)
near-sum f g e (x ∷ l) h = near_add h.0 (near-sum f g e l h.1)

pub near-sums : {X : Type 0} {f g : X → ℤ} {e : X → ℕ} (l : List X) → ((x : X) → Near (f x) (g x) (e x)) → Near (sum f l) (sum g l) (nsum e l)
unfolding sum nsum
near-sums [] h = near-refl (pos 0)
near-sums (x ∷ l) h = near_add (h x) (near-sums l h)

pub sum-eq : {X : Type 0} (f g : X → ℤ) (l : List X) → All (λ x. f x ≡ g x) l → sum f l ≡ sum g l
unfolding sum
sum-eq f g [] h = refl
sum-eq f g (x ∷ l) h = ap₂ ◌+ℤ◌ h.0 (sum-eq f g l h.1)

pub sum-cong : {X : Type 0} {f g : X → ℤ} (l : List X) → ((x : X) → f x ≡ g x) → sum f l ≡ sum g l
unfolding sum
sum-cong [] h = refl
sum-cong (x ∷ l) h = ap₂ ◌+ℤ◌ (h x) (sum-cong l h)

pub sum-add : {X : Type 0} (f g : X → ℤ) (l : List X) → sum (λ x. f x +ℤ g x) l ≡ sum f l +ℤ sum g l
unfolding sum
sum-add f g [] = refl
sum-add f g (x ∷ l) = ap (λ z. f x +ℤ g x +ℤ z) (sum-add f g l) ∙ regroup (f x) (g x) (sum f l) (sum g l)
  where
    regroup : (a b c d : ℤ) → a +ℤ b +ℤ (c +ℤ d) ≡ a +ℤ c +ℤ (b +ℤ d)
    regroup a b c d = simp ring

pub sum-sub : {X : Type 0} (f g : X → ℤ) (l : List X) → sum (λ x. f x -ℤ g x) l ≡ sum f l -ℤ sum g l
unfolding sum
sum-sub f g [] = refl
sum-sub f g (x ∷ l) = ap (λ z. f x -ℤ g x +ℤ z) (sum-sub f g l) ∙ regroup (f x) (g x) (sum f l) (sum g l)
  where
    regroup : (a b c d : ℤ) → a -ℤ b +ℤ (c -ℤ d) ≡ a +ℤ c -ℤ (b +ℤ d)
    regroup a b c d = simp ring

pub sum-zero : {X : Type 0} (l : List X) → sum (λ (x : X). pos 0) l ≡ pos 0
unfolding sum
sum-zero [] = refl
sum-zero (x ∷ l) = +ℤ_idl (sum (λ x. pos 0) l) ∙ sum-zero l

pub sum-mul : {X : Type 0} (k : ℤ) (f : X → ℤ) (l : List X) → sum (λ x. k *ℤ f x) l ≡ k *ℤ sum f l
unfolding sum
sum-mul k f [] = sym (*ℤ-zero k)
sum-mul k f (x ∷ l) = ap (λ z. k *ℤ f x +ℤ z) (sum-mul k f l) ∙ sym (mul-addℤ k (f x) (sum f l))

pub sum-swap : {X Y : Type 0} (f : X → Y → ℤ) (l : List X) (m : List Y) → sum (λ x. sum (λ y. f x y) m) l ≡ sum (λ y. sum (λ x. f x y) l) m
unfolding sum
sum-swap f [] m = sym (sum-zero m)
sum-swap f (x ∷ l) m = ap (λ z. sum (λ y. f x y) m +ℤ z) (sum-swap f l m) ∙ sym (sum-add (λ y. f x y) (λ y. sum (λ x. f x y) l) m)

-- over the nodes 0 to n: the source, and the rows
pub first-node : (f : ℕ → ℤ) (n : ℕ) → f 0 +ℤ sum f (count 1 n) ≡ sum f (count 0 (suc n))
unfolding sum count tab
first-node f n = refl

-- ---- sums of naturals
pub nsum-mul : {X : Type 0} (k : ℕ) (f : X → ℕ) (l : List X) → nsum (λ x. k * f x) l ≡ k * nsum f l
unfolding nsum
nsum-mul k f [] = omega arith
nsum-mul k f (x ∷ l) = omega (arith, nsum-mul k f l)

pub nsum-le : {X : Type 0} {e f : X → ℕ} (l : List X) → ((x : X) → e x ≤ f x) → nsum e l ≤ nsum f l
unfolding nsum
nsum-le [] h = omega arith
nsum-le (x ∷ l) h = omega (arith, h x, nsum-le l h)

-- ---- over a, a + 1, .., n of them, what stands at k counts once
pick-none : (f : ℕ → ℤ) (k a n : ℕ) → k < a → sum (λ m. cond (eqb k m) (f m) (pos 0)) (tab (λ i. i) a n) ≡ pos 0
unfolding sum tab
pick-none f k a zero q = refl
pick-none f k a (suc n) q = rw (ne_eqb k a (λ e. omega arith)) (+ℤ_idl _ ∙ pick-none f k (a + 1) n (omega arith))

pick : (f : ℕ → ℤ) (k a n : ℕ) → a ≤ k → k < a + n → sum (λ m. cond (eqb k m) (f m) (pos 0)) (tab (λ i. i) a n) ≡ f k
unfolding sum tab
pick f k a zero h q = absurd (omega arith)
pick f k a (suc n) h q = go (eqb k a) refl (λ (w : (a + 1) ≤ k). pick f k (a + 1) n w (omega arith))
  where
    rest : ℤ
    rest = sum (λ m. cond (eqb k m) (f m) (pos 0)) (tab (λ i. i) (a + 1) n)

    go : (c : Bool) → eqb k a ≡ c → ((a + 1) ≤ k → rest ≡ f k) → cond c (f a) (pos 0) +ℤ rest ≡ f k
    go true e r = let z = eqb-true k a e in ap (λ y. f a +ℤ y) (pick-none f k (a + 1) n (omega arith)) ∙ +ℤ_idr (f a) ∙ ap f (sym z)
    go false e r = let z : k ≢ a = eqb-false k a e in +ℤ_idl _ ∙ r (omega arith)

-- what is taken at each node, summed over the nodes, is what is taken by each row
pub exchange : {R : Type 0} (key : R → ℕ) (f : ℕ → R → ℤ) (n : ℕ) (rows : List R) → All (λ r. key r < n) rows
    → sum (λ m. sum (λ r. cond (eqb (key r) m) (f m r) (pos 0)) rows) (count 0 n) ≡ sum (λ r. f (key r) r) rows
unfolding count
exchange key f n rows h =
    sum-swap (λ m r. cond (eqb (key r) m) (f m r) (pos 0)) (tab (λ i. i) 0 n) rows
    ∙ sum-eq (λ r. sum (λ m. cond (eqb (key r) m) (f m r) (pos 0)) (tab (λ i. i) 0 n)) (λ r. f (key r) r) rows
    (all_map rows (λ r q. pick (λ m. f m r) (key r) 0 n (omega arith) (omega arith)) h)
