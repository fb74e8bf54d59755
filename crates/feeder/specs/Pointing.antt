-- An answer that tries one test after the other: where each test finds the first line with a fault, the answer points at it (Faults). Assumes nothing.
use Rattle.std.specs.Prelude.{Bool, cond, false, true, ◌⊎◌, ◌≡◌, refl, ◌<◌, ◌≤◌, suc, ℕ, Option, Some, None, Ok, Err}
use Rattle.std.proofs.Common.{inl, inr, ⊎_elim, ◌∙◌, ap, sym, arith}
use Rattle.answers.specs.AnswerLaws.{same-refused}
use Rattle.answers.specs.Answers.{Outcome, ◌>>◌, refuse_at, refuse_if, value_of}
use Rattle.answers.specs.Only.{Only, after-only, at_only, good-only, if-only}
use Rattle.answers.specs.declared.Refusal.{Refusal}
use Rattle.answers.specs.declared.Refusal.TheVariants.{BufferShort, CurrentBeyond, CurrentDiffers, Layout, LoadBeyond, NameDiffers, NotReached, NotSettled, NotZero, OutOfLimit, PhaseAbsent, ReportLayout, SecondTo, SourceDiffers, TapDiffers, TapsMoving, TooLong, TotalDiffers, UnknownFrom, VoltageBeyond, VoltageOff, ZeroVoltage}
use Rattle.feeder.specs.Faults.{First, NoLine, PointsAt}
use Rattle.feeder.specs.Feeder.{or_else}
use Rattle.integers.specs.Bools.{clash}

-- the turn of each refusal: 9 to 24 come before all others, and behind them the check goes 50 to 52, 30 to 32, 53 to 56. The check has none of 33 to 35 and 40
abbrev pub turn : Refusal → ℕ
turn TooLong = 0
turn (Layout n) = 1
turn (OutOfLimit n) = 2
turn (UnknownFrom n) = 3
turn (SecondTo n) = 4
turn (NotReached n) = 5
turn (PhaseAbsent n) = 6
turn (NotZero n) = 7
turn ReportLayout = 8
turn (NameDiffers n) = 9
turn (SourceDiffers n) = 10
turn (ZeroVoltage n) = 11
turn (LoadBeyond n) = 12
turn (CurrentBeyond n) = 13
turn (CurrentDiffers n) = 14
turn (VoltageOff n) = 15
turn TotalDiffers = 16
turn (TapDiffers n) = 17
turn (VoltageBeyond n) = 18
turn (NotSettled n) = 18
turn (TapsMoving n) = 18
turn (BufferShort n) = 18

-- ---- a search finds the first line with a fault, or there is none
pub record Finds (x : Option ℕ) (Fault : ℕ → Type 0) : Type 0 where
  pub at : (n : ℕ) → x ≡ Some n → First Fault n
  pub nothing : x ≡ None → NoLine Fault

-- where no line has the fault, none is found
pub none-finds : {Fault : ℕ → Type 0} (x : Option ℕ) → Finds x Fault → NoLine Fault → x ≡ None
none-finds (Some n) h e = absurd (e n (h.at n refl).faulty)
none-finds None h e = refl

-- the same fault in other words
pub finds-same : {F G : ℕ → Type 0} {x : Option ℕ} → ((n : ℕ) → F n → G n) → ((n : ℕ) → G n → F n) → Finds x F → Finds x G
finds-same to back h = record {
  at = λ n e. let w = h.at n e in record { faulty = to n w.faulty; none_before = λ m q g. w.none_before m q (back m g) };
  nothing = λ e n g. h.nothing e n (back n g);
}

-- two searches, of lines up to `last` and behind it
pub finds-or : {F G : ℕ → Type 0} (last : ℕ) (a b : Option ℕ) → ((n : ℕ) → F n → n ≤ last) → ((n : ℕ) → G n → last < n) → Finds a F → Finds b G → Finds (or_else a b) (λ n. F n ⊎ G n)
unfolding or_else
finds-or last (Some k) b low high f g = record {
  at = λ n e. let w = f.at n e in record {
    faulty = inl w.faulty;
    none_before = λ m q. ⊎_elim (w.none_before m q) (λ h. let z = low n w.faulty in let y = high m h in omega arith);
  };
  nothing = λ e. let z : ◌≡◌ {A = ℕ} 0 1 = cc in absurd (omega arith);
}
finds-or last None b low high f g = record {
  at = λ n e. let w = g.at n e in record { faulty = inr w.faulty; none_before = λ m q. ⊎_elim (f.nothing refl m) (w.none_before m q) };
  nothing = λ e n. ⊎_elim (f.nothing refl n) (g.nothing e n);
}

-- one test, at one line
pub finds-one : {Fault : Type 0} (c : Bool) (line : ℕ) → (c ≡ false → Fault) → (c ≡ true → Fault → ⊥) → Finds (cond c None (Some line)) (λ n. (n ≡ line) × Fault)
finds-one true line has not = record { at = λ n e. let z : ◌≡◌ {A = ℕ} 0 1 = cc in absurd (omega arith); nothing = λ e n h. not refl h.1 }
finds-one false line has not = record {
  at = λ n e. let z : line ≡ n = cc in record { faulty = (sym z, has refl); none_before = λ m q h. let y = h.0 in omega arith };
  nothing = λ e. let z : ◌≡◌ {A = ℕ} 0 1 = cc in absurd (omega arith);
}

-- ---- refusals of a turn or a later one
abbrev pub Late : {X : Type 0} → ℕ → Outcome X → Type 0
Late a o = Only (λ y. a ≤ turn y) o

pub late-good : {X : Type 0} (a : ℕ) (x : X) → Late a (Ok x)
late-good a x = good-only x

later : {X : Type 0} {a : ℕ} {o : Outcome X} → Late (suc a) o → Late a o
later h = record { each = λ y e. let z = h.each y e in omega arith }

pub late-at : {X : Type 0} (a : ℕ) (c : ℕ → Refusal) (x : Option ℕ) (o : Outcome X) → ((n : ℕ) → turn (c n) ≡ a) → Late (suc a) o → Late a (refuse_at c x >> o)
late-at a c x o t h = after-only (refuse_at c x) o (at_only x c (λ m e. let z = t m in omega arith)) (later h)

pub late-if : {X : Type 0} (a : ℕ) (c : Bool) (x : Refusal) (o : Outcome X) → turn x ≡ a → Late (suc a) o → Late a (refuse_if c x >> o)
late-if a c x o t h = after-only (refuse_if c x) o (if-only c x (omega arith)) (later h)

-- ---- the part o of an answer from one test on. `into`: where nothing before it applies (`free`), its refusal is told. `back`: a refusal that is told and whose turn
-- is from a to `last` is that of o, and nothing before it applies
pub record Link {X : Type 0} (tells : Refusal → Type 0) (a last : ℕ) (free : Type 0) (o : Outcome X) : Type 0 where
  pub into : free → (y : Refusal) → o ≡ Err y → tells y
  pub back : (y : Refusal) → a ≤ turn y → turn y ≤ last → tells y → free × (o ≡ Err y)

-- nothing before applies, in other words
pub relink : {X : Type 0} {tells : Refusal → Type 0} {a last : ℕ} {free other : Type 0} {o : Outcome X} → (free → other) → (other → free) → Link tells a last free o → Link tells a last other o
relink to from l = record { into = λ h. l.into (from h); back = λ y p q t. let w = l.back y p q t in (to w.0, w.1) }

-- a test that finds a line: the answer points at it, and the rest comes behind it
module _ {X : Type 0} {tells : Refusal → Type 0} {free : Type 0} {Fault : ℕ → Type 0} (a last : ℕ) (c : ℕ → Refusal) (x : Option ℕ) (o : Outcome X)
    (turns : (n : ℕ) → turn (c n) ≡ a) (lines : (n : ℕ) → value_of (c n) ≡ n) (up : a ≤ last) (late : Late (suc a) o) (finds : free → Finds x Fault) (link : Link tells a last free (refuse_at c x >> o)) where
  comes : (n : ℕ) → tells (c n) → free × ((refuse_at c x >> o) ≡ Err (c n))
  comes n t = let z = turns n in link.back (c n) (omega arith) (omega arith) t

  points : PointsAt (λ n. tells (c n)) Fault free
  points = record {
    first = λ n t. let w = comes n t in first w.0 n x refl w.1;
    only-where-free = λ n t. (comes n t).0;
    told = λ h n f. told h n f x refl;
  }
    where
      first : free → (n : ℕ) (y : Option ℕ) → x ≡ y → (refuse_at c y >> o) ≡ Err (c n) → First Fault n
      first h n (Some m) e w =
          let z = same-refused (c m) (c n) w in
          let same : m ≡ n = sym (lines m) ∙ ap value_of z ∙ lines n in
          (finds h).at n (e ∙ ap (λ (i : ℕ). Some i) same)
      first h n None e w = let z = late.each (c n) w in let y = turns n in absurd (omega arith)

      told : free → (n : ℕ) → Fault n → (y : Option ℕ) → x ≡ y → (m : ℕ) × tells (c m)
      told h n f (Some m) e = (m, link.into h (c m) (ap (λ (y : Option ℕ). refuse_at c y >> o) e))
      told h n f None e = absurd ((finds h).nothing e n f)

  next : Link tells (suc a) last (free × NoLine Fault) o
  next = record { into = λ h y e. goes h.0 h.1 y e x refl; back = λ y p q t. let w = link.back y (omega arith) q t in stays w.0 y p x refl w.1 }
    where
      goes : free → NoLine Fault → (y : Refusal) → o ≡ Err y → (z : Option ℕ) → x ≡ z → tells y
      goes h none y e (Some m) w = absurd (none m ((finds h).at m w).faulty)
      goes h none y e None w = link.into h y (ap (λ (z : Option ℕ). refuse_at c z >> o) w ∙ e)

      stays : free → (y : Refusal) → suc a ≤ turn y → (z : Option ℕ) → x ≡ z → (refuse_at c z >> o) ≡ Err y → (free × NoLine Fault) × (o ≡ Err y)
      stays h y p (Some m) e w = let z = ap turn (same-refused (c m) y w) in let v = turns m in absurd (omega arith)
      stays h y p None e w = ((h, (finds h).nothing e), w)

  -- both
  pub step : PointsAt (λ n. tells (c n)) Fault free × Link tells (suc a) last (free × NoLine Fault) o
  step = (points, next)

-- a test that finds no line: the rest comes behind it
pub next-if : {X : Type 0} {tells : Refusal → Type 0} {free : Type 0} (a last : ℕ) (c : Bool) (x : Refusal) (o : Outcome X) → turn x ≡ a → Link tells a last free (refuse_if c x >> o) → Link tells (suc a) last (free × (c ≡ false)) o
next-if a last true x o t l = record { into = λ h. clash true refl h.1; back = λ y p q w. let v = l.back y (omega arith) q w in let z = ap turn (same-refused x y v.1) in absurd (omega arith) }
next-if a last false x o t l = record { into = λ h. l.into h.0; back = λ y p q w. let v = l.back y (omega arith) q w in ((v.0, refl), v.1) }
