-- An answer that goes by the reading of a feeder's file points at the first row with a fault (Faults). Assumes nothing.
use Rattle.std.specs.Prelude.{Bool, false, true, List, ◌≡◌, refl, ◌≤◌, ℕ, length, Option, Ok, Err}
use Rattle.std.proofs.Common.{◌∙◌, ap, subst, sym, arith, le-ltb, ltb-false}
use Rattle.answers.specs.AnswerLaws.{not_good, same_good, same-refused}
use Rattle.answers.specs.Answers.{Outcome, ◌>>=◌, ◌>>◌, refuse_if}
use Rattle.answers.specs.Only.{Only, after-only, if-only, then-only}
use Rattle.answers.specs.declared.Refusal.{Refusal}
use Rattle.answers.specs.declared.Refusal.TheVariants.{NotReached, NotZero, OutOfLimit, PhaseAbsent, SecondTo, TooLong, UnknownFrom}
use Rattle.feeder.specs.Faults.{Fault11, Fault20, Fault21, Fault22, Fault23, Fault24, FaultAt, FileRow, Free11, Free20, Free21, Free22, Free23, PointsAt, PointsIntoFeeder, RowAt}
use Rattle.feeder.specs.Feeder.{feeder_of, not_reached, not_zero, out_of_limit, phase_absent, reading, second_to, too_long, unknown_from}
use Rattle.feeder.proofs.FeederFinds.{finds-11, finds-20, finds-21, finds-22, finds-23, finds-24}
use Rattle.feeder.specs.File.{WellLaid}
use Rattle.feeder.specs.Layout.{Rows, layout}
use Rattle.feeder.proofs.LayoutLine.{laid-good, layout-good, layout-refused}
use Rattle.feeder.proofs.LineOfRow.{line-of-row}
use Rattle.feeder.proofs.NodeNames.{EachOnce, each-once}
use Rattle.feeder.specs.Pointing.{Finds, Late, Link, finds-same, late-at, late-good, none-finds, step, turn}
use Rattle.feeder.specs.Stages.{from11, from20, from21, from22, from23, from24, reading-is, tests-only}

-- ---- the reading has the turns from 0 to 7, and behind the layout those from 2 on
abbrev Early : Refusal → Type 0
Early y = turn y ≤ 7

pub reading-turn : (s : List ℕ) → Only Early (reading s)
reading-turn s = rw (reading-is s)
    (after-only (refuse_if (too_long s) TooLong) _ (if-only (too_long s) TooLong (omega arith))
    (then-only (layout s) from11 (record { each = λ y e. let w = layout-refused s y e in let z = ap turn w.1 in omega arith })
    (λ r e. tests-only r (λ n f. omega arith) (λ n f. omega arith) (λ n f. omega arith) (λ n f. omega arith) (λ n f. omega arith) (λ n f. omega arith))))

-- 9 comes first
pub reading-short : (s : List ℕ) (y : Refusal) → reading s ≡ Err y → 1 ≤ turn y → length s ≤ 65536
reading-short s y e p = go (too_long s) refl (rw (reading-is s) at e)
  where
    go : (c : Bool) → too_long s ≡ c → (refuse_if c TooLong >> (layout s >>= from11)) ≡ Err y → length s ≤ 65536
    go true q e = let z = ap turn (same-refused TooLong y e) in absurd (omega arith)
    go false q e = ltb-false 65536 (length s) q

-- an answer that goes by the reading: where it fits (9), what the reading refuses is told, and what is told of 11 to 24 comes from there
pub record ByReading (s : List ℕ) (fits : Type 0) (tells : Refusal → Type 0) : Type 0 where
  pub short : fits → length s ≤ 65536
  pub into : fits → (y : Refusal) → reading s ≡ Err y → tells y
  pub back : (y : Refusal) → 2 ≤ turn y → turn y ≤ 7 → tells y → fits × (reading s ≡ Err y)

module _ (s : List ℕ) {fits : Type 0} {tells : Refusal → Type 0} (by : ByReading s fits tells) where
  -- ---- a text that is the file of rows r
  module _ (r : Rows) (laid : layout s ≡ Ok r) where
    -- faults of the rows are those of the text
    in-text : (Fault : Rows → FileRow → Type 0) (n : ℕ) → RowAt Fault r n → FaultAt Fault s n
    in-text Fault n h = let w = (layout-good s r).0 laid in let f : WellLaid s = record { rows = r; writable = w.0; text = w.1 } in record { file = f; here = h; written = line-of-row s f h.row n h.in-line }

    in_rows : (Fault : Rows → FileRow → Type 0) (n : ℕ) → FaultAt Fault s n → RowAt Fault r n
    in_rows Fault n h = subst (λ (q : Rows). RowAt Fault q n) (same_good h.file.rows r (sym (laid-good s h.file) ∙ laid)) h.here

    -- the tests come in their order
    late24 : Late 7 (from24 r)
    unfolding from24
    late24 = late-at 7 NotZero (not_zero r) (Ok (feeder_of r)) (λ n. refl) (late-good 8 (feeder_of r))

    late23 : Late 6 (from23 r)
    unfolding from23
    late23 = late-at 6 PhaseAbsent (phase_absent r) (from24 r) (λ n. refl) late24

    late22 : Late 5 (from22 r)
    unfolding from22
    late22 = late-at 5 NotReached (not_reached r) (from23 r) (λ n. refl) late23

    late21 : Late 4 (from21 r)
    unfolding from21
    late21 = late-at 4 SecondTo (second_to r) (from22 r) (λ n. refl) late22

    late20 : Late 3 (from20 r)
    unfolding from20
    late20 = late-at 3 UnknownFrom (unknown_from r) (from21 r) (λ n. refl) late21

    link11 : Link tells 2 7 fits (from11 r)
    link11 = record {
      into = λ h y e. by.into h y (rw (reading-is s, le-ltb 65536 (length s) (by.short h), laid) e);
      back = λ y p q t. let w = by.back y p q t in (w.0, goes y p (too_long s) (rw (reading-is s) at w.1));
    }
      where
        goes : (y : Refusal) → 2 ≤ turn y → (c : Bool) → (refuse_if c TooLong >> (layout s >>= from11)) ≡ Err y → from11 r ≡ Err y
        goes y p true e = let z = ap turn (same-refused TooLong y e) in absurd (omega arith)
        goes y p false e = rw laid at e

    -- what is found of the rows is found of the text
    text-finds : (Fault : Rows → FileRow → Type 0) {x : Option ℕ} → Finds x (RowAt Fault r) → Finds x (FaultAt Fault s)
    text-finds Fault = finds-same (in-text Fault) (in_rows Fault)

    -- where no row has 20 and none 21, rows are placed
    nodes-placed : Free21 s fits → EachOnce r
    nodes-placed h = each-once r (none-finds (unknown_from r) (text-finds Fault20 (finds-20 r)) h.0.1) (none-finds (second_to r) (text-finds Fault21 (finds-21 r)) h.1)

    -- each test in its turn: the answer points at the line that it finds, and the tests behind it come where no row has the fault
    step11 : PointsAt (λ n. tells (OutOfLimit n)) (FaultAt Fault11 s) fits × Link tells 3 7 (Free11 s fits) (from20 r)
    unfolding from11
    step11 = step 2 7 OutOfLimit (out_of_limit r) (from20 r) (λ n. refl) (λ n. refl) (omega arith) late20 (λ h. text-finds Fault11 (finds-11 r)) link11

    step20 : PointsAt (λ n. tells (UnknownFrom n)) (FaultAt Fault20 s) (Free11 s fits) × Link tells 4 7 (Free20 s fits) (from21 r)
    unfolding from20
    step20 = step 3 7 UnknownFrom (unknown_from r) (from21 r) (λ n. refl) (λ n. refl) (omega arith) late21 (λ h. text-finds Fault20 (finds-20 r)) step11.1

    step21 : PointsAt (λ n. tells (SecondTo n)) (FaultAt Fault21 s) (Free20 s fits) × Link tells 5 7 (Free21 s fits) (from22 r)
    unfolding from21
    step21 = step 4 7 SecondTo (second_to r) (from22 r) (λ n. refl) (λ n. refl) (omega arith) late22 (λ h. text-finds Fault21 (finds-21 r)) step20.1

    step22 : PointsAt (λ n. tells (NotReached n)) (FaultAt Fault22 s) (Free21 s fits) × Link tells 6 7 (Free22 s fits) (from23 r)
    unfolding from22
    step22 = step 5 7 NotReached (not_reached r) (from23 r) (λ n. refl) (λ n. refl) (omega arith) late23 (λ h. text-finds Fault22 (finds-22 r (nodes-placed h))) step21.1

    step23 : PointsAt (λ n. tells (PhaseAbsent n)) (FaultAt Fault23 s) (Free22 s fits) × Link tells 7 7 (Free23 s fits) (from24 r)
    unfolding from23
    step23 = step 6 7 PhaseAbsent (phase_absent r) (from24 r) (λ n. refl) (λ n. refl) (omega arith) late24 (λ h. text-finds Fault23 (finds-23 r (nodes-placed h.0))) step22.1

    at24 : PointsAt (λ n. tells (NotZero n)) (FaultAt Fault24 s) (Free23 s fits)
    unfolding from24
    at24 = (step 7 7 NotZero (not_zero r) (Ok (feeder_of r)) (λ n. refl) (λ n. refl) (omega arith) (late-good 8 (feeder_of r)) (λ h. text-finds Fault24 (finds-24 r)) step23.1).0

    file-points : PointsIntoFeeder s fits tells
    file-points = record { at-11 = step11.0; at-20 = step20.0; at-21 = step21.0; at-22 = step22.0; at-23 = step23.0; at-24 = at24 }

  -- ---- any other text: none of its lines is a row's, and none of these numbers is told
  module _ (x : Refusal) (not-laid : layout s ≡ Err x) where
    no-fault : (Fault : Rows → FileRow → Type 0) (n : ℕ) → FaultAt Fault s n → ⊥
    no-fault Fault n h = not_good h.file.rows x (sym (laid-good s h.file) ∙ not-laid)

    not-told : (y : Refusal) → 2 ≤ turn y → turn y ≤ 7 → tells y → ⊥
    not-told y p q t = goes (too_long s) (rw (reading-is s) at (by.back y p q t).1)
      where
        goes : (c : Bool) → (refuse_if c TooLong >> (layout s >>= from11)) ≡ Err y → ⊥
        goes true e = let z = ap turn (same-refused TooLong y e) in omega arith
        goes false e =
            let w = layout-refused s x not-laid in
            let z = ap turn (same-refused x y (rw not-laid at e)) in
            let v = ap turn w.1 in
            omega arith

    nothing-points : (c : ℕ → Refusal) (Fault : Rows → FileRow → Type 0) {free : Type 0} → ((n : ℕ) → 2 ≤ turn (c n)) → ((n : ℕ) → turn (c n) ≤ 7) → PointsAt (λ n. tells (c n)) (FaultAt Fault s) free
    nothing-points c Fault p q = record {
      first = λ n t. absurd (not-told (c n) (p n) (q n) t);
      only-where-free = λ n t. absurd (not-told (c n) (p n) (q n) t);
      told = λ h n f. absurd (no-fault Fault n f);
    }

    no-file-points : PointsIntoFeeder s fits tells
    no-file-points = record {
      at-11 = nothing-points OutOfLimit Fault11 (λ n. omega arith) (λ n. omega arith);
      at-20 = nothing-points UnknownFrom Fault20 (λ n. omega arith) (λ n. omega arith);
      at-21 = nothing-points SecondTo Fault21 (λ n. omega arith) (λ n. omega arith);
      at-22 = nothing-points NotReached Fault22 (λ n. omega arith) (λ n. omega arith);
      at-23 = nothing-points PhaseAbsent Fault23 (λ n. omega arith) (λ n. omega arith);
      at-24 = nothing-points NotZero Fault24 (λ n. omega arith) (λ n. omega arith);
    }

  pub points-into-feeder : PointsIntoFeeder s fits tells
  points-into-feeder = go (layout s) refl
    where
      go : (o : Outcome Rows) → layout s ≡ o → PointsIntoFeeder s fits tells
      go (Ok r) e = file-points r e
      go (Err x) e = no-file-points x e
