-- The whole file by its tables, and what the answer of its reader says of it. Assumes nothing.
use Rattle.std.specs.Prelude.{List, ◌≡◌, refl, ◌+◌, ℕ, drop, length, Ok, Err}
use Rattle.std.proofs.Common.{ap, subst, sym, ◌∙◌}
use Rattle.answers.specs.AnswerLaws.{not_good, same-refused}
use Rattle.answers.specs.Answers.{Done, Outcome, done}
use Rattle.answers.specs.declared.Refusal.{Refusal}
use Rattle.text.specs.Lines.{Row, word_of}
use Rattle.feeder.specs.Layout.{Rows, branch_table, layout, load_table, source_table}
use Rattle.feeder.specs.declared.BranchRow.{BranchRow}
use Rattle.feeder.specs.declared.LoadRow.{LoadRow}
use Rattle.feeder.specs.declared.Tables.{Tables}
use Rattle.tables.specs.Read.{GoodLayout, LayoutAs, LayoutRead}

-- ---- refused at its first table, at its second, at its third, or good; `part` is the file behind the source's table, and `rest` behind the branches
module _ (s : List ℕ) where
  pub no-source : (r : Refusal) → source_table s ≡ Err r → layout s ≡ Err r
  unfolding layout
  no-source r e = simp e

  module _ (x : Row) (p : ℕ) (part : List ℕ) (e : source_table s ≡ Ok (x, p)) (d : part ≡ drop p s) where
    pub no-branches : (r : Refusal) → branch_table part ≡ Err r → layout s ≡ Err r
    unfolding layout
    no-branches r h = simp (e, sym d, h)

    module _ (bs : List BranchRow) (q : ℕ) (rest : List ℕ) (f : branch_table part ≡ Ok (bs, q)) (g : rest ≡ drop q part) (count : ℕ) (n : count ≡ length bs) where
      pub no-loads : (r : Refusal) → load_table (count + 6) rest ≡ Err r → layout s ≡ Err r
      unfolding layout
      no-loads r h = simp (e, sym d, f, sym g, sym n, h)

      pub laid_out : (ls : List LoadRow) → load_table (count + 6) rest ≡ Ok ls → layout s ≡ Ok (record { source = word_of x 0; given = x.values; branches = bs; loads = ls })
      unfolding layout
      laid_out ls h = simp (e, sym d, f, sym g, sym n, h)

-- ---- an answer and the tables that it fills: what is shown of them, and what they say of the file
pub record Laid (o : Outcome Rows) (t : Tables) : Type 0 where
  pub rows : Rows
  pub whole : o ≡ Ok rows
  pub held : GoodLayout rows t

module _ {o : Outcome Rows} {t : Tables} where
  pub read-bad : {u : Outcome Done} (x : Refusal) → o ≡ Err x → u ≡ Err x → LayoutRead o u t
  read-bad {u} x e h = record { said = subst (λ (z : Outcome Rows). LayoutAs z u t) (sym e) h }

  pub read-good : (r : Rows) → o ≡ Ok r → GoodLayout r t → LayoutRead o (Ok done) t
  read-good r e h = record { said = subst (λ (z : Outcome Rows). LayoutAs z (Ok done) t) (sym e) h }

  -- of the same file, said in another way
  pub read_as : {o-too : Outcome Rows} {u : Outcome Done} → o ≡ o-too → LayoutRead o-too u t → LayoutRead o u t
  read_as {u = u} e h = subst (λ (z : Outcome Rows). LayoutRead z u t) (sym e) h

  pub laid : LayoutRead o (Ok done) t → Laid o t
  laid h = go o refl h.said
    where
      go : (z : Outcome Rows) → o ≡ z → LayoutAs z (Ok done) t → Laid o t
      go (Ok r) d w = record { rows = r; whole = d; held = w }
      go (Err x) d w = not_good done x w

  pub unlaid : (x : Refusal) → LayoutRead o (Err x) t → o ≡ Err x
  unlaid x h = go o refl h.said
    where
      go : (z : Outcome Rows) → o ≡ z → LayoutAs z (Err x) t → o ≡ Err x
      go (Ok r) d w = absurd w
      go (Err y) d w = d ∙ ap (λ (z : Refusal). Err z) (sym (same-refused x y w))
