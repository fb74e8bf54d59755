-- The report's lines over what stands on them. Assumes nothing.
use Rattle.std.specs.Prelude.{List, [], ◌++◌, ◌∷◌, ℕ, pos}
use Rattle.feeder.specs.Phased.{Taps, Three}
use Rattle.integers.specs.declared.Pair.{Pair}
use Rattle.report_lines.specs.declared.Figures.{Figures}
use Rattle.text.specs.Text.{decimal, letters}

-- ---- numbers, each with the comma before it
unfoldable pub pair_fields : Pair → List ℕ
pair_fields x = (44 ∷ decimal x.re) ++ (44 ∷ decimal x.im)

unfoldable pub three_fields : Three → List ℕ
three_fields x = pair_fields x.a ++ (pair_fields x.b ++ pair_fields x.c)

-- ---- lines
unfoldable pub node_row : ℕ → Three → List ℕ
node_row n x = letters 8 n ++ (three_fields x ++ (10 ∷ []))

unfoldable pub branch_row : ℕ → ℕ → Three → Pair → List ℕ
branch_row from to x loss = letters 8 from ++ ((44 ∷ []) ++ (letters 8 to ++ (three_fields x ++ (pair_fields loss ++ (10 ∷ [])))))

unfoldable pub totals_row : Figures → List ℕ
totals_row g = decimal (pos g.sweeps) ++ (pair_fields g.source ++ (pair_fields g.drawn ++ (pair_fields g.lost ++ (10 ∷ []))))

unfoldable pub tap_row : ℕ → Taps → List ℕ
tap_row n t = letters 8 n ++ ((44 ∷ decimal t.a) ++ ((44 ∷ decimal t.b) ++ ((44 ∷ decimal t.c) ++ (10 ∷ []))))
