-- `report_reader::read_report` meets its contract: table by table, what was read is what the definition reads. Assumes nothing.
use Rattle.std.specs.Prelude.{Ok, Err}
use mathlib.Core.Bool.{◌&&◌, false, true}
use mathlib.Core.List.{List}
use mathlib.Core.Path.{◌∙◌, ◌≡◌, refl, subst, sym}
use Prim.Native.Nat.{◌+◌, ◌-◌, ◌≤◌, suc, ℕ}
use native.Mathlib.Omega.{arith}
use lib.IntN.{pos}
use lib.ListN.{drop, length, length-drop, take}
use lib.Seq.{drop-drop}
use borrow.Author.Rules.{rules}
use Rattle.std.proofs.lemmas.Option.{MatchOption-at_none, MatchOption-at_some}
use Rattle.text.specs.Lines.{nth}
use Rattle.text.specs.Text.{bytes}
use Rattle.text.specs.TextLaws.{part-from}
use Rattle.feeder.specs.Feeder.{Feeder, between, row_count}
use Rattle.report.specs.Report.{Reported, report_of, totals_row}
use Rattle.answers.specs.AnswerLaws.{not-refused}
use Rattle.answers.specs.declared.Refusal.TheVariants.{ReportLayout}
use Rattle.report_tables.specs.TablesRead.{TableHeld, TableIs, TableRead, TotalsAre, TotalsHeld, table_read}
use Rattle.report_reader.specs.Read.{FeederShown, LastHeld, last_taps}
use Rattle.report_reader.specs.ReportLaws.{accepts, branch_table, branches-empty, by_tests, no-branches, no-nodes, no-taps, no-totals, node_table, nodes-empty, not-read, tap-names-empty, taps-empty, taps-read}
use Rattle.report_reader.proofs.read_report.Goals as goal
use Rattle.report_reader.proofs.read_report.Goals.{After-accepted, After-read_table, After-read_table-2, After-read_totals, In-Some, In-Some-read_table, In-Some-read_totals, In_default, In_default-read_table, In_default-read_totals, Else-not-read_taps, Then-not-read_taps}

-- the node table
nodes : (c : After-read_table) (n : ℕ) → n ≡ c.args.network.now.rows + 1 → let l = c.read_table.new in TableIs false n c.args.report.now (node_table n c.args.report.now) c.read_table.result l.first l.second l.threes l.pairs
unfolding bytes
nodes c n d = c.read_table.ensures "node,va_re,va_im,vb_re,vb_im,vc_re,vc_im\n" n refl d

abbrev nodeRead : In-Some → TableRead
nodeRead c = let l = c.read_table.new in table_read c.in-Some.node_table l.first l.second l.threes l.pairs

nodes-held : (c : In-Some) (n : ℕ) → n ≡ c.args.network.now.rows + 1 → TableHeld false n c.args.report.now (node_table n c.args.report.now) (nodeRead c)
nodes-held c n d = MatchOption-at_some _ _ _ c.in-Some.is (nodes (goal.at.In-Some c).After-read_table n d)

nodes-within : (c : In-Some) → c.in-Some.node_table.next ≤ length c.args.report.now
nodes-within c = (nodes-held c (c.args.network.now.rows + 1) refl).within

-- the branch table, in the rest of the report
branches : (c : After-read_table-2) (n : ℕ) → n ≡ c.args.network.now.rows → let s = drop c.in-Some.node_table.next c.args.report.now in let l = c.read_table-2.new in
    TableIs true n s (branch_table n s) c.read_table-2.result l.first l.second l.threes l.pairs
unfolding bytes
branches c n d =
    let l = c.read_table-2.new in
    subst (λ (s : List ℕ). TableIs true n s (branch_table n s) c.read_table-2.result l.first l.second l.threes l.pairs) (part-from c.args.report.now c.in-Some.node_table.next) (c.read_table-2.ensures "from,to,ia_re,ia_im,ib_re,ib_im,ic_re,ic_im,loss_p,loss_q\n" n refl d)

abbrev branchRead : In-Some-read_table → TableRead
branchRead c = let l = c.read_table-2.new in table_read c.in-Some-read_table.branch_table l.first l.second l.threes l.pairs

branches-held : (c : In-Some-read_table) (n : ℕ) → n ≡ c.args.network.now.rows → let s = drop c.in-Some.node_table.next c.args.report.now in TableHeld true n s (branch_table n s) (branchRead c)
branches-held c n d = MatchOption-at_some _ _ _ c.in-Some-read_table.is (branches (goal.at.In-Some-read_table c).After-read_table-2 n d)

branches-within : (c : In-Some-read_table) → c.in-Some.node_table.next + c.in-Some-read_table.branch_table.next ≤ length c.args.report.now
branches-within c =
    let h = nodes-within (goal.at.In-Some-read_table c).In-Some in
    let k = (branches-held c c.args.network.now.rows refl).within in
    omega (arith, length-drop c.in-Some.node_table.next c.args.report.now)

-- the rest behind these two, in which the row of the totals and the last table stand
abbrev rest : After-read_totals → List ℕ
rest c = drop c.in-Some-read_table.branch_table.next (drop c.in-Some.node_table.next c.args.report.now)

rest-is : (c : After-read_totals) → let s = c.args.report.now in let n = c.in-Some.node_table.next + c.in-Some-read_table.branch_table.next in take (length s - n) (drop n s) ≡ rest c
rest-is c =
    let s = c.args.report.now in
    let p = c.in-Some.node_table.next in
    let q = c.in-Some-read_table.branch_table.next in
    part-from s (p + q) ∙ sym (drop-drop q p s)

totals : (c : After-read_totals) → TotalsAre (rest c) (totals_row (rest c)) c.read_totals.result
totals c = subst (λ (l : List ℕ). TotalsAre l (totals_row l) c.read_totals.result) (rest-is c) c.read_totals.ensures

totals-held : (c : In-Some-read_totals) → let s = rest (goal.at.In-Some-read_totals c).After-read_totals in TotalsHeld s (totals_row s) c.in-Some-read_totals.last.0 c.in-Some-read_totals.last.1
totals-held c = MatchOption-at_some _ _ _ c.in-Some-read_totals.is (totals (goal.at.In-Some-read_totals c).After-read_totals)

-- the last table
last-held : (c : Else-not-read_taps) (f : Feeder) → let a = c.args in FeederShown f a.network.now a.network.now.limit →
    let l = c.read_taps.new in LastHeld f (rest (goal.at.Else-not-read_taps c).After-read_totals) c.in-Some-read_totals.last.1 l.names l.taps
last-held c f h =
    let l = c.read_taps.new in
    subst (λ (s : List ℕ). LastHeld f s c.in-Some-read_totals.last.1 l.names l.taps) (rest-is (goal.at.Else-not-read_taps c).After-read_totals) ((c.read_taps.ensures f _ h).held c.if-not-read_taps.false)

-- the tests
agreed : (c : After-accepted) (limit : ℕ) → c.args.network.now.limit ≡ limit → accepts limit (nodeRead (goal.at.After-accepted c).In-Some) (branchRead (goal.at.After-accepted c).In-Some-read_table) c.in-Some-read_totals.last.0 ≡ c.accepted.result
agreed c limit d = sym (c.accepted.ensures ∙ (λ i. c.in-Some.node_table.inside && (c.in-Some-read_table.branch_table.inside && between (pos 1) (pos (d i)) (nth c.in-Some-read_totals.last.0 1))))

pub read_table-requires : goal.read_table-requires
read_table-requires c = record { header_nonzero = search rules; count_bound = search rules; empty = nodes-empty c.args.read.now c.requires.unread }

-- a report that is refused
unread : {X : Type 0} (f : Feeder) (s : List ℕ) → report_of f s ≡ Err ReportLayout → (x : Reported) → report_of f s ≡ Ok x → X
unread f s e x g = not-refused ReportLayout x (sym e ∙ g)

no-nodes-in : (c : In_default) (f : Feeder) → c.args.network.now.rows ≡ row_count f → report_of f c.args.report.now ≡ Err ReportLayout
no-nodes-in c f e = no-nodes f _ (MatchOption-at_none _ _ c.in_default.is (nodes (goal.at.In_default c).After-read_table (suc (row_count f)) (omega (arith, e))))

pub returns-in_default : goal.returns-in_default
returns-in_default c = record { held = (λ f h. not-read _ _ _ refl (no-nodes-in (goal.at.returns-in_default c).In_default f h.rows)); taps = (λ f x h. unread f _ (no-nodes-in (goal.at.returns-in_default c).In_default f h.rows) x) }

pub slice_bounds-read_table-count : goal.slice_bounds-read_table-count
slice_bounds-read_table-count c = nodes-within (goal.at.slice_bounds-read_table-count c).In-Some

pub slice_bounds-read_table-start : goal.slice_bounds-read_table-start
slice_bounds-read_table-start c = nodes-within (goal.at.slice_bounds-read_table-start c).In-Some

pub read_table-requires-2 : goal.read_table-requires-2
read_table-requires-2 c = record { header_nonzero = search rules; count_bound = search rules; empty = branches-empty c.args.read.now c.requires.unread _ _ ((nodes-held (goal.at.read_table-requires-2 c).In-Some (c.args.network.now.rows + 1) refl).blank refl) }

-- the first two tables of a feeder with so many rows
nodes-of : (c : In-Some) (f : Feeder) → c.args.network.now.rows ≡ row_count f → TableHeld false (suc (row_count f)) c.args.report.now (node_table (suc (row_count f)) c.args.report.now) (nodeRead c)
nodes-of c f e = nodes-held c (suc (row_count f)) (omega (arith, e))

no-branches-in : (c : In_default-read_table) (f : Feeder) → c.args.network.now.rows ≡ row_count f → report_of f c.args.report.now ≡ Err ReportLayout
no-branches-in c f e = no-branches f _ _ _ (nodes-of (goal.at.In_default-read_table c).In-Some f e).whole (MatchOption-at_none _ _ c.in_default-read_table.is (branches (goal.at.In_default-read_table c).After-read_table-2 (row_count f) (sym e)))

pub returns-in_default-read_table : goal.returns-in_default-read_table
returns-in_default-read_table c = record { held = (λ f h. not-read _ _ _ refl (no-branches-in (goal.at.returns-in_default-read_table c).In_default-read_table f h.rows)); taps = (λ f x h. unread f _ (no-branches-in (goal.at.returns-in_default-read_table c).In_default-read_table f h.rows) x) }

pub overflow_add-q : goal.overflow_add-q
overflow_add-q c = let h = branches-within (goal.at.overflow_add-q c).In-Some-read_table in search rules

pub slice_bounds-rest-count : goal.slice_bounds-rest-count
slice_bounds-rest-count c = branches-within (goal.at.slice_bounds-rest-count c).In-Some-read_table

pub slice_bounds-rest-start : goal.slice_bounds-rest-start
slice_bounds-rest-start c = branches-within (goal.at.slice_bounds-rest-start c).In-Some-read_table

no-totals-in : (c : In_default-read_totals) (f : Feeder) → c.args.network.now.rows ≡ row_count f → report_of f c.args.report.now ≡ Err ReportLayout
no-totals-in c f e = no-totals f _ _ _ (nodes-of (goal.at.In_default-read_totals c).In-Some f e).whole _ _ (branches-held (goal.at.In_default-read_totals c).In-Some-read_table (row_count f) (sym e)).whole (MatchOption-at_none _ _ c.in_default-read_totals.is (totals (goal.at.In_default-read_totals c).After-read_totals))

pub returns-in_default-read_totals : goal.returns-in_default-read_totals
returns-in_default-read_totals c = record { held = (λ f h. not-read _ _ _ refl (no-totals-in (goal.at.returns-in_default-read_totals c).In_default-read_totals f h.rows)); taps = (λ f x h. unread f _ (no-totals-in (goal.at.returns-in_default-read_totals c).In_default-read_totals f h.rows) x) }

pub read_taps-requires : goal.read_taps-requires
read_taps-requires c = record { names_value = tap-names-empty c.args.read.now c.requires.unread; taps_value = taps-empty c.args.read.now c.requires.unread }

no-taps-in : (c : Then-not-read_taps) (f : Feeder) → FeederShown f c.args.network.now c.args.network.now.limit → report_of f c.args.report.now ≡ Err ReportLayout
no-taps-in c f h =
    no-taps f _ _ _ (nodes-of (goal.at.Then-not-read_taps c).In-Some f h.rows).whole _ _ (branches-held (goal.at.Then-not-read_taps c).In-Some-read_table (row_count f) (sym h.rows)).whole _ _ (totals-held (goal.at.Then-not-read_taps c).In-Some-read_totals).whole
    (subst (λ (l : List ℕ). last_taps f l c.in-Some-read_totals.last.1 ≡ Err ReportLayout) (rest-is (goal.at.Then-not-read_taps c).After-read_totals) ((c.read_taps.ensures f _ h).refusal c.if-not-read_taps.true))

pub returns-then-not-read_taps : goal.returns-then-not-read_taps
returns-then-not-read_taps c = record { held = (λ f h. not-read _ _ _ refl (no-taps-in c f h)); taps = (λ f x h. unread f _ (no-taps-in c f h) x) }

pub accepted-requires : goal.accepted-requires
accepted-requires c = c.requires.limit_bound

pub returns : goal.returns
returns c = record {
  held = (λ f h. by_tests f _ _ _ _ _ _ _ (nodes-of (goal.at.returns c).In-Some f h.rows) (branches-held (goal.at.returns c).In-Some-read_table (row_count f) (sym h.rows)) (totals-held (goal.at.returns c).In-Some-read_totals) (last-held (goal.at.returns c).Else-not-read_taps f h) _ h.few-rows (agreed c f.limit h.limit));
  taps = (λ f x h. taps-read f _ _ _ _ _ _ _ (nodes-of (goal.at.returns c).In-Some f h.rows) (branches-held (goal.at.returns c).In-Some-read_table (row_count f) (sym h.rows)) (totals-held (goal.at.returns c).In-Some-read_totals) (last-held (goal.at.returns c).Else-not-read_taps f h) x);
}
