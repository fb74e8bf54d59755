-- `regulate` meets its contract: before each round the rounds that are left are the rounds. Assumes nothing.
use Rattle.std.proofs.Common.{List, ◌≡◌, refl, subst, sym, suc, ◌+◌, ◌-◌, ◌≤◌, arith}
use Rattle.std.specs.Prelude.{not, true, Ok, Err}
use Rattle.std.proofs.lemmas.Result.{err_from_is_err_and}
use Rattle.equations.specs.Taps.{at_rest, moved}
use Rattle.feeder.specs.Feeder.{Feeder, with_taps}
use Rattle.feeder.specs.Network.{Held, branch_array}
use Rattle.feeder.specs.Phased.{Three}
use Rattle.iteration.proofs.RunLaws.{room-made}
use Rattle.iteration.specs.Ladder.{solution}
use Rattle.iteration.specs.Runs.{Room, SolvedAs}
use Rattle.rounds.proofs.Turns.{Reached, found, found_within, known-moved, reached-last, reached-start, round-moves, round-rests, round-stops}
use Rattle.sweeps.specs.Retapped.{alone-more, alone-same, with_branches}
use Rattle.sweeps.specs.Sweeps.{Known}
use Rattle.sweeps.specs.SweepsLaws.{ready}
use Rattle.rounds.proofs.regulate.Goals as goal
use Rattle.rounds.proofs.regulate.Goals.{After-move_taps, After-solve, In_err-run, In_ok-run}

pub loop-init : goal.loop-init
loop-init c = record { no-voltage = c.requires.v_value; no-current = c.requires.i_value; known = c.requires.known_2; rest = alone-same _; reached = λ f h. reached-start f _ h }

pub solve-requires-clause-room : goal.solve-requires-clause-room
solve-requires-clause-room c = subst (λ (l : List Three). Room c.loop.network.rows l) (sym c.loop.invariant.no-voltage) (room-made _)

-- a round is left, and the rounds that are left are the rounds
reached : (c : After-solve) (f : Feeder) → Held f c.args.network.now → Reached f (suc (31 - c.loop.counter)) c.loop.network
reached c f h = let e : 32 - c.loop.counter ≡ suc (31 - c.loop.counter) = omega (arith, c.loop-test.true) in rw e at (c.loop.invariant.reached f h)

-- a round's study is solved
solved-as : (c : In_ok-run) (g : Feeder) → Held g c.loop.network → SolvedAs g (solution g) (Ok c.in_ok-run.run') c.solve.new.v c.solve.new.i
solved-as c g h = rw c.in_ok-run.was at (c.solve.ensures.value g h)

-- a round's study is refused
refused-as : (c : In_err-run) (g : Feeder) → Held g c.loop.network → SolvedAs g (solution g) (Err c.in_err-run.field-0.0) c.solve.new.v c.solve.new.i
refused-as c g h = rw c.in_err-run.was at (c.solve.ensures.value g h)

-- the taps that were moved
stored : (c : After-move_taps) (g : Feeder) → Held g c.loop.network
    → (c.move_taps.result ≡ not (at_rest g c.solve.new.v c.solve.new.i))
    × (c.move_taps.new.branches ≡ branch_array (with_taps (moved g c.solve.new.v c.solve.new.i) g))
stored c g h = c.move_taps.ensures g h.branches h.rows

known-again : (c : After-move_taps) (few_rows : c.loop.network.rows ≤ 200) (few_loads : c.loop.network.count ≤ 300) → Known (with_branches c.move_taps.new.branches c.loop.network few_rows few_loads)
known-again c few_rows few_loads =
    let w = c.loop.invariant.known in
    known-moved c.loop.network w c.solve.new.v c.solve.new.i c.move_taps.new.branches (stored c w.feeder w.held).1 few_rows few_loads

-- a round fewer is left
reached-again : (c : After-move_taps) → c.move_taps.result ≡ true → (few_rows : c.loop.network.rows ≤ 200) (few_loads : c.loop.network.count ≤ 300) (f : Feeder) → Held f c.args.network.now
    → Reached f (32 - (c.loop.counter + 1)) (with_branches c.move_taps.new.branches c.loop.network few_rows few_loads)
reached-again c t few_rows few_loads f h =
    let w = reached (goal.at.After-move_taps c).After-solve f h in
    let b = stored c w.feeder w.held in
    let z : 31 - c.loop.counter ≡ 32 - (c.loop.counter + 1) = omega arith in
    rw z at (round-moves f _ c.loop.network w c.in_ok-run.run' c.solve.new.v c.solve.new.i (solved-as (goal.at.After-move_taps c).In_ok-run w.feeder w.held) c.move_taps.result c.move_taps.new.branches b.0 b.1
    few_rows few_loads t)

pub returns-in_err-run-clause-value : goal.returns-in_err-run-clause-value
returns-in_err-run-clause-value c = λ f h.
    let w = reached (goal.at.returns-in_err-run-clause-value c).After-solve f h in
    let p = err_from_is_err_and c.from_residual.result c.from_residual.ensures.1 in
    rw (p.1, p.2) (round-stops f _ c.loop.network w _ c.solve.new.v c.solve.new.i
    (refused-as (goal.at.returns-in_err-run-clause-value c).In_err-run w.feeder w.held) _ _ _)

pub move_taps-requires-clause-by_index : goal.move_taps-requires-clause-by_index
move_taps-requires-clause-by_index c = (ready c.loop.invariant.known).fine

pub move_taps-requires-clause-by_index_2 : goal.move_taps-requires-clause-by_index_2
move_taps-requires-clause-by_index_2 c = λ k p b.
    let w = c.loop.invariant.known in
    found_within w.feeder _ _ _ (found w.feeder c.in_ok-run.run' c.solve.new.v c.solve.new.i (solved-as (goal.at.move_taps-requires-clause-by_index_2 c).In_ok-run w.feeder w.held)) k p
    (let e = w.held.rows in omega arith)

pub returns-then-not-move_taps-clause-value : goal.returns-then-not-move_taps-clause-value
returns-then-not-move_taps-clause-value c = λ f h.
    let w = reached (goal.at.returns-then-not-move_taps-clause-value c).After-solve f h in
    let b = stored (goal.at.returns-then-not-move_taps-clause-value c).After-move_taps w.feeder w.held in
    round-rests f _ c.loop.network w c.in_ok-run.run' c.solve.new.v c.solve.new.i
    (solved-as (goal.at.returns-then-not-move_taps-clause-value c).In_ok-run w.feeder w.held) c.move_taps.result c.move_taps.new.branches b.0 b.1 _ _ c.if-not-move_taps.true

pub returns-then-not-move_taps-clause-size : goal.returns-then-not-move_taps-clause-size
returns-then-not-move_taps-clause-size c = rw (← c.loop.invariant.rest.rows, ← c.in_ok-run.was) c.solve.ensures.size

pub returns-then-not-move_taps-clause-known : goal.returns-then-not-move_taps-clause-known
returns-then-not-move_taps-clause-known c = known-again (goal.at.returns-then-not-move_taps-clause-known c).After-move_taps _ _

pub loop-preserved : goal.loop-preserved
loop-preserved c = record {
  no-voltage = refl;
  no-current = refl;
  known = known-again (goal.at.loop-preserved c).After-move_taps _ _;
  rest = alone-more c.loop.network _ _ _ c.loop.invariant.rest;
  reached = reached-again (goal.at.loop-preserved c).After-move_taps c.if-not-move_taps.false _ _;
}

pub returns-clause-value : goal.returns-clause-value
returns-clause-value c = λ f h. let z : 32 - c.loop.counter ≡ 0 = omega (arith, c.loop-test.false) in reached-last f _ (rw z at (c.loop.invariant.reached f h)) _ _

pub returns-then-not-move_taps-clause-rest : goal.returns-then-not-move_taps-clause-rest
returns-then-not-move_taps-clause-rest c = alone-more c.loop.network _ _ _ c.loop.invariant.rest
