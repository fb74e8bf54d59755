-- `tables::read_rows` meets its contract: at each turn the rows read so far, in front of those that are left, are the whole. Assumes nothing.
use Rattle.std.specs.Prelude.{None, false, true, ◌+◌, refl}
use Rattle.std.proofs.Common.{arith}
use Rattle.answers.specs.declared.Refusal.TheVariants.{Layout}
use Rattle.tables.specs.TableLaws.{going-bad, going_next, going-over, going_start}
use Rattle.tables.proofs.read_rows.Goals as goal

pub loop-read-init : goal.loop-read-init
loop-read-init g c = record { ahead = omega arith; inside = omega (arith, c.requires.reach); going = λ row over d m h. going_start _ _ _ _ _ _ _ _ h }

pub returns-in_default-clause-value : goal.returns-in_default-clause-value
returns-in_default-clause-value g c row over d m h =
    let i = c.loop-read.invariant in
    record { said = going-bad _ _ _ _ _ _ _ _ _ _ (i.going row over d m h) (omega (arith, c.requires.reach)) (m.end-seen c.args.part _ false refl i.inside (c.loop-read-test.ensures)) (m.row-read c.args.part _ None refl i.inside (c.in_default.ensures) (Layout (c.args.line + c.loop-read.n))) }

pub loop-read-preserved : goal.loop-read-preserved
loop-read-preserved g c =
    let i = c.loop-read.invariant in
    let p = c.requires.past _ _ _ i.inside (c.in-Some.ensures) in
    record {
      ahead = omega (arith, p);
      inside = p.1;
      going = λ row over d m h.
          let w = i.going row over d m h in
          going_next _ _ _ _ _ _ _ _ _ _ w (omega (arith, c.requires.reach)) (m.end-seen c.args.part _ false refl i.inside (c.loop-read-test.ensures)) _ _ (m.row-read c.args.part _ _ refl i.inside (c.in-Some.ensures) (Layout (c.args.line + c.loop-read.n))) _
          (c.store.ensures d w.so_far w.counted w.held);
    }

pub returns-clause-value : goal.returns-clause-value
returns-clause-value g c row over d m h =
    let i = c.loop-read.invariant in
    let w = i.going row over d m h in
    record { said = record { list = w.so_far; whole = going-over _ _ _ _ _ _ _ _ _ _ w (m.end-seen c.args.part _ true refl i.inside (c.loop-read-test.ensures)); counted = w.counted; held = w.held } }
