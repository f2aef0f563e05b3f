-- `let_go` takes the marks of the active elements back and moves those that reach the row to the front. The invariant: those kept and those left to look at are the
-- ones to keep, no word past those kept has changed, and those left are the ones whose marks are to be taken back.
use borrow.Author.Rules.{rules}
use Prim.Native.Nat.{◌-◌}
use mathlib.Core.Path.{refl}
use lib.ListN.{get_or}
use Rattle.sweep.proofs.Laws.{moved_start, moved_again, moved_done, unmarked_again, unmarked_done, put_behind, test_at}
use Rattle.sweep.proofs.let_go.Goals as goal

pub loop-i-init : goal.loop-i-init
loop-i-init c = (search rules, moved_start _ _ _ _ _ c.requires.1, refl)

pub loop-i-preserved : goal.loop-i-preserved
loop-i-preserved c =
    let tests = test_at c.args.image.now c.args.ts c.args.row _ _ _ c.reaches-wanted.ensures c.number-element.ensures.0 in (
      put_behind _ _ _ c.reaches-wanted.result c.put_if-kept.ensures.value c.loop-i.invariant.0,
      moved_again _ _ _ _ _ c.requires.1 c.loop-i.list c.loop-i.i c.loop-i.kept c.loop-i.invariant.1 (search rules) (get_or c.loop-i.list c.loop-i.i 0) refl c.loop-i.invariant.0
          _ _ c.reaches-wanted.result (search rules) tests c.put_if-kept.ensures.value c.put_if-kept.ensures.list_after,
      unmarked_again _ _ _ _ _ c.requires.1 c.loop-i.list c.loop-i.i c.loop-i.kept c.loop-i.invariant.1 (search rules) (get_or c.loop-i.list c.loop-i.i 0) refl c.loop-i.invariant.0
          _ _ _ _ _ c.number-element.ensures.0 c.slot_at-slot.ensures c.unmark.ensures c.loop-i.invariant.2,
    )

pub returns-clause-value : goal.returns-clause-value
returns-clause-value c =
    let moved = moved_done _ _ _ _ _ c.requires.1 c.loop-i.list c.loop-i.i c.loop-i.kept c.loop-i.invariant.1 (search rules) (search rules) in
    moved.0

pub returns-clause-list_after : goal.returns-clause-list_after
returns-clause-list_after c =
    let moved = moved_done _ _ _ _ _ c.requires.1 c.loop-i.list c.loop-i.i c.loop-i.kept c.loop-i.invariant.1 (search rules) (search rules) in
    moved.1

pub returns-clause-marks_after : goal.returns-clause-marks_after
returns-clause-marks_after c =
    let moved = moved_done _ _ _ _ _ c.requires.1 c.loop-i.list c.loop-i.i c.loop-i.kept c.loop-i.invariant.1 (search rules) (search rules) in
    unmarked_done _ _ c.args.row _ _ c.requires.1 c.loop-i.i _ _ (search rules) c.loop-i.invariant.2
