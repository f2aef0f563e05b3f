-- `paint_bands` takes the steps. The invariant: the record and the buffers are as a step needs them, and the rows before the next are painted.
use borrow.Author.Rules.{rules}
use Prim.Native.Nat.{◌-◌}
use mathlib.Core.Path.{refl, sym}
use Rattle.compose.proofs.Picture.{scratch_cleared}
use Rattle.bands.proofs.Next.{marks_long}
use Rattle.bands.proofs.All.{steps_start, steps_again, steps_done, steps_less, steps_end, done_none, done_all}
use Rattle.bands.proofs.paint_bands.Goals as goal

pub loop-sweep-init : goal.loop-sweep-init
loop-sweep-init c = (refl, refl, refl, refl, steps_start _ _ _ _ _ _ _ _ c.requires.0 c.requires.2 c.start-sweep.ensures refl, done_none _ _ _ _ _ _ c.start-sweep.ensures.1)

pub slice_bounds-step_from-end : goal.slice_bounds-step_from-end
slice_bounds-step_from-end c = sym (marks_long _ c.loop-sweep.invariant.4.unmarked)

pub step_from-sweep-requires : goal.step_from-sweep-requires
step_from-sweep-requires c = c.loop-sweep.invariant.4

pub loop-sweep-smaller : goal.loop-sweep-smaller
loop-sweep-smaller c = steps_less _ _ _ _ _ _ _ _ _ _ _ _ _ _ _ c.loop-sweep.invariant.4 c.step_from-sweep.ensures _ _ c.word.ensures c.number-height.ensures.0 c.requires.1 c.loop-sweep-test.true

pub loop-sweep-preserved : goal.loop-sweep-preserved
loop-sweep-preserved c = (
  search rules,
  search rules,
  search rules,
  search rules,
  steps_again _ _ _ _ _ _ _ _ _ _ _ _ _ _ _ c.loop-sweep.invariant.4 c.step_from-sweep.ensures (search rules) (search rules) (search rules) (search rules),
  steps_done _ _ _ _ _ _ _ _ _ _ _ _ _ _ _ c.loop-sweep.invariant.4 c.step_from-sweep.ensures _ _ _ c.loop-sweep.invariant.5,
)

pub returns-clause-stamps_after : goal.returns-clause-stamps_after
returns-clause-stamps_after c =
    let all = steps_end _ _ _ _ _ _ _ _ _ _ c.loop-sweep.invariant.4 c.word.ensures c.number-height.ensures.0 (search rules) in
    done_all _ _ _ _ _ _ _ _ _ c.requires.2.lent_cells c.requires.2.planes all c.loop-sweep.invariant.5

pub returns-clause-scratch_after : goal.returns-clause-scratch_after
returns-clause-scratch_after c = scratch_cleared _ _ _ _ c.clear.ensures refl c.loop-sweep.invariant.4.lends.lent_scratch
