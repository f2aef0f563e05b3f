-- `paint_accepted_coloured` lends on the needed parts of all four buffers.
use borrow.Author.Rules.{rules}
use mathlib.Core.Path.{sym}
use lib.Seq.{length-take-le}
use Rattle.paint.proofs.Room.{colours_left, stamps_left}
use Rattle.paintsheet.proofs.Laws.{coloured_lent}
use Rattle.paintsheet.proofs.paint_accepted_coloured.Goals as goal

pub paint_bands-requires : goal.paint_bands-requires
paint_bands-requires c = (search rules, search rules, search (coloured_lent, rules))

pub slice_bounds-paint_bands-end-2 : goal.slice_bounds-paint_bands-end-2
slice_bounds-paint_bands-end-2 c = sym (length-take-le _ _ (search rules))

pub slice_bounds-paint_bands-end-4 : goal.slice_bounds-paint_bands-end-4
slice_bounds-paint_bands-end-4 c = sym (length-take-le _ _ (search rules))

pub slice_bounds-paint_bands-end-6 : goal.slice_bounds-paint_bands-end-6
slice_bounds-paint_bands-end-6 c = sym (length-take-le _ _ (search rules))

pub slice_bounds-paint_bands-end-8 : goal.slice_bounds-paint_bands-end-8
slice_bounds-paint_bands-end-8 c = sym (length-take-le _ _ (search rules))

pub returns-clause-colours_after : goal.returns-clause-colours_after
returns-clause-colours_after c = colours_left _ 0 _ _ _ _ c.sheet_room-wanted.ensures c.sheet_scratch-needed.ensures c.args.cells.now c.args.scratch.now _ _ _ _ c.paint_bands.ensures.scratch_after _ c.paint_bands.ensures.stamps_after

pub returns-clause-stamps_after : goal.returns-clause-stamps_after
returns-clause-stamps_after c = stamps_left _ 0 _ _ _ _ c.sheet_room-wanted.ensures c.sheet_scratch-needed.ensures c.args.cells.now c.args.scratch.now _ _ _ _ c.paint_bands.ensures.scratch_after _ c.paint_bands.ensures.stamps_after
