-- `paint_planes` lends on the needed parts of all four buffers.
use borrow.Author.Rules.{rules}
use mathlib.Core.Path.{sym}
use lib.Seq.{length-take-le}
use Rattle.paint.proofs.Room.{coloured_lent, colours_left, stamps_left}
use Rattle.paint.proofs.accepted.paint_planes.Goals as goal

pub paint_band-requires : goal.paint_band-requires
paint_band-requires c = (search rules, search rules, search (coloured_lent, rules))

pub slice_bounds-paint_band-end-2 : goal.slice_bounds-paint_band-end-2
slice_bounds-paint_band-end-2 c = sym (length-take-le _ _ (search rules))

pub slice_bounds-paint_band-end-4 : goal.slice_bounds-paint_band-end-4
slice_bounds-paint_band-end-4 c = sym (length-take-le _ _ (search rules))

pub slice_bounds-paint_band-end-6 : goal.slice_bounds-paint_band-end-6
slice_bounds-paint_band-end-6 c = sym (length-take-le _ _ (search rules))

pub slice_bounds-paint_band-end-8 : goal.slice_bounds-paint_band-end-8
slice_bounds-paint_band-end-8 c = sym (length-take-le _ _ (search rules))

pub returns-clause-colours_after : goal.returns-clause-colours_after
returns-clause-colours_after c = colours_left _ _ _ _ _ _ c.room-wanted.ensures c.scratch_room-needed.ensures c.args.cells.now c.args.scratch.now _ _ _ _ c.paint_band.ensures.scratch_after _ c.paint_band.ensures.stamps_after

pub returns-clause-stamps_after : goal.returns-clause-stamps_after
returns-clause-stamps_after c = stamps_left _ _ _ _ _ _ c.room-wanted.ensures c.scratch_room-needed.ensures c.args.cells.now c.args.scratch.now _ _ _ _ c.paint_band.ensures.scratch_after _ c.paint_band.ensures.stamps_after
