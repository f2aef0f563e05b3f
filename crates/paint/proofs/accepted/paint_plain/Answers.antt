-- `paint_plain` lends on the needed parts of cells and scratch, and no planes.
use borrow.Author.Rules.{rules}
use mathlib.Core.Path.{sym}
use lib.Seq.{length-take-le}
use Rattle.paint.proofs.Room.{plain_lent}
use Rattle.paint.proofs.accepted.paint_plain.Goals as goal

pub paint_band-requires : goal.paint_band-requires
paint_band-requires c = (search rules, search rules, search (plain_lent, rules))

pub slice_bounds-paint_band-end-2 : goal.slice_bounds-paint_band-end-2
slice_bounds-paint_band-end-2 c = sym (length-take-le _ _ (search rules))

pub slice_bounds-paint_band-end-6 : goal.slice_bounds-paint_band-end-6
slice_bounds-paint_band-end-6 c = sym (length-take-le _ _ (search rules))
