-- `paint_accepted` lends on the needed parts of cells and scratch, and no planes.
use borrow.Author.Rules.{rules}
use mathlib.Core.Path.{sym}
use lib.Seq.{length-take-le}
use Rattle.paintsheet.proofs.Laws.{plain_lent}
use Rattle.paintsheet.proofs.paint_accepted.Goals as goal

pub paint_bands-requires : goal.paint_bands-requires
paint_bands-requires c = (search rules, search rules, search (plain_lent, rules))

pub slice_bounds-paint_bands-end-2 : goal.slice_bounds-paint_bands-end-2
slice_bounds-paint_bands-end-2 c = sym (length-take-le _ _ (search rules))

pub slice_bounds-paint_bands-end-6 : goal.slice_bounds-paint_bands-end-6
slice_bounds-paint_bands-end-6 c = sym (length-take-le _ _ (search rules))
