-- `paint_rows` paints rows that have room in the planes.
use borrow.Author.Rules.{rules}
use Rattle.sheetshow.proofs.Laws.{band_fits, scratch_fits}
use Rattle.sheetshow.proofs.paint_rows.Goals as goal

pub paint_planes-requires : goal.paint_planes-requires
paint_planes-requires c = (search rules, search rules, search (band_fits, rules), search (band_fits, rules), search (band_fits, rules), search (scratch_fits, rules))

pub paint_plain-requires : goal.paint_plain-requires
paint_plain-requires c = (search rules, search rules, search (band_fits, rules), search (scratch_fits, rules))
