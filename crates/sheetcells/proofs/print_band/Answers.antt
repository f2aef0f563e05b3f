-- `print_band` paints and prints rows that have room in the cells.
use borrow.Author.Rules.{rules}
use Rattle.sheetcells.proofs.Laws.{band_room, band_fits}
use Rattle.sheetcells.proofs.print_band.Goals as goal

pub paint_plain-requires : goal.paint_plain-requires
paint_plain-requires g c = (search rules, search rules, search (band_room, rules), search rules)

pub print_lines-requires : goal.print_lines-requires
print_lines-requires g c = (search (band_fits, rules), search rules)
