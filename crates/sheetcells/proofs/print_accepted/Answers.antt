-- `print_accepted` prints the whole only where its rows have room in the cells.
use borrow.Author.Rules.{rules}
use Rattle.sheetcells.proofs.Laws.{whole_fits}
use Rattle.sheetcells.proofs.print_accepted.Goals as goal

pub print_whole-requires : goal.print_whole-requires
print_whole-requires g c = (search (whole_fits, rules), search rules)
