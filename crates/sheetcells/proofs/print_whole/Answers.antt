-- `print_whole` prints rows that the cells hold.
use borrow.Author.Rules.{rules}
use Rattle.sheetcells.proofs.Laws.{whole_lines}
use Rattle.sheetcells.proofs.print_whole.Goals as goal

pub print_lines-requires : goal.print_lines-requires
print_lines-requires g c = (search (whole_lines, rules), search rules)
