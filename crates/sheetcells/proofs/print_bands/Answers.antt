-- `print_bands` prints rows only where the scratch is long enough.
use borrow.Author.Rules.{rules}
use Rattle.sheetcells.proofs.Laws.{scratch_fits}
use Rattle.sheetcells.proofs.print_bands.Goals as goal

pub print_rows-requires : goal.print_rows-requires
print_rows-requires g c = (search rules, search rules, search rules, search (scratch_fits, rules), search rules)
