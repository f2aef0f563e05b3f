-- `print_rows` ends: the measure is how many rows are left. The invariant: no row past the last is painted.
use borrow.Author.Rules.{rules}
use Rattle.sheetcells.proofs.print_rows.Goals as goal

pub print_band-requires-clause-keeps : goal.print_band-requires-clause-keeps
print_band-requires-clause-keeps g c = (search rules, search rules, search rules, search rules)

pub print_band-requires-clause-rows_le_band_rows : goal.print_band-requires-clause-rows_le_band_rows
print_band-requires-clause-rows_le_band_rows g c = (search rules, search rules)
