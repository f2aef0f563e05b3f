-- `print_image` hands on only an image that is accepted.
use borrow.Author.Rules.{rules}
use Rattle.sheetcells.proofs.Laws.{accepted}
use Rattle.sheetcells.proofs.print_image.Goals as goal

pub print_accepted-requires : goal.print_accepted-requires
print_accepted-requires g c = (search (accepted, rules), search rules)
