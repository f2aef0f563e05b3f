-- `sheet_room` is width times height.
use borrow.Author.Rules.{rules}
use Rattle.paintsheet.proofs.Laws.{room_made}
use Rattle.paintsheet.proofs.sheet_room.Goals as goal

pub returns : goal.returns
returns c = search (room_made, rules)
