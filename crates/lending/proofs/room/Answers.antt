-- `room` is the sheet's width times the rows.
use borrow.Author.Rules.{rules}
use Rattle.lending.proofs.Laws.{room_made}
use Rattle.lending.proofs.room.Goals as goal

pub returns : goal.returns
returns c = search (room_made, rules)
