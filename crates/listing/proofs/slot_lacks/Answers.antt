-- `slot_lacks` tells whether a thing touches a row which the listing in its slot lacks.
use borrow.Author.Rules.{rules}
use Rattle.listing.proofs.Laws.{slot_lack}
use Rattle.listing.proofs.slot_lacks.Goals as goal

pub returns : goal.returns
returns c = search (slot_lack, rules)
