-- `slot_word` reads the word at a slot, and 0 past the end.
use borrow.Author.Rules.{rules}
use mathlib.Core.Path.{sym}
use lib.ListN.{get_or-eq_default}
use Rattle.elements.proofs.slot_word.Goals as goal

pub returns-else-slot-slots : goal.returns-else-slot-slots
returns-else-slot-slots c = sym (get_or-eq_default c.args.slots.now 0 {n = c.args.slot} (search rules))
