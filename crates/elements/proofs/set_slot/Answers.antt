-- `set_slot` writes a slot, and nothing past the end.
use borrow.Author.Rules.{rules}
use mathlib.Core.Path.{sym}
use lib.Seq.{set_out}
use Rattle.elements.proofs.set_slot.Goals as goal

pub returns-else-slot-slots : goal.returns-else-slot-slots
returns-else-slot-slots c = sym (set_out _ _ _ (search rules))
