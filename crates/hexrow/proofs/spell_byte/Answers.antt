-- `spell_byte` stores the digits of a byte and a space.
use borrow.Author.Rules.{rules}
use lib.ListN.{length-set}
use Rattle.hexrow.proofs.Laws.{three_stored}
use Rattle.hexrow.proofs.spell_byte.Goals as goal

pub bounds-text-at-2 : goal.bounds-text-at-2
bounds-text-at-2 c = simp length-set (search rules)

pub bounds-text-at-3 : goal.bounds-text-at-3
bounds-text-at-3 c = simp length-set (search rules)

pub returns : goal.returns
returns c = search (three_stored, rules)
