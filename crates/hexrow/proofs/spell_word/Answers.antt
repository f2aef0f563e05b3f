-- `spell_word` stores the digits of a word and a space.
use borrow.Author.Rules.{rules}
use lib.ListN.{length-set}
use Rattle.hexrow.proofs.Laws.{nine_stored}
use Rattle.hexrow.proofs.spell_word.Goals as goal

pub bounds-text-at-2 : goal.bounds-text-at-2
bounds-text-at-2 c = simp length-set (search rules)

pub bounds-text-at-3 : goal.bounds-text-at-3
bounds-text-at-3 c = simp length-set (search rules)

pub bounds-text-at-4 : goal.bounds-text-at-4
bounds-text-at-4 c = simp length-set (search rules)

pub bounds-text-at-5 : goal.bounds-text-at-5
bounds-text-at-5 c = simp length-set (search rules)

pub bounds-text-at-6 : goal.bounds-text-at-6
bounds-text-at-6 c = simp length-set (search rules)

pub bounds-text-at-7 : goal.bounds-text-at-7
bounds-text-at-7 c = simp length-set (search rules)

pub bounds-text-at-8 : goal.bounds-text-at-8
bounds-text-at-8 c = simp length-set (search rules)

pub bounds-text-at-9 : goal.bounds-text-at-9
bounds-text-at-9 c = simp length-set (search rules)

pub shape_of-text : goal.shape_of-text
shape_of-text c = simp length-set (search rules)

pub returns : goal.returns
returns c = search (nine_stored, rules)
