-- `list_elements` finds the first element whose thing is listed already, or leaves each thing's listing in its slot. The loop's invariant: the walk over
-- the elements left finds what the whole walk finds, and the slots hold the listings so far.
use borrow.Author.Rules.{rules}
use Rattle.elements.proofs.Laws.{walk_whole, walk_hit, walk_again, walk_done}
use Rattle.elements.proofs.list_elements.Goals as goal

pub loop-k-init : goal.loop-k-init
loop-k-init c = (search rules, search rules, walk_whole _ _ _ (search rules))

pub returns-then-slot_word-ne0 : goal.returns-then-slot_word-ne0
returns-then-slot_word-ne0 c = search (walk_hit, rules)

pub loop-k-preserved : goal.loop-k-preserved
loop-k-preserved c = (search rules, search rules, search (walk_again, rules))

pub returns : goal.returns
returns c = search (walk_done, rules)
