-- `store` stores the words as bytes. The invariant: the words left to store make of the bytes now what all of them make of the bytes at first.
use borrow.Author.Rules.{rules}
use Rattle.ground.proofs.Turns.{turns_again}
use Rattle.wordfile.proofs.Laws.{none_stored, all_stored}
use Rattle.wordfile.proofs.store.Goals as goal

pub loop-k-preserved : goal.loop-k-preserved
loop-k-preserved c = search (turns_again, rules)

pub loop-k-init : goal.loop-k-init
loop-k-init c = search (none_stored, rules)

pub returns-clause-bytes_after : goal.returns-clause-bytes_after
returns-clause-bytes_after c = search (all_stored, rules)
