-- `put_word` stores the four bytes of a word.
use borrow.Author.Rules.{rules}
use lib.ListN.{length-set}
use Rattle.wordfile.proofs.Laws.{four_stored}
use Rattle.wordfile.proofs.put_word.Goals as goal

pub bounds-bytes-at-2 : goal.bounds-bytes-at-2
bounds-bytes-at-2 c = simp length-set (search rules)

pub bounds-bytes-at-3 : goal.bounds-bytes-at-3
bounds-bytes-at-3 c = simp length-set (search rules)

pub returns : goal.returns
returns c = search (four_stored, rules)
