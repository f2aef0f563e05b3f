-- `bad_range` finds the first width range that breaks its rule, at its first word.
use borrow.Author.Rules.{rules}
use Rattle.refusals.proofs.Laws.{range_none, range_few, range_at}
use Rattle.refusals.proofs.bad_range.Goals as goal

pub returns-in_err-k : goal.returns-in_err-k
returns-in_err-k c = search (range_none, rules)

pub record_at-requires : goal.record_at-requires
record_at-requires c =
    (c.requires.1.ranges, range_few _ _ _ _ c.table_words.ensures c.first_broken.ensures _ c.requires.0 c.requires.1 c.in_ok-k.was)

pub returns : goal.returns
returns c = range_at _ _ _ _ c.table_words.ensures c.first_broken.ensures _ _ c.in_ok-k.was c.record_at.ensures.0
