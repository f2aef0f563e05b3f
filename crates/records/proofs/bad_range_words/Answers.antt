-- `bad_range_words` finds the first word of a width range that breaks its rule.
use Rattle.header.specs.InTurn.{or_words}
use Rattle.records.specs.Records.{range_rules}
use Rattle.header.proofs.InTurn.{in_turn}
use Rattle.records.proofs.bad_range_words.Goals as goal

pub returns : goal.returns
unfolding range_rules or_words
returns c =
    in_turn _ _ _ _
    (rw (
      c.or_unless.ensures,
      c.width_good-good.ensures,
      c.word_inside.ensures,
      c.at_most-last.ensures,
      c.at_most-first.ensures,
    ))
