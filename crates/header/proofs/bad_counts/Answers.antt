-- `bad_counts` finds the first count that is over its limit.
use Rattle.header.specs.InTurn.{or_words}
use Rattle.header.specs.Header.{count_rules}
use Rattle.header.proofs.bad_counts.Goals as goal

pub returns : goal.returns
unfolding count_rules or_words
returns c =
    rw (
      c.at_most.ensures,
      c.at_most-glyphs.ensures,
      c.at_most-points.ensures,
      c.at_most-elements.ensures,
      c.four_at_most-things.ensures,
    )
