-- `bad_edge_label` finds the first word of an edge's label that breaks its rule.
use Rattle.header.specs.InTurn.{or_words}
use Rattle.edge_rules.proofs.bad_edge_label.Goals as goal

pub returns : goal.returns
unfolding or_words
returns c =
    rw (
      c.or_unless.ensures,
      c.label_count_good.ensures,
      c.or_unless-bad_start.ensures,
      c.label_start_good.ensures,
      c.word_inside-count.ensures,
      c.word_inside-start.ensures,
      c.word_inside-flags.ensures,
    )
