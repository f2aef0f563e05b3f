-- `bad_element` finds the first word of an element that breaks its rule.
use Rattle.header.specs.InTurn.{or_words}
use Rattle.records.specs.Records.{element_rules}
use Rattle.header.proofs.InTurn.{in_turn}
use Rattle.records.proofs.bad_element.Goals as goal

pub returns : goal.returns
unfolding element_rules or_words
returns c =
    in_turn _ _ _ _
    (rw (
      c.at_most.ensures,
      c.at_most-first.ensures,
      c.bad_index-index.ensures,
      c.bad_kind-kind.ensures,
    ))
