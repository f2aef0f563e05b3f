-- `bad_header` finds the first word of the header that breaks its rule.
use Rattle.header.specs.InTurn.{or_words}
use Rattle.header.proofs.InTurn.{in_turn}
use Rattle.header.specs.Header.{size_rules, count_rules, header_judged}
use Rattle.header.proofs.bad_header.Goals as goal

pub returns : goal.returns
unfolding header_judged size_rules count_rules or_words
returns c = in_turn _ _ _ _ (rw (c.bad_counts.ensures, c.bad_sizes.ensures))
