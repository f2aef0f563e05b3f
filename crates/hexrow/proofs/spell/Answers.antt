-- `spell` writes as many words as have room. The invariant: the words passed are spelled, and all beyond them is as at first.
use borrow.Author.Rules.{rules}
use Rattle.hexrow.specs.Hex.{spelled_by, hex_digits}
use Rattle.hexrow.proofs.Laws.{nine_long, one_more, all_spelled}
use Rattle.hexrow.proofs.spell.Goals as goal

pub loop-k-init : goal.loop-k-init
unfolding spelled_by
loop-k-init c = search rules

pub loop-k-preserved : goal.loop-k-preserved
loop-k-preserved c = (
  search rules,
  search rules,
  one_more hex_digits 9 nine_long c.args.words.now _ _ _ c.loop-k.k c.loop-k.invariant.2 c.spell_word.ensures (search rules),
)

pub returns-clause-text_after : goal.returns-clause-text_after
returns-clause-text_after c = all_spelled hex_digits 9 _ _ _ c.loop-k.k _ _ c.loop-k.invariant.2 c.min-count.ensures (search rules) (search rules)
