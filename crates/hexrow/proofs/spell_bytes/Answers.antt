-- `spell_bytes` writes as many bytes as have room. The invariant: the bytes passed are spelled, and all beyond them is as at first.
use borrow.Author.Rules.{rules}
use Rattle.hexrow.specs.Hex.{spelled_by, byte_digits}
use Rattle.hexrow.proofs.Laws.{three_long, one_more, all_spelled}
use Rattle.hexrow.proofs.spell_bytes.Goals as goal

pub loop-k-init : goal.loop-k-init
unfolding spelled_by
loop-k-init c = search rules

pub loop-k-preserved : goal.loop-k-preserved
loop-k-preserved c = (
  search rules,
  search rules,
  one_more byte_digits 3 three_long c.args.bytes.now _ _ _ c.loop-k.k c.loop-k.invariant.2 c.spell_byte.ensures (search rules),
)

pub returns-clause-text_after : goal.returns-clause-text_after
returns-clause-text_after c = all_spelled byte_digits 3 _ _ _ c.loop-k.k _ _ c.loop-k.invariant.2 c.min-count.ensures (search rules) (search rules)
