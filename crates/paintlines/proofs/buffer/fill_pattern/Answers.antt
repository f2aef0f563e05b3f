-- `fill_pattern` fills a buffer with its pattern. The invariant: the words passed are filled, and all beyond them is as at first.
use borrow.Author.Rules.{rules}
use Rattle.ground.specs.Each.{numbers}
use Rattle.paintlines.proofs.Laws.{one_filled, all_filled}
use Rattle.paintlines.proofs.buffer.fill_pattern.Goals as goal

pub loop-k-init : goal.loop-k-init
unfolding numbers
loop-k-init c = search rules

pub loop-k-preserved : goal.loop-k-preserved
loop-k-preserved c = one_filled _ _ c.args.lent.now _ c.loop-k.invariant (search rules)

pub returns : goal.returns
returns c = all_filled _ _ c.args.lent.now _ c.loop-k.invariant (search rules) (search rules)
