-- `fill` puts a value into columns of a row. The loop's invariant is the work left.
use borrow.Author.Rules.{rules}
use Rattle.window.proofs.Fills.{fill_again, fill_done}
use Rattle.window.proofs.fill.fill.Goals as goal

pub loop-k-preserved : goal.loop-k-preserved
loop-k-preserved c = fill_again _ _ _ _ _ _ (search rules) c.loop-k.invariant

pub returns : goal.returns
returns c = search (fill_done, rules)
