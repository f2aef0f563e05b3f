-- `fill_output` fills the output with its pattern. The invariant: the bytes passed are filled, and all beyond them is as at first.
use borrow.Author.Rules.{rules}
use Prim.Native.Nat.{◌+◌, ◌%◌}
use Rattle.ground.specs.Each.{numbers}
use Rattle.paintlines.proofs.Laws.{one_filled, all_filled}
use Rattle.paintlines.proofs.buffer.fill_output.Goals as goal

pub loop-k-init : goal.loop-k-init
unfolding numbers
loop-k-init c = search rules

pub loop-k-preserved : goal.loop-k-preserved
loop-k-preserved c = one_filled (λ i. (0x50 + i) % 256) _ c.args.out.now _ c.loop-k.invariant (search rules)

pub returns : goal.returns
returns c = all_filled _ _ c.args.out.now _ c.loop-k.invariant (search rules) (search rules)
