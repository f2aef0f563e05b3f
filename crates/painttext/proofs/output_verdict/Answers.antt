-- `output_verdict` meets its contract.
use Rattle.painttext.proofs.Laws.{output_short, output_long}
use Rattle.painttext.proofs.output_verdict.Goals as goal

pub returns-then-out-wanted : goal.returns-then-out-wanted
returns-then-out-wanted c = output_short _ _ c.if-out-wanted.true

pub returns : goal.returns
returns c = output_long _ _ c.if-out-wanted.false
