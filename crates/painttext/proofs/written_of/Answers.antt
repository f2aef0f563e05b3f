-- `written_of` meets its contract.
use Rattle.painttext.specs.PaintedText.{written_of}
use Rattle.painttext.proofs.written_of.Goals as goal

pub returns-in-Ok : goal.returns-in-Ok
unfolding written_of
returns-in-Ok c = rw c.in-Ok.is

pub returns-in-Err : goal.returns-in-Err
unfolding written_of
returns-in-Err c = rw c.in-Err.is
