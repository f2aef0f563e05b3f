-- `channel_line` gives the line in a channel.
use Rattle.x_flow.specs.XFlow.{channel_line_x}
use Rattle.x_flow.proofs.channel_line.Goals as goal

pub returns : goal.returns
unfolding channel_line_x
returns c = rw c.line_of.ensures
