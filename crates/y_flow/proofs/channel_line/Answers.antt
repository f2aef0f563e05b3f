-- `channel_line` gives the line in a channel.
use Rattle.y_flow.specs.YFlow.{channel_line_y}
use Rattle.y_flow.proofs.channel_line.Goals as goal

pub returns : goal.returns
unfolding channel_line_y
returns c = rw c.line_of.ensures
