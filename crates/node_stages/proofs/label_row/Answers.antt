-- `label_row` answers the row of a placed label.
use borrow.Author.Rules.{rules}
use Rattle.image.specs.Records.{placed_label_at}
use Rattle.node_stages.proofs.label_row.Goals as goal

pub returns : goal.returns
unfolding placed_label_at
returns c = search rules
