-- `edge_label_of` gives the label that an edge's flags and two words say.
use Rattle.image.specs.Records.{edge_label_of}
use Rattle.image.proofs.edge_label_of.Goals as goal

pub returns : goal.returns
unfolding edge_label_of
returns c = rw (c.then_some.ensures, c.flag.ensures)
