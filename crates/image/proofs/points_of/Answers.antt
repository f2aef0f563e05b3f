-- `points_of` gives the points of a path.
use Rattle.image.proofs.points_of.Goals as goal

pub returns : goal.returns
returns c = rw (c.span_words.ensures, c.path_span.ensures)
