-- `path_span` gives the span of a path's points.
use Rattle.image.proofs.Laws.{no_points}
use Rattle.image.proofs.path_span.Goals as goal

pub returns-in_default : goal.returns-in_default
returns-in_default c = no_points c.args.path c.in_default.not-MultiSegment c.in_default.not-Orthogonal
