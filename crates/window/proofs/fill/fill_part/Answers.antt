-- `fill_part` fills columns of its part of a plane.
use Rattle.window.proofs.Laws.{put_back}
use Rattle.window.proofs.fill.fill_part.Goals as goal

pub returns : goal.returns
returns c = put_back _ _ _ _ _ c.fill.ensures
