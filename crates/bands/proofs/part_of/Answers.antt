-- `part_of` is where a band's words lie.
use Rattle.bands.proofs.Laws.{part_is}
use Rattle.bands.proofs.part_of.Goals as goal

pub returns : goal.returns
returns c = part_is c.args.image.now c.args.top c.args.rows _ _ c.requires.1 c.room-start.ensures c.room-words.ensures
