-- `show_image` shows what it is known to have room for.
use borrow.Author.Rules.{rules}
use Rattle.sheetshow.proofs.Laws.{whole_shown}
use Rattle.sheetshow.proofs.show_image.Goals as goal

pub show_whole-shown-requires : goal.show_whole-shown-requires
show_whole-shown-requires g c = ((c.paint_whole-painted.ensures.whole (search rules)).0, whole_shown _ _ _ _ c.paint_whole-painted.ensures (search rules) (search rules))

pub show_bands-requires : goal.show_bands-requires
show_bands-requires g c = c.paint_whole-painted.ensures.accepted (search rules)
