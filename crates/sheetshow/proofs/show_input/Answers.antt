-- `show_input` shows the words that were read, a part of its buffer.
use borrow.Author.Rules.{rules}
use Rattle.image_input.proofs.Laws.{words_within}
use Rattle.sheetshow.proofs.show_input.Goals as goal

pub shared_ref_as_front-show_image : goal.shared_ref_as_front-show_image
shared_ref_as_front-show_image g c = search (words_within, rules)
