-- `print_input` prints the words that were read, a part of its buffer.
use borrow.Author.Rules.{rules}
use mathlib.Core.Path.{sym}
use lib.Seq.{length-take-le}
use Rattle.image_input.proofs.Laws.{words_within}
use Rattle.sheetcells.proofs.print_input.Goals as goal

pub slice_bounds-print_image-end : goal.slice_bounds-print_image-end
slice_bounds-print_image-end g c = search (words_within, rules)

pub slice_bounds-print_image-end-2 : goal.slice_bounds-print_image-end-2
slice_bounds-print_image-end-2 g c = sym (length-take-le _ _ (search (words_within, rules)))
