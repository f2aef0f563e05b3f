-- `fill_words` reads the words of the bytes that came.
use mathlib.Core.Path.{sym}
use lib.Seq.{length-take-le}
use borrow.Author.Rules.{rules}
use Rattle.image_input.proofs.Laws.{words_read}
use Rattle.image_input.proofs.fill_words.Goals as goal

pub returns : goal.returns
returns c = words_read _ _ _ c.args.got _ c.fill.ensures.value c.fill.ensures.words_after (search rules) (search rules)

pub slice_bounds-fill-end : goal.slice_bounds-fill-end
slice_bounds-fill-end c = sym (length-take-le _ _ (search rules))
