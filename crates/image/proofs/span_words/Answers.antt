-- `span_words` gives the words of a span, and none where the span leaves its table or the table the image.
use mathlib.Core.Path.{refl}
use Rattle.image.proofs.span_words.Goals as goal

pub returns : goal.returns
returns c = c.span_bounds-bounds.ensures.words _ refl
