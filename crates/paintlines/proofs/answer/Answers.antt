-- `answer` hands on the image that was read, a part of its buffer.
use borrow.Author.Rules.{rules}
use mathlib.Core.Path.{sym}
use lib.Seq.{length-take-le}
use Rattle.paintlines.proofs.answer.Goals as goal

pub slice_bounds-answer_read-end-2 : goal.slice_bounds-answer_read-end-2
slice_bounds-answer_read-end-2 g c = sym (length-take-le _ _ (search rules))
