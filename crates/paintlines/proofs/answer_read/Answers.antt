-- `answer_read` stays inside its buffers: what is lent are parts of them.
use borrow.Author.Rules.{rules}
use mathlib.Core.Path.{sym}
use lib.Seq.{length-take-le}
use Rattle.paintlines.proofs.answer_read.Goals as goal

pub slice_bounds-answer_in-end-2 : goal.slice_bounds-answer_in-end-2
slice_bounds-answer_in-end-2 g c = sym (length-take-le _ _ (search rules))

pub slice_bounds-answer_in-end-4 : goal.slice_bounds-answer_in-end-4
slice_bounds-answer_in-end-4 g c = sym (length-take-le _ _ (search rules))

pub slice_bounds-answer_in-end-6 : goal.slice_bounds-answer_in-end-6
slice_bounds-answer_in-end-6 g c = sym (length-take-le _ _ (search rules))

pub slice_bounds-answer_in-end-8 : goal.slice_bounds-answer_in-end-8
slice_bounds-answer_in-end-8 g c = sym (length-take-le _ _ (search rules))

pub slice_bounds-answer_in-end-10 : goal.slice_bounds-answer_in-end-10
slice_bounds-answer_in-end-10 g c = sym (length-take-le _ _ (search rules))
