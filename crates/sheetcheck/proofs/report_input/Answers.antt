-- `report_input` reports the words that were read, a part of its buffer.
use borrow.Author.Rules.{rules}
use mathlib.Core.Path.{sym}
use lib.Seq.{length-take-le}
use Rattle.image_input.proofs.Laws.{words_within}
use Rattle.sheetcheck.proofs.report_input.Goals as goal

pub slice_bounds-report-end : goal.slice_bounds-report-end
slice_bounds-report-end g c = search (words_within, rules)

pub slice_bounds-report-end-in-Ok : goal.slice_bounds-report-end-in-Ok
slice_bounds-report-end-in-Ok g c = sym (length-take-le _ _ (search (words_within, rules)))
