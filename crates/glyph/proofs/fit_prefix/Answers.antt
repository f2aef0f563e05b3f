-- `fit_prefix` hands back the fitting part: the label's first glyphs, as many as fit.
use mathlib.Core.Path.{sym}
use lib.Seq.{length-take-le}
use Rattle.glyph.specs.Fitting.{fit_prefix}
use Rattle.glyph.proofs.fit_prefix.Goals as goal

pub slice_bounds-result-end : goal.slice_bounds-result-end
slice_bounds-result-end c = sym (length-take-le _ _ c.fit_count-n.ensures.1)

pub returns : goal.returns
unfolding fit_prefix
returns c = rw c.fit_count-n.ensures.0
