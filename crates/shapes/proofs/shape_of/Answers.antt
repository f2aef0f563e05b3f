-- `shape_of` gives what a cell is written as.
use mathlib.Core.Path.{refl, ap}
use Rattle.cell.specs.OneCell.{read}
use Rattle.std.specs.Prelude.{Some}
use Rattle.shapes.specs.Shapes.{shape_of}
use Rattle.shapes.proofs.Laws.{written_as, empty_written}
use Rattle.shapes.proofs.shape_of.Goals as goal

pub returns-then-word-lt1073741824 : goal.returns-then-word-lt1073741824
returns-then-word-lt1073741824 c = empty_written _ c.if-word-lt1073741824.true

pub returns-then-word-eq2 : goal.returns-then-word-eq2
unfolding read shape_of
returns-then-word-eq2 c = rw (c.if-word-eq2.true, c.stroke_shape.ensures, c.read.ensures)

pub returns-in-Empty : goal.returns-in-Empty
unfolding shape_of
returns-in-Empty c = written_as _ _ _ _ c.read-parts.ensures c.in-Empty.is refl

pub returns-in-Text : goal.returns-in-Text
unfolding shape_of
returns-in-Text c = written_as _ _ _ _ c.read-parts.ensures c.in-Text.is refl

pub returns-in-Continuation : goal.returns-in-Continuation
unfolding shape_of
returns-in-Continuation c = written_as _ _ _ _ c.read-parts.ensures c.in-Continuation.is refl

pub returns-in-Stroke : goal.returns-in-Stroke
unfolding shape_of
returns-in-Stroke c = written_as _ _ _ _ c.read-parts.ensures c.in-Stroke.is (ap Some c.stroke_shape-in-Stroke.ensures)

pub returns-in-Marker : goal.returns-in-Marker
unfolding shape_of
returns-in-Marker c = written_as _ _ _ _ c.read-parts.ensures c.in-Marker.is (ap Some c.marker_shape.ensures)
