-- `strokes` makes the table: all of it is computed by the rule.
use mathlib.Core.Path.{refl}
use Rattle.ground.specs.Each.{numbers, each}
use Rattle.shapes.specs.Block.{block}
use Rattle.shapes.specs.Shapes.{drawn_as, instead, stroke_shape, stroke_table}
use Rattle.shapes.proofs.strokes.Goals as goal

pub returns : goal.returns
unfolding each numbers block drawn_as instead stroke_shape stroke_table
returns c = refl
