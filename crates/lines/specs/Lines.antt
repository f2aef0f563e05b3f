-- A line with at most two arrows, down a column and along a row: "'Between' excludes both ends". `pieceSpots` of a vertical or a horizontal piece is this.
use Rattle.std.specs.Prelude.{Bool, List, map}
use Rattle.ground.specs.Each.{between}
use Rattle.cell.specs.declared.Arms.{Arms}
use Rattle.rows.specs.Spots.{Spot, at}
use Rattle.flow.specs.declared.Line.{Line}
use Rattle.flow.specs.Pieces.{line_ink}

abbrev pub down_spots : Bool → Line → Arms → List Spot
down_spots dashed l arms = map (λ y. at l.lane y (line_ink dashed l arms y)) (between l.from l.to)

abbrev pub across_spots : Bool → Line → Arms → List Spot
across_spots dashed l arms = map (λ x. at x l.lane (line_ink dashed l arms x)) (between l.from l.to)
