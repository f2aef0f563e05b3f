-- For the proofs alone: the cursor of the code's walk along an Orthogonal path. What it hands back is the legs between the path's stops (`leg-of-walk` of the
-- proofs).
use Rattle.std.specs.Prelude.{ℕ, zero, suc, ◌+◌, ◌-◌, true, false, cond, List, [], ◌∷◌, length, Option, Some, None, is_none}
use Rattle.image.specs.declared.Edge.{Edge}
use Rattle.image.specs.declared.Point.{Point}
use Rattle.flow.specs.Flow.{source_marker, target_marker}
use Rattle.orthogonal.specs.declared.Stop.{Stop}
use Rattle.orthogonal.specs.declared.PathLeg.{PathLeg}
use Rattle.orthogonal.specs.declared.Cursor.{Cursor}
use Rattle.orthogonal.specs.declared.EndMark.{EndMark}
use Rattle.image.specs.Spans.{point_count}
use Rattle.orthogonal.specs.Points.{source, path_point, path_points, same_point, stops_after}
use Rattle.orthogonal.specs.Orthogonal.{end_mark}

-- how many points of the path are left from point k on
abbrev pub points_left : List ℕ → ℕ → ℕ
points_left points k = point_count points + 2 - k

-- the first point from k on that differs from a, with so many left
unfoldable pub stop_from : Edge → List ℕ → Point → ℕ → ℕ → Option Stop
stop_from e points a k zero = None
stop_from e points a k (suc left) =
    cond (same_point a (path_point e points k)) (stop_from e points a (suc k) left)
    (Some (record { point = path_point e points k; next = suc k }))

unfoldable pub next_stop : Edge → List ℕ → Point → ℕ → Option Stop
next_stop e points a k = stop_from e points a k (points_left points k)

unfoldable pub begin_walk : Edge → List ℕ → Cursor
begin_walk e points = record {
  before = source e;
  stop = source e;
  ahead = next_stop e points (source e) 1;
  first = true;
}

-- the leg to the stop ahead, where there is one, and the cursor past it

abbrev pub leg_to : Cursor → Point → Option Stop → Option (PathLeg × Cursor)
leg_to c to after =
    Some (
      record { before = c.before; from = c.stop; to = to; first = c.first; last = is_none after },
      record { before = c.stop; stop = to; ahead = after; first = false },
    )

abbrev pub step_to : Edge → List ℕ → Cursor → Option Stop → Option (PathLeg × Cursor)
step_to e points c None = None
step_to e points c (Some s) = leg_to c s.point (next_stop e points s.point s.next)

unfoldable pub step_of : Edge → List ℕ → Cursor → Option (PathLeg × Cursor)
step_of e points c = step_to e points c c.ahead

-- the cursor past a step, and past the first k legs of the walk

abbrev pub cursor_past : Option (PathLeg × Cursor) → Cursor → Cursor
cursor_past (Some s) c = s.1
cursor_past None c = c

unfoldable pub cursor_at : Edge → List ℕ → ℕ → Cursor
cursor_at e points zero = begin_walk e points
cursor_at e points (suc k) = cursor_past (step_of e points (cursor_at e points k)) (cursor_at e points k)

-- the stops that a walk has yet to reach, and how many legs it has yet to hand back

abbrev pub stops_ahead : Edge → List ℕ → Option Stop → List Point
stops_ahead e points None = []
stops_ahead e points (Some s) = s.point ∷ stops_after s.point (path_points e points s.next (points_left points s.next))

abbrev pub legs_left : Edge → List ℕ → Cursor → ℕ
legs_left e points c = length (stops_ahead e points c.ahead)

-- what a leg of the walk makes of the two arrows: the first leg decides the source's, the last the target's

abbrev pub source_after : Edge → PathLeg → Option EndMark → Option EndMark
source_after e leg mark = cond leg.first (end_mark (source_marker e) leg.last leg.from leg.to) mark

abbrev pub target_after : Edge → PathLeg → Option EndMark → Option EndMark
target_after e leg mark = cond leg.last (end_mark (target_marker e) leg.first leg.to leg.from) mark
