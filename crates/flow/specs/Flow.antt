-- What both flows share: the flow's sign, a coordinate so many cells along it, the arrows on a line, the arms of a corner, and the bend of an edge or of a leg.
-- `s` is true for +1.
use Rattle.std.specs.Prelude.{ℕ, ◌+◌, Bool, true, false, not, cond, ◌&&◌, leb, ltb, ℤ, pos, negsuc, ◌+ℤ◌, ◌*ℤ◌, Option, Some, None}
use Rattle.cell.specs.declared.Weight.{Weight}
use Rattle.cell.specs.declared.Weight.TheVariants as weight
use Rattle.cell.specs.declared.Arms.{Arms}
use Rattle.cell.specs.declared.Dir.{Dir}
use Rattle.image.specs.declared.Edge.{Edge}
use Rattle.flow.specs.declared.Head.{Head}
use Rattle.flow.specs.declared.Line.{Line}
use Rattle.flow.specs.declared.Bend.{Bend}
use Rattle.flow.specs.declared.Leg.{Leg}

-- "Let s be +1 if to y ≥ from y, else −1", and so for x
abbrev pub flow_sign : ℕ → ℕ → Bool
flow_sign from to = leb from to

-- s as a number: +1, or −1, which is `negsuc 0`
abbrev pub sign_of : Bool → ℤ
sign_of s = cond s (pos 1) (negsuc 0)

-- a signed sum as a coordinate, "compared before any cast": the number itself, or that it lies below 0
abbrev pub coordinate_of : ℤ → Option ℕ
coordinate_of (pos n) = Some n
coordinate_of (negsuc n) = None

-- "signed 64-bit sums": "flow sign times offset from a coordinate"
unfoldable pub along : Bool → ℕ → ℕ → Option ℕ
along s from steps = coordinate_of (pos from +ℤ sign_of s *ℤ pos steps)

-- "Reversed swaps start and end markers"

abbrev pub source_marker : Edge → Bool
source_marker e = cond e.reversed e.end_marker e.start_marker

abbrev pub target_marker : Edge → Bool
target_marker e = cond e.reversed e.start_marker e.end_marker

-- an arrow at a coordinate, where one is wanted: "A row of −1 matches no cell."
unfoldable pub head_at : Bool → Option ℕ → Dir → Option Head
head_at wanted (Some n) dir = cond wanted (Some (record { place = n; dir = dir })) None
head_at wanted None dir = None

-- "a start arrow points −s at from y + s": the direction is the flow's to say
unfoldable pub start_head : Bool → Bool → ℕ → Dir → Option Head
start_head wanted s from dir = head_at wanted (along s from 1) dir

-- "An end arrow points s at to y − s"
unfoldable pub end_head : Bool → Bool → ℕ → Dir → Option Head
end_head wanted s to dir = head_at wanted (along (not s) to 1) dir

-- a line on a column (or a row) between two rows (or columns): "'Between' excludes both ends"; of two arrows on one cell the winner stands
unfoldable pub line_of : ℕ → ℕ → ℕ → Option Head → Option Head → Line
line_of lane from to winner other = record { lane = lane; from = from; to = to; winner = winner; other = other }

-- an arm, where it is wanted
abbrev pub arm_if : Bool → Weight → Weight
arm_if wanted w = cond wanted w weight.None

-- an arm down (else up) and an arm right (else left)
abbrev pub corner : Weight → Bool → Bool → Arms
corner w down right = record {
  up = arm_if (not down) w;
  down = arm_if down w;
  left = arm_if (not right) w;
  right = arm_if right w;
}

-- The bend of an edge with a Corner, and of a leg of a MultiSegment.

unfoldable pub corner_bend : Edge → ℕ → Bend
corner_bend e bend = record {
  has_trunk = true;
  strokes_start = false;
  start_arrow = source_marker e;
  end_arrow = target_marker e;
  bend = bend;
  x1 = e.from_x;
  y1 = e.from_y;
  x2 = e.to_x;
  y2 = e.to_y;
}

-- "with offset > 0 the first leg has a trunk to it (start arrow only) .. (end arrow only, on the last leg). Corner arrow on the first leg .. Every later
-- leg strokes .. its own start."
unfoldable pub leg_bend : Edge → ℕ → Leg → ℕ → Bend
leg_bend e offset leg bend = record {
  has_trunk = leg.first && ltb 0 offset;
  strokes_start = not leg.first;
  start_arrow = leg.first && source_marker e;
  end_arrow = leg.last && target_marker e;
  bend = bend;
  x1 = leg.x1;
  y1 = leg.y1;
  x2 = leg.x2;
  y2 = leg.y2;
}

-- how far along the flow a leg's corner lies: "1 + offset on the first leg, 0 later"
abbrev pub corner_steps : ℕ → Leg → ℕ
corner_steps offset leg = cond leg.first (1 + offset) 1
